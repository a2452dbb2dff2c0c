-- The ends of channels in lists of inlets or outlets, one of which is replaced by one of the same channel.
use Rattle.std.proofs.Common.{◌≡◌, ◌≢◌, inl, inr, ◌<◌, ℕ, zero, suc, List, [], ◌∷◌, true, if◌then◌else◌, map, length, get_or, set, refl, sym, subst, ap, ◌∙◌, arith}
use Rattle.std.specs.List.{All, AllPairs}
use Rattle.std.proofs.Math.Seq.{map-set_same}
use Rattle.std.proofs.lemmas.Bool.{cases_Bool}
use Rattle.std.proofs.lemmas.List.{get_or-map, length-map, length-set, get_or-set_same}
use Rattle.std.proofs.lemmas.List.Elements.{All-head, All-tail}
use Rattle.bk_msg.specs.declared.codec.Packet as wire
use Rattle.bk_agents.proofs.SameChannel.{same-channel}
use Rattle.bk_system.specs.Routes.{is_same}
use Rattle.bk_system.specs.declared.channel.Channel.{Channel}
use Rattle.bk_threads.proofs.Orders.{pairs-tail}
use Rattle.bk_rounds.specs.declared.ends.Inlet.{Inlet}
use Rattle.bk_rounds.specs.declared.ends.Outlet.{Outlet}
use Rattle.bk_rounds.specs.Ends.{taken_of, sent_to, inlet_channel, outlet_channel, is_in}
use Rattle.bk_rounds.proofs.Channels.{same-one, other-one}
use Rattle.bk_rounds.proofs.Choices.{if-true, if-false}

abbrev pub AreDifferent : List Channel → Type 0
AreDifferent = AllPairs (λ channel other. channel ≢ other)

module _ {End : Type 0} (at : End → Channel) where
  -- of ends of different channels, the first is of another than one behind it
  before : (end : End) (ends : List End) (i : ℕ) (d : End) → AreDifferent (map at (end ∷ ends)) → i < length ends
      → at end ≢ at (get_or ends i d)
  before end ends i d differ within =
      subst (λ (channel : Channel). at end ≢ channel) (get_or-map at ends i d (at d) within)
      (differ 0 (suc i) (at d) (omega arith) (rw length-map (omega arith)))

  -- the replaced end is of the same channel
  pub channels-kept : (ends : List End) (i : ℕ) (d end : End) → d ≡ get_or ends i d → at end ≡ at d
      → map at (set ends i end) ≡ map at ends
  channels-kept ends i d end is same = map-set_same at ends i end d (same ∙ ap at is)

  pub at-index : (ends : List End) (channels : List Channel) (i : ℕ) (d : End) → map at ends ≡ channels → i < length ends
      → d ≡ get_or ends i d → get_or channels i (at d) ≡ at d
  at-index ends channels i d list within is =
      subst (λ (all : List Channel). get_or all i (at d) ≡ at d) list (get_or-map at ends i d (at d) within ∙ ap at (sym is))

  pub as-many : (ends : List End) (channels : List Channel) → map at ends ≡ channels → length ends ≡ length channels
  as-many ends channels list = sym (length-map ends at) ∙ ap length list

  pub all-at : (P : Channel → Type 0) (ends : List End) (channels : List Channel) (i : ℕ) (d : End) → map at ends ≡ channels
      → i < length ends → d ≡ get_or ends i d → All P channels → P (at d)
  all-at P ends channels i d list within is all =
      let many = as-many ends channels list in
      let inside : i < length channels = omega arith in
      subst P (at-index ends channels i d list within is) (all i (at d) inside)

-- The packets of a channel in a list of ends of any kind: those of the first end that is of this channel.
module _ {End : Type 0} (at : End → Channel) (packets : End → List wire.Packet) where
  abbrev pub packets_at : List End → Channel → List wire.Packet
  packets_at [] channel = []
  packets_at (end ∷ ends) channel = if is_same (at end) channel then packets end else packets_at ends channel

  -- of ends of different channels, the one at a place is the one of its channel
  pub at-place : (ends : List End) (i : ℕ) (d : End) → AreDifferent (map at ends) → i < length ends
      → packets_at ends (at (get_or ends i d)) ≡ packets (get_or ends i d)
  at-place [] i d differ within = absurd (omega arith)
  at-place (end ∷ ends) zero d differ within =
      if-true (is_same (at end) (at end)) (packets end) (packets_at ends (at end)) (same-one (at end))
  at-place (end ∷ ends) (suc i) d differ within =
      let later : i < length ends = omega arith in
      let apart = before at end ends i d differ later in
      if-false (is_same (at end) (at (get_or ends i d))) (packets end) (packets_at ends (at (get_or ends i d)))
      (other-one (at end) (at (get_or ends i d)) apart)
      ∙ at-place ends i d (pairs-tail (λ channel other. channel ≢ other) (at end) (map at ends) differ) later

  -- where it is replaced, the packets of its channel alone are others
  pub other-place : (ends : List End) (i : ℕ) (d end : End) (channel : Channel) → at end ≡ at (get_or ends i d) → i < length ends
      → at end ≢ channel → packets_at (set ends i end) channel ≡ packets_at ends channel
  other-place [] i d end channel same within differ = absurd (omega arith)
  other-place (first ∷ ends) zero d end channel same within differ =
      if-false (is_same (at end) channel) (packets end) (packets_at ends channel) (other-one (at end) channel differ)
      ∙ sym (if-false (is_same (at first) channel) (packets first) (packets_at ends channel)
      (other-one (at first) channel (λ e. differ (same ∙ e))))
  other-place (first ∷ ends) (suc i) d end channel same within differ =
      ap (λ (ps : List wire.Packet). if is_same (at first) channel then packets first else ps)
      (other-place ends i d end channel same (omega arith) differ)

  pub here-before : (ends : List End) (i : ℕ) (d : End) → AreDifferent (map at ends) → i < length ends → d ≡ get_or ends i d
      → packets_at ends (at d) ≡ packets d
  here-before ends i d differ within is =
      subst (λ (x : End). packets_at ends (at x) ≡ packets x) (sym is) (at-place ends i d differ within)

  pub here-after : (ends : List End) (i : ℕ) (d end : End) → AreDifferent (map at ends) → i < length ends → d ≡ get_or ends i d
      → at end ≡ at d → packets_at (set ends i end) (at d) ≡ packets end
  here-after ends i d end differ within is same =
      let list = channels-kept at ends i d end is same in
      let found : get_or (set ends i end) i d ≡ end = get_or-set_same ends i end d within in
      let inside : i < length (set ends i end) = rw length-set within in
      subst (λ (channel : Channel). packets_at (set ends i end) channel ≡ packets end) same
      (subst (λ (x : End). packets_at (set ends i end) (at x) ≡ packets x) found
      (at-place (set ends i end) i d (subst AreDifferent (sym list) differ) inside))

-- the two kinds of ends
pub inlets-packets : (inlets : List Inlet) (channel : Channel)
    → taken_of inlets channel ≡ packets_at inlet_channel (λ (inlet : Inlet). inlet.receiver.taken) inlets channel
inlets-packets [] channel = refl
inlets-packets (inlet ∷ inlets) channel =
    ap (λ (ps : List wire.Packet). if is_same inlet.channel channel then inlet.receiver.taken else ps) (inlets-packets inlets channel)

pub outlets-packets : (outlets : List Outlet) (channel : Channel)
    → sent_to outlets channel ≡ packets_at outlet_channel (λ (outlet : Outlet). outlet.sender.sent) outlets channel
outlets-packets [] channel = refl
outlets-packets (outlet ∷ outlets) channel =
    ap (λ (ps : List wire.Packet). if is_same outlet.channel channel then outlet.sender.sent else ps) (outlets-packets outlets channel)

at-first : (P : Channel → Type 0) (other : Channel) (others : List Channel) (channel : Channel) → is_same other channel ≡ true
    → All P (other ∷ others) → P channel
at-first P other others channel same all = subst P ((same-channel other channel).0 same) (All-head P other others all)

-- what holds of each channel of a list holds of those in it
pub in-list : (P : Channel → Type 0) (channels : List Channel) (channel : Channel) → is_in channel channels ≡ true → All P channels
    → P channel
in-list P [] channel there all = absurd (cc (there))
in-list P (other ∷ others) channel there all = elim (cases_Bool (is_same other channel)) as (λ cases. P channel) [
  | inl same ↦ at-first P other others channel same all
  | inr differ ↦ in-list P others channel (sym (if-false (is_same other channel) true (is_in channel others) differ) ∙ there)
      (All-tail P other others all)
]
