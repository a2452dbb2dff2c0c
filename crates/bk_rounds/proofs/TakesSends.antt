-- What an agent takes and sends, channel by channel.
use Rattle.std.proofs.Common.{◌≡◌, ◌≢◌, ◌⊎◌, inl, inr, ◌≤◌, ℕ, List, [], ◌++◌, if◌then◌else◌, append-nil, append_assoc, refl, sym, subst, ap, ◌∙◌, arith}
use Rattle.std.specs.List.{All}
use Rattle.std.proofs.lemmas.Bool.{cases_Bool}
use Rattle.std.proofs.lemmas.List.{map-append}
use Rattle.std.proofs.lemmas.List.Elements.{All-nil, All-append, All-weaker, All-same}
use Rattle.bk_base.specs.Places.{Shape}
use Rattle.bk_msg.specs.declared.codec.Packet as wire
use Rattle.bk_msg.specs.declared.row.Row.{Row}
use Rattle.bk_agents.proofs.SameChannel.{same-channel}
use Rattle.bk_system.specs.Deliveries.{Holds}
use Rattle.bk_system.specs.Routes.{channel_of, ends_at, is_same}
use Rattle.bk_system.specs.State.{State}
use Rattle.bk_system.specs.declared.channel.Channel.{Channel}
use Rattle.bk_threads.specs.Agents.{Packet, Channels}
use Rattle.bk_threads.specs.System.{messages_of, message_of, packets_of}
use Rattle.bk_rounds.specs.Ends.{IsInward, IsOutward}
use Rattle.bk_rounds.specs.Moves.{Brings, Sheds, Takes, Sends, IsBy}
use Rattle.bk_rounds.specs.Reading.{packets_in}
use Rattle.bk_rounds.proofs.Channels.{other-one, holds-here, holds-there, holds-part}
use Rattle.bk_rounds.proofs.Choices.{if-true, if-false}
use Rattle.bk_rounds.proofs.Spelled.{packets-append}

-- a channel is this one or another
pub this-or-other : (channel other : Channel) → (channel ≡ other) ⊎ (channel ≢ other)
this-or-other channel other = elim (cases_Bool (is_same channel other)) as (λ cases. (channel ≡ other) ⊎ (channel ≢ other)) [
  | inl same ↦ inl ((same-channel channel other).0 same)
  | inr differ ↦ inr (λ same. absurd (cc ((same-channel channel other).1 same, differ)))
]

-- TAKES

pub takes-none : (k : Shape) (n : ℕ) (s : State) (took : Channels Channel Row) (clock : ℕ) → Takes k n s s took took clock clock
takes-none k n s took clock = record {
  more = λ channel. [];
  took_later = λ channel. sym (append-nil (took channel));
  inbox = λ channel. sym (append-nil (channel_of s channel));
  inward = λ channel. inr refl;
  stamps = λ channel. All-nil (IsBy clock);
  forward = omega arith;
  part = refl;
}

inward-both : (k : Shape) (n : ℕ) (channel : Channel) (early late : List (Packet Row)) → IsInward k n channel ⊎ (early ≡ [])
    → IsInward k n channel ⊎ (late ≡ []) → IsInward k n channel ⊎ (early ++ late ≡ [])
inward-both k n channel early late (inl inward) two = inl inward
inward-both k n channel early late (inr none) (inl inward) = inl inward
inward-both k n channel early late (inr none) (inr nothing) = inr (ap (λ ps. ps ++ late) none ∙ nothing)

pub takes-twice : (k : Shape) (n : ℕ) (old mid new : State) (took later last : Channels Channel Row) (clock next now : ℕ)
    → Takes k n old mid took later clock next → Takes k n mid new later last next now → Takes k n old new took last clock now
takes-twice k n old mid new took later last clock next now one two =
    let early : clock ≤ next = one.forward in
    let late : next ≤ now = two.forward in
    record {
      more = λ channel. one.more channel ++ two.more channel;
      took_later = λ channel. two.took_later channel ∙ ap (λ ps. ps ++ two.more channel) (one.took_later channel)
          ∙ append_assoc (took channel) (one.more channel) (two.more channel);
      inbox = λ channel. two.inbox channel ∙ ap (λ ms. ms ++ messages_of (two.more channel)) (one.inbox channel)
          ∙ append_assoc (channel_of old channel) (messages_of (one.more channel)) (messages_of (two.more channel))
          ∙ ap (λ ms. channel_of old channel ++ ms) (sym (map-append message_of (one.more channel) (two.more channel)));
      inward = λ channel. inward-both k n channel (one.more channel) (two.more channel) (one.inward channel) (two.inward channel);
      stamps = λ channel. All-append (IsBy now) (one.more channel) (two.more channel)
          (All-weaker (IsBy next) (IsBy now) (λ packet by. omega (arith, by, late)) (one.more channel) (one.stamps channel))
          (two.stamps channel);
      forward = omega arith;
      part = two.part ∙ one.part;
    }

-- packets of one channel alone
abbrev pub only : Channel → List (Packet Row) → Channels Channel Row
only channel packets other = if is_same channel other then packets else []

only-here : (channel other : Channel) (packets : List (Packet Row)) → channel ≡ other → only channel packets other ≡ packets
only-here channel other packets same = if-true (is_same channel other) packets [] ((same-channel channel other).1 same)

only-there : (channel other : Channel) (packets : List (Packet Row)) → channel ≢ other → only channel packets other ≡ []
only-there channel other packets differ = if-false (is_same channel other) packets [] (other-one channel other differ)

took-by : (channel other : Channel) (took later : Channels Channel Row) (said : List (Packet Row))
    → later channel ≡ took channel ++ said → ((other : Channel) → channel ≢ other → later other ≡ took other)
    → (channel ≡ other) ⊎ (channel ≢ other) → later other ≡ took other ++ only channel said other
took-by channel other took later said list elsewhere (inl same) =
    subst (λ (x : Channel). later x ≡ took x ++ said) same list
    ∙ ap (λ (ps : List (Packet Row)). took other ++ ps) (sym (only-here channel other said same))
took-by channel other took later said list elsewhere (inr differ) =
    elsewhere other differ ∙ sym (append-nil (took other))
    ∙ ap (λ (ps : List (Packet Row)). took other ++ ps) (sym (only-there channel other said differ))

inbox-by : (channel other : Channel) (old new : State) (said : List (Packet Row))
    → Holds old new channel (channel_of old channel ++ messages_of said) → (channel ≡ other) ⊎ (channel ≢ other)
    → channel_of new other ≡ channel_of old other ++ messages_of (only channel said other)
inbox-by channel other old new said holds (inl same) =
    subst (λ (x : Channel). channel_of new x ≡ channel_of old x ++ messages_of said) same
    (holds-here old new channel (channel_of old channel ++ messages_of said) holds)
    ∙ ap (λ (ps : List (Packet Row)). channel_of old other ++ messages_of ps) (sym (only-here channel other said same))
inbox-by channel other old new said holds (inr differ) =
    holds-there old new channel other (channel_of old channel ++ messages_of said) holds differ
    ∙ sym (append-nil (channel_of old other))
    ∙ ap (λ (ps : List (Packet Row)). channel_of old other ++ messages_of ps) (sym (only-there channel other said differ))

inward-by : (k : Shape) (n : ℕ) (channel other : Channel) (said : List (Packet Row)) → IsInward k n channel
    → (channel ≡ other) ⊎ (channel ≢ other) → IsInward k n other ⊎ (only channel said other ≡ [])
inward-by k n channel other said inward (inl same) = inl (subst (IsInward k n) same inward)
inward-by k n channel other said inward (inr differ) = inr (only-there channel other said differ)

stamps-by : (clock : ℕ) (channel other : Channel) (said : List (Packet Row)) → All (IsBy clock) said
    → (channel ≡ other) ⊎ (channel ≢ other) → All (IsBy clock) (only channel said other)
stamps-by clock channel other said by (inl same) = All-same (IsBy clock) _ said (only-here channel other said same) by
stamps-by clock channel other said by (inr differ) =
    All-same (IsBy clock) _ [] (only-there channel other said differ) (All-nil (IsBy clock))

-- Packets of one inlet are taken.
pub takes-one : (k : Shape) (n : ℕ) (channel : Channel) (old new : State) (took later : Channels Channel Row)
    (taken last : List wire.Packet) (clock next : ℕ) → Brings k channel old new taken last clock next → IsInward k n channel
    → took channel ≡ packets_in k taken → later channel ≡ packets_in k last
    → ((other : Channel) → channel ≢ other → later other ≡ took other) → Takes k n old new took later clock next
takes-one k n channel old new took later taken last clock next brings inward here now elsewhere =
    let said = packets_in k brings.more in
    let list = now ∙ ap (packets_in k) brings.taken_later ∙ packets-append k taken brings.more
    ∙ ap (λ (ps : List (Packet Row)). ps ++ said) (sym here) in
    record {
      more = only channel said;
      took_later = λ other. took-by channel other took later said list elsewhere (this-or-other channel other);
      inbox = λ other. inbox-by channel other old new said brings.holds (this-or-other channel other);
      inward = λ other. inward-by k n channel other said inward (this-or-other channel other);
      stamps = λ other. stamps-by next channel other said brings.stamps (this-or-other channel other);
      forward = brings.forward;
      part = holds-part k n old new channel (channel_of old channel ++ messages_of said) brings.holds;
    }

-- SENDS

pub sends-none : (k : Shape) (n : ℕ) (s : State) (sent : Channels Channel Row) (clock : ℕ) → Sends k n s s sent sent clock
sends-none k n s sent clock = record {
  total = λ channel outward. refl;
  inbox = λ channel here. refl;
  part = refl;
}

pub sends-twice : (k : Shape) (n : ℕ) (old mid new : State) (sent later last : Channels Channel Row) (clock : ℕ)
    → Sends k n old mid sent later clock → Sends k n mid new later last clock → Sends k n old new sent last clock
sends-twice k n old mid new sent later last clock one two = record {
  total = λ channel outward. two.total channel outward ∙ one.total channel outward;
  inbox = λ channel here. two.inbox channel here ∙ one.inbox channel here;
  part = two.part ∙ one.part;
}

total-by : (k : Shape) (channel other : Channel) (old new : State) (sent later : Channels Channel Row) (given last : List wire.Packet)
    (clock : ℕ) → Sheds k channel old new given last clock → sent channel ≡ packets_in k given
    → later channel ≡ packets_in k last
    → ((other : Channel) → channel ≢ other → later other ≡ sent other) → (channel ≡ other) ⊎ (channel ≢ other)
    → later other ++ packets_of clock (channel_of new other) ≡ sent other ++ packets_of clock (channel_of old other)
total-by k channel other old new sent later given last clock sheds here now elsewhere (inl same) =
    subst (λ (x : Channel). later x ++ packets_of clock (channel_of new x) ≡ sent x ++ packets_of clock (channel_of old x)) same
    (ap (λ (ps : List (Packet Row)). ps ++ packets_of clock (channel_of new channel)) now
    ∙ ap (λ (ms : List Row). packets_in k last ++ packets_of clock ms) (holds-here old new channel sheds.rest sheds.holds)
    ∙ sheds.total
    ∙ ap (λ (ps : List (Packet Row)). ps ++ packets_of clock (channel_of old channel)) (sym here))
total-by k channel other old new sent later given last clock sheds here now elsewhere (inr differ) =
    ap (λ (ps : List (Packet Row)). ps ++ packets_of clock (channel_of new other)) (elsewhere other differ)
    ∙ ap (λ (ms : List Row). sent other ++ packets_of clock ms) (holds-there old new channel other sheds.rest sheds.holds differ)

-- Messages of one outlet are sent.
pub sends-one : (k : Shape) (n : ℕ) (channel : Channel) (old new : State) (sent later : Channels Channel Row)
    (given last : List wire.Packet) (clock : ℕ) → Sheds k channel old new given last clock → IsOutward k n channel
    → sent channel ≡ packets_in k given → later channel ≡ packets_in k last
    → ((other : Channel) → channel ≢ other → later other ≡ sent other) → Sends k n old new sent later clock
sends-one k n channel old new sent later given last clock sheds outward here now elsewhere = record {
  total = λ other leaves. total-by k channel other old new sent later given last clock sheds here now elsewhere
      (this-or-other channel other);
  inbox = λ other ends. holds-there old new channel other sheds.rest sheds.holds
      (λ same. outward.elsewhere (ap (ends_at k) same ∙ ends));
  part = holds-part k n old new channel sheds.rest sheds.holds;
}
