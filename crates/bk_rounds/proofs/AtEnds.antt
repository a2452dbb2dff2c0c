-- What a call at one end of a channel does, among all ends of an agent.
use Rattle.std.proofs.Common.{◌≡◌, ◌≢◌, ◌⊎◌, inl, inr, ◌<◌, ◌+◌, ℕ, List, [], map, length, get_or, set, sym, subst, ap, ◌∙◌, arith}
use Rattle.std.specs.List.{All, AllWithin}
use Rattle.std.proofs.lemmas.List.{get_or_default}
use Rattle.std.proofs.lemmas.List.Elements.{AllWithin-more}
use Rattle.bk_base.specs.Places.{Shape}
use Rattle.bk_msg.specs.declared.codec.Packet as wire
use Rattle.bk_msg.specs.declared.row.Row.{Row}
use Rattle.bk_system.specs.Deliveries.{Holds}
use Rattle.bk_system.specs.State.{State}
use Rattle.bk_system.specs.Routes.{channel_of}
use Rattle.bk_system.specs.declared.channel.Channel.{Channel}
use Rattle.bk_rounds.specs.declared.ends.Inlet.{Inlet}
use Rattle.bk_rounds.specs.declared.ends.Outlet.{Outlet}
use Rattle.bk_rounds.specs.Ends.{took, sent, inlet_channel, outlet_channel, IsInward, IsOutward}
use Rattle.bk_rounds.specs.Moves.{Brings, Sheds, Takes, Sends}
use Rattle.bk_rounds.specs.Reading.{packets_in}
use Rattle.bk_rounds.proofs.Channels.{holds-there}
use Rattle.bk_rounds.proofs.EndLists.{AreDifferent, here-before, here-after, other-place, inlets-packets, outlets-packets, all-at, as-many, at-index}
use Rattle.bk_rounds.proofs.TakesSends.{this-or-other, takes-one, sends-one}

abbrev pub taken_at : Inlet → List wire.Packet
taken_at inlet = inlet.receiver.taken

abbrev pub sent_at : Outlet → List wire.Packet
sent_at outlet = outlet.sender.sent

pub takes-at : (k here : Shape) (n : ℕ) (inlets : List Inlet) (channels : List Channel) (i : ℕ) (d end : Inlet) (old new : State)
    (clock next : ℕ) → here ≡ k → map inlet_channel inlets ≡ channels → All (IsInward k n) channels → AreDifferent channels
    → i < length inlets → d ≡ get_or inlets i d → end.channel ≡ d.channel
    → Brings here d.channel old new d.receiver.taken end.receiver.taken clock next
    → Takes k n old new (took k inlets) (took k (set inlets i end)) clock next
takes-at k here n inlets channels i d end old new clock next config list inward different within is same brings =
    let differ = subst AreDifferent (sym list) different in
    takes-one k n d.channel old new (took k inlets) (took k (set inlets i end)) d.receiver.taken end.receiver.taken clock next
    (subst (λ (x : Shape). Brings x d.channel old new d.receiver.taken end.receiver.taken clock next) config brings)
    (all-at inlet_channel (IsInward k n) inlets channels i d list within is inward)
    (ap (packets_in k) (inlets-packets inlets d.channel ∙ here-before inlet_channel taken_at inlets i d differ within is))
    (ap (packets_in k) (inlets-packets (set inlets i end) d.channel
    ∙ here-after inlet_channel taken_at inlets i d end differ within is same))
    (λ other apart. ap (packets_in k) (inlets-packets (set inlets i end) other
    ∙ other-place inlet_channel taken_at inlets i d end other (same ∙ ap inlet_channel is) within (λ e. apart (sym same ∙ e))
    ∙ sym (inlets-packets inlets other)))

pub sends-at : (k here : Shape) (n : ℕ) (outlets : List Outlet) (channels : List Channel) (i : ℕ) (d end : Outlet) (old new : State)
    (clock : ℕ) → here ≡ k → map outlet_channel outlets ≡ channels → All (IsOutward k n) channels → AreDifferent channels
    → i < length outlets → d ≡ get_or outlets i d → end.channel ≡ d.channel
    → Sheds here d.channel old new d.sender.sent end.sender.sent clock
    → Sends k n old new (sent k outlets) (sent k (set outlets i end)) clock
sends-at k here n outlets channels i d end old new clock config list outward different within is same sheds =
    let differ = subst AreDifferent (sym list) different in
    sends-one k n d.channel old new (sent k outlets) (sent k (set outlets i end)) d.sender.sent end.sender.sent clock
    (subst (λ (x : Shape). Sheds x d.channel old new d.sender.sent end.sender.sent clock) config sheds)
    (all-at outlet_channel (IsOutward k n) outlets channels i d list within is outward)
    (ap (packets_in k) (outlets-packets outlets d.channel ∙ here-before outlet_channel sent_at outlets i d differ within is))
    (ap (packets_in k) (outlets-packets (set outlets i end) d.channel
    ∙ here-after outlet_channel sent_at outlets i d end differ within is same))
    (λ other apart. ap (packets_in k) (outlets-packets (set outlets i end) other
    ∙ other-place outlet_channel sent_at outlets i d end other (same ∙ ap outlet_channel is) within (λ e. apart (sym same ∙ e))
    ∙ sym (outlets-packets outlets other)))

still-empty : (channel other : Channel) (old new : State) (rest : List Row) → Holds old new channel rest → channel_of new channel ≡ []
    → channel_of old other ≡ [] → (channel ≡ other) ⊎ (channel ≢ other) → channel_of new other ≡ []
still-empty channel other old new rest holds none before (inl same) =
    subst (λ (x : Channel). channel_of new x ≡ []) same none
still-empty channel other old new rest holds none before (inr differ) =
    holds-there old new channel other rest holds differ ∙ before

-- After a send that has sent all of a channel, one channel more is empty.
pub empty-next : (k : Shape) (outlets : List Outlet) (channels : List Channel) (i : ℕ) (d : Outlet) (old new : State)
    (given last : List wire.Packet) (clock : ℕ) → map outlet_channel outlets ≡ channels → i < length outlets
    → d ≡ get_or outlets i d
    → Sheds k d.channel old new given last clock → channel_of new d.channel ≡ []
    → AllWithin (λ channel. channel_of old channel ≡ []) channels 0 i
    → AllWithin (λ channel. channel_of new channel ≡ []) channels 0 (i + 1)
empty-next k outlets channels i d old new given last clock list within is sheds none before =
    let many = as-many outlet_channel outlets channels list in
    let here : get_or channels i d.channel ≡ d.channel = at-index outlet_channel outlets channels i d list within is in
    AllWithin-more (λ channel. channel_of new channel ≡ []) channels 0 i
    (λ j e low below. still-empty d.channel (get_or channels j e) old new sheds.rest sheds.holds none (before j e low below)
    (this-or-other d.channel (get_or channels j e)))
    (λ e. let inside : i < length channels = omega arith in
    subst (λ (channel : Channel). channel_of new channel ≡ []) (sym here ∙ get_or_default channels i d.channel e inside) none)
