use Rattle.std.proofs.Common.{◌≡◌, ◌<◌, ◌≤◌, ℕ, [], map, length, set, refl, ap, subst, ◌∙◌, arith}
use Rattle.std.proofs.Math.Seq.{map-set_same}
use Rattle.std.proofs.lemmas.List.Elements.{AllWithin-none, AllWithin-upto, All-from_all_within}
use Rattle.bk_system.specs.Routes.{IsChannel, channel_of}
use Rattle.bk_system.specs.Systems.{state_of}
use Rattle.bk_rounds.specs.Ends.{sent, outlet_channel, outlet_table}
use Rattle.bk_rounds.specs.Moves.{Sheds}
use Rattle.bk_rounds.proofs.AtEnds.{sends-at, empty-next}
use Rattle.bk_rounds.proofs.Channels.{is-channel}
use Rattle.bk_rounds.proofs.EndLists.{all-at, as-many, channels-kept, in-list}
use Rattle.bk_rounds.proofs.TakesSends.{sends-none, sends-twice}
use Rattle.bk_rounds.proofs.agent.Agent.send.Goals as goal

pub loop-place-init : goal.loop-place-init
loop-place-init g c = record {
  number = refl;
  config = refl;
  inlets = refl;
  clock = refl;
  entries = refl;
  tables = refl;
  outlets = refl;
  empty = AllWithin-none (λ channel. channel_of (state_of c.args.self.now.hardware) channel ≡ [])
      (map outlet_channel c.args.self.now.outlets.items) 0;
  sends = sends-none c.args.self.now.hardware.config c.args.self.now.number (state_of c.args.self.now.hardware)
      (sent c.args.self.now.hardware.config c.args.self.now.outlets.items) c.args.self.now.clock;
}

pub send_to-requires : goal.send_to-requires
send_to-requires g c =
    let many = as-many outlet_channel c.loop-place.self.outlets.items (map outlet_channel c.args.self.now.outlets.items)
    c.loop-place.invariant.outlets in
    let first = as-many outlet_channel c.args.self.now.outlets.items (map outlet_channel c.args.self.now.outlets.items) refl in
    let within : c.loop-place.place < length c.loop-place.self.outlets.items = omega (arith, c.args.self.now.outlets.ok.0) in
    is-channel c.args.self.now.hardware.config c.loop-place.self.hardware.config c.index_mut-outlet.result.now.channel
    c.index_mut-outlet.result.now.channel c.loop-place.invariant.config refl
    (all-at outlet_channel (IsChannel c.args.self.now.hardware.config) c.loop-place.self.outlets.items
    (map outlet_channel c.args.self.now.outlets.items) c.loop-place.place c.index_mut-outlet.result.now
    c.loop-place.invariant.outlets within
    c.index_mut-outlet.ensures.value c.requires.channels)

pub returns-then-not-send_to-clause-sends : goal.returns-then-not-send_to-clause-sends
returns-then-not-send_to-clause-sends g c =
    let k = c.args.self.now.hardware.config in
    let n = c.args.self.now.number in
    let items = c.loop-place.self.outlets.items in
    let later = set items c.loop-place.place c.send_to.new.outlet in
    let many = as-many outlet_channel c.loop-place.self.outlets.items (map outlet_channel c.args.self.now.outlets.items)
    c.loop-place.invariant.outlets in
    let first = as-many outlet_channel c.args.self.now.outlets.items (map outlet_channel c.args.self.now.outlets.items) refl in
    let within : c.loop-place.place < length c.loop-place.self.outlets.items = omega (arith, c.args.self.now.outlets.ok.0) in
    let sheds = subst (λ (clock : ℕ). Sheds c.loop-place.self.hardware.config c.index_mut-outlet.result.now.channel
    (state_of c.loop-place.self.hardware) (state_of c.send_to.new.hardware) c.index_mut-outlet.result.now.sender.sent
    c.send_to.new.outlet.sender.sent clock) c.loop-place.invariant.clock c.send_to.ensures.sheds in
    sends-twice k n (state_of c.args.self.now.hardware) (state_of c.loop-place.self.hardware)
    (state_of c.send_to.new.hardware) (sent k c.args.self.now.outlets.items) (sent k items) (sent k later) c.args.self.now.clock
    c.loop-place.invariant.sends
    (sends-at k c.loop-place.self.hardware.config n items (map outlet_channel c.args.self.now.outlets.items) c.loop-place.place
    c.index_mut-outlet.result.now c.send_to.new.outlet (state_of c.loop-place.self.hardware) (state_of c.send_to.new.hardware)
    c.args.self.now.clock c.loop-place.invariant.config c.loop-place.invariant.outlets c.requires.outward
    c.requires.different within c.index_mut-outlet.ensures.value c.send_to.ensures.channel sheds)

pub returns-then-not-send_to-clause-outlets : goal.returns-then-not-send_to-clause-outlets
returns-then-not-send_to-clause-outlets g c =
    channels-kept outlet_channel c.loop-place.self.outlets.items c.loop-place.place c.index_mut-outlet.result.now c.send_to.new.outlet
    c.index_mut-outlet.ensures.value c.send_to.ensures.channel ∙ c.loop-place.invariant.outlets

pub returns-then-not-send_to-clause-tables : goal.returns-then-not-send_to-clause-tables
returns-then-not-send_to-clause-tables g c =
    map-set_same outlet_table c.loop-place.self.outlets.items c.loop-place.place c.send_to.new.outlet c.index_mut-outlet.result.now
    (c.send_to.ensures.table ∙ ap outlet_table c.index_mut-outlet.ensures.value) ∙ c.loop-place.invariant.tables

pub returns-then-not-send_to-clause-inlets : goal.returns-then-not-send_to-clause-inlets
returns-then-not-send_to-clause-inlets g c = c.loop-place.invariant.inlets

pub returns-then-not-send_to-clause-number : goal.returns-then-not-send_to-clause-number
returns-then-not-send_to-clause-number g c = c.loop-place.invariant.number

pub returns-then-not-send_to-clause-clock : goal.returns-then-not-send_to-clause-clock
returns-then-not-send_to-clause-clock g c = c.loop-place.invariant.clock

pub returns-then-not-send_to-clause-entries : goal.returns-then-not-send_to-clause-entries
returns-then-not-send_to-clause-entries g c = c.loop-place.invariant.entries

pub returns-then-not-send_to-clause-config : goal.returns-then-not-send_to-clause-config
returns-then-not-send_to-clause-config g c = c.send_to.ensures.config ∙ c.loop-place.invariant.config

pub loop-place-preserved : goal.loop-place-preserved
loop-place-preserved g c =
    let k = c.args.self.now.hardware.config in
    let n = c.args.self.now.number in
    let items = c.loop-place.self.outlets.items in
    let later = set items c.loop-place.place c.send_to.new.outlet in
    let many = as-many outlet_channel c.loop-place.self.outlets.items (map outlet_channel c.args.self.now.outlets.items)
    c.loop-place.invariant.outlets in
    let first = as-many outlet_channel c.args.self.now.outlets.items (map outlet_channel c.args.self.now.outlets.items) refl in
    let within : c.loop-place.place < length c.loop-place.self.outlets.items = omega (arith, c.args.self.now.outlets.ok.0) in
    let sheds = subst (λ (clock : ℕ). Sheds c.loop-place.self.hardware.config c.index_mut-outlet.result.now.channel
    (state_of c.loop-place.self.hardware) (state_of c.send_to.new.hardware) c.index_mut-outlet.result.now.sender.sent
    c.send_to.new.outlet.sender.sent clock) c.loop-place.invariant.clock c.send_to.ensures.sheds in
    record {
      number = c.loop-place.invariant.number;
      config = c.send_to.ensures.config ∙ c.loop-place.invariant.config;
      inlets = c.loop-place.invariant.inlets;
      clock = c.loop-place.invariant.clock;
      entries = c.loop-place.invariant.entries;
      tables = map-set_same outlet_table c.loop-place.self.outlets.items c.loop-place.place c.send_to.new.outlet
          c.index_mut-outlet.result.now
          (c.send_to.ensures.table ∙ ap outlet_table c.index_mut-outlet.ensures.value) ∙ c.loop-place.invariant.tables;
      outlets = channels-kept outlet_channel c.loop-place.self.outlets.items c.loop-place.place c.index_mut-outlet.result.now
          c.send_to.new.outlet
          c.index_mut-outlet.ensures.value c.send_to.ensures.channel ∙ c.loop-place.invariant.outlets;
      empty = empty-next c.loop-place.self.hardware.config items (map outlet_channel c.args.self.now.outlets.items) c.loop-place.place
          c.index_mut-outlet.result.now (state_of c.loop-place.self.hardware) (state_of c.send_to.new.hardware)
          c.index_mut-outlet.result.now.sender.sent c.send_to.new.outlet.sender.sent c.args.self.now.clock
          c.loop-place.invariant.outlets within c.index_mut-outlet.ensures.value sheds (c.if-not-send_to.ensures.all refl)
          c.loop-place.invariant.empty;
      sends = sends-twice k n (state_of c.args.self.now.hardware) (state_of c.loop-place.self.hardware)
          (state_of c.send_to.new.hardware) (sent k c.args.self.now.outlets.items) (sent k items) (sent k later) c.args.self.now.clock
          c.loop-place.invariant.sends
          (sends-at k c.loop-place.self.hardware.config n items (map outlet_channel c.args.self.now.outlets.items) c.loop-place.place
          c.index_mut-outlet.result.now c.send_to.new.outlet (state_of c.loop-place.self.hardware) (state_of c.send_to.new.hardware)
          c.args.self.now.clock c.loop-place.invariant.config c.loop-place.invariant.outlets c.requires.outward
          c.requires.different within c.index_mut-outlet.ensures.value c.send_to.ensures.channel sheds);
    }

pub returns-clause-sends : goal.returns-clause-sends
returns-clause-sends g c = c.loop-place.invariant.sends

pub returns-clause-all : goal.returns-clause-all
returns-clause-all g c =
    λ done channel there outward.
    let all = c.args.self.now.outlets.items in
    let first = as-many outlet_channel all (map outlet_channel all) refl in
    let far : length (map outlet_channel c.args.self.now.outlets.items) ≤ c.loop-place.place =
    let stop = c.loop-place-test.false in omega (arith, c.args.self.now.outlets.ok.0) in
    in-list (λ other. channel_of (state_of c.loop-place.self.hardware) other ≡ []) (map outlet_channel all) channel
    (c.requires.whole channel there outward)
    (All-from_all_within (λ other. channel_of (state_of c.loop-place.self.hardware) other ≡ []) (map outlet_channel all)
    (AllWithin-upto (λ other. channel_of (state_of c.loop-place.self.hardware) other ≡ []) (map outlet_channel all) 0 c.loop-place.place
    (length (map outlet_channel all)) far c.loop-place.invariant.empty))

pub returns-clause-outlets : goal.returns-clause-outlets
returns-clause-outlets g c = c.loop-place.invariant.outlets

pub returns-clause-tables : goal.returns-clause-tables
returns-clause-tables g c = c.loop-place.invariant.tables

pub returns-clause-inlets : goal.returns-clause-inlets
returns-clause-inlets g c = c.loop-place.invariant.inlets

pub returns-clause-number : goal.returns-clause-number
returns-clause-number g c = c.loop-place.invariant.number

pub returns-clause-clock : goal.returns-clause-clock
returns-clause-clock g c = c.loop-place.invariant.clock

pub returns-clause-entries : goal.returns-clause-entries
returns-clause-entries g c = c.loop-place.invariant.entries

pub returns-clause-config : goal.returns-clause-config
returns-clause-config g c = c.loop-place.invariant.config
