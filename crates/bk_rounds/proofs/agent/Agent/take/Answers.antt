use Rattle.std.proofs.Common.{◌<◌, map, length, set, refl, ap, ◌∙◌, arith}
use Rattle.std.proofs.Math.Seq.{map-set_same}
use Rattle.bk_system.specs.Routes.{IsChannel}
use Rattle.bk_system.specs.Systems.{state_of}
use Rattle.bk_rounds.specs.Ends.{took, inlet_channel, inlet_table}
use Rattle.bk_rounds.proofs.AtEnds.{takes-at}
use Rattle.bk_rounds.proofs.Channels.{is-channel}
use Rattle.bk_rounds.proofs.EndLists.{all-at, as-many, channels-kept}
use Rattle.bk_rounds.proofs.TakesSends.{takes-none, takes-twice}
use Rattle.bk_rounds.proofs.agent.Agent.take.Goals as goal

pub loop-place-init : goal.loop-place-init
loop-place-init g c = record {
  number = refl;
  config = refl;
  outlets = refl;
  entries = refl;
  tables = refl;
  inlets = refl;
  takes = takes-none c.args.self.now.hardware.config c.args.self.now.number (state_of c.args.self.now.hardware)
      (took c.args.self.now.hardware.config c.args.self.now.inlets.items) c.args.self.now.clock;
}

pub take_from-requires : goal.take_from-requires
take_from-requires g c =
    let many = as-many inlet_channel c.loop-place.self.inlets.items (map inlet_channel c.args.self.now.inlets.items)
    c.loop-place.invariant.inlets in
    let first = as-many inlet_channel c.args.self.now.inlets.items (map inlet_channel c.args.self.now.inlets.items) refl in
    let within : c.loop-place.place < length c.loop-place.self.inlets.items = omega (arith, c.args.self.now.inlets.ok.0) in
    is-channel c.args.self.now.hardware.config c.loop-place.self.hardware.config c.index_mut-inlet.result.now.channel
    c.index_mut-inlet.result.now.channel c.loop-place.invariant.config refl
    (all-at inlet_channel (IsChannel c.args.self.now.hardware.config) c.loop-place.self.inlets.items
    (map inlet_channel c.args.self.now.inlets.items) c.loop-place.place c.index_mut-inlet.result.now c.loop-place.invariant.inlets within
    c.index_mut-inlet.ensures.value c.requires.channels)

pub returns-in_err-self-clause-inlets : goal.returns-in_err-self-clause-inlets
returns-in_err-self-clause-inlets g c =
    channels-kept inlet_channel c.loop-place.self.inlets.items c.loop-place.place c.index_mut-inlet.result.now c.take_from.new.inlet
    c.index_mut-inlet.ensures.value c.take_from.ensures.channel ∙ c.loop-place.invariant.inlets

pub returns-in_err-self-clause-tables : goal.returns-in_err-self-clause-tables
returns-in_err-self-clause-tables g c =
    map-set_same inlet_table c.loop-place.self.inlets.items c.loop-place.place c.take_from.new.inlet c.index_mut-inlet.result.now
    (c.take_from.ensures.table ∙ ap inlet_table c.index_mut-inlet.ensures.value) ∙ c.loop-place.invariant.tables

pub returns-in_err-self-clause-outlets : goal.returns-in_err-self-clause-outlets
returns-in_err-self-clause-outlets g c = c.loop-place.invariant.outlets

pub returns-in_err-self-clause-number : goal.returns-in_err-self-clause-number
returns-in_err-self-clause-number g c = c.loop-place.invariant.number

pub returns-in_err-self-clause-entries : goal.returns-in_err-self-clause-entries
returns-in_err-self-clause-entries g c = c.loop-place.invariant.entries

pub returns-in_err-self-clause-config : goal.returns-in_err-self-clause-config
returns-in_err-self-clause-config g c = c.take_from.ensures.config ∙ c.loop-place.invariant.config

pub loop-place-preserved : goal.loop-place-preserved
loop-place-preserved g c =
    let k = c.args.self.now.hardware.config in
    let n = c.args.self.now.number in
    let items = c.loop-place.self.inlets.items in
    let later = set items c.loop-place.place c.take_from.new.inlet in
    let many = as-many inlet_channel items (map inlet_channel c.args.self.now.inlets.items) c.loop-place.invariant.inlets in
    let first = as-many inlet_channel c.args.self.now.inlets.items (map inlet_channel c.args.self.now.inlets.items) refl in
    let within : c.loop-place.place < length c.loop-place.self.inlets.items = omega (arith, c.args.self.now.inlets.ok.0) in
    record {
      number = c.loop-place.invariant.number;
      config = c.take_from.ensures.config ∙ c.loop-place.invariant.config;
      outlets = c.loop-place.invariant.outlets;
      entries = c.loop-place.invariant.entries;
      tables = map-set_same inlet_table c.loop-place.self.inlets.items c.loop-place.place c.take_from.new.inlet c.index_mut-inlet.result.now
          (c.take_from.ensures.table ∙ ap inlet_table c.index_mut-inlet.ensures.value) ∙ c.loop-place.invariant.tables;
      inlets = channels-kept inlet_channel items c.loop-place.place c.index_mut-inlet.result.now c.take_from.new.inlet
          c.index_mut-inlet.ensures.value c.take_from.ensures.channel ∙ c.loop-place.invariant.inlets;
      takes = takes-twice k n (state_of c.args.self.now.hardware) (state_of c.loop-place.self.hardware)
          (state_of c.take_from.new.hardware) (took k c.args.self.now.inlets.items) (took k items) (took k later)
          c.args.self.now.clock c.loop-place.self.clock c.in_ok-self.field-0 c.loop-place.invariant.takes
          (takes-at k c.loop-place.self.hardware.config n items (map inlet_channel c.args.self.now.inlets.items) c.loop-place.place
          c.index_mut-inlet.result.now c.take_from.new.inlet (state_of c.loop-place.self.hardware) (state_of c.take_from.new.hardware)
          c.loop-place.self.clock c.in_ok-self.field-0 c.loop-place.invariant.config c.loop-place.invariant.inlets c.requires.inward
          c.requires.different within c.index_mut-inlet.ensures.value c.take_from.ensures.channel c.in_ok-self.ensures.brings);
    }

pub returns-clause-takes : goal.returns-clause-takes
returns-clause-takes g c = c.loop-place.invariant.takes

pub returns-clause-inlets : goal.returns-clause-inlets
returns-clause-inlets g c = c.loop-place.invariant.inlets

pub returns-clause-tables : goal.returns-clause-tables
returns-clause-tables g c = c.loop-place.invariant.tables

pub returns-clause-outlets : goal.returns-clause-outlets
returns-clause-outlets g c = c.loop-place.invariant.outlets

pub returns-clause-number : goal.returns-clause-number
returns-clause-number g c = c.loop-place.invariant.number

pub returns-clause-entries : goal.returns-clause-entries
returns-clause-entries g c = c.loop-place.invariant.entries

pub returns-clause-config : goal.returns-clause-config
returns-clause-config g c = c.loop-place.invariant.config
