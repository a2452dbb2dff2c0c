use Rattle.std.proofs.Common.{◌∙◌, arith}
use Rattle.bk_base.proofs.Below.{first_below-found, first_below-more}
use Rattle.bk_base.specs.Places.{Shape}
use Rattle.bk_system.specs.State.{State}
use Rattle.bk_system.specs.Systems.{state_of}
use Rattle.bk_run.specs.Greedy.{fill_event}
use Rattle.bk_run.proofs.Made.{made-here, unmade-here}
use Rattle.bk_rounds.proofs.acting.make_fill.Goals as goal

pub returns-in-Ok-Some-clause-made : goal.returns-in-Ok-Some-clause-made
returns-in-Ok-Some-clause-made c =
    let k = c.args.hardware.now.config in
    let s = state_of c.args.hardware.now in
    let made = made-here k c.loop-from.hardware.config c.args.program.now
    (λ (shape : Shape) (y : State). fill_event shape c.args.program.now y c.args.cache c.loop-from.from) s
    (state_of c.loop-from.hardware) (state_of c.make_enabled.new.hardware) c.make_enabled.new.hardware.sent.items
    c.make_enabled.result c.in-Ok-Some.field-0 c.in-Ok-Some.event c.loop-from.invariant.config c.loop-from.invariant.state
    c.in-Ok-Some.is c.in-Ok-Some.field-0-is c.make_enabled.ensures.made in (
      first_below-found k.caches c.loop-from.from (fill_event k c.args.program.now s c.args.cache) c.in-Ok-Some.event
          (omega (arith, c.cache_count-from-end.ensures.value)) c.loop-from.invariant.none made.0,
      made.1,
    )

pub loop-from-preserved : goal.loop-from-preserved
loop-from-preserved c =
    let k = c.args.hardware.now.config in
    let s = state_of c.args.hardware.now in
    let unmade = unmade-here k c.loop-from.hardware.config c.args.program.now
    (λ (shape : Shape) (y : State). fill_event shape c.args.program.now y c.args.cache c.loop-from.from) s
    (state_of c.loop-from.hardware) (state_of c.make_enabled.new.hardware) c.make_enabled.new.hardware.sent.items
    c.make_enabled.result c.in-Ok-None.field-0 c.loop-from.invariant.config c.loop-from.invariant.state
    c.in-Ok-None.is c.in-Ok-None.field-0-is c.make_enabled.ensures.made in
    record {
      config = c.make_enabled.ensures.config ∙ c.loop-from.invariant.config;
      state = unmade.1;
      none = first_below-more c.loop-from.from (fill_event k c.args.program.now s c.args.cache) c.loop-from.invariant.none unmade.0;
    }
