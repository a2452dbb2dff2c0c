use Rattle.std.proofs.Common.{◌≤◌, ◌∙◌, refl, sym, arith}
use Rattle.bk_base.specs.Places.{Shape}
use Rattle.bk_system.specs.Lookups.{has_message}
use Rattle.bk_system.specs.State.{State}
use Rattle.bk_system.specs.Systems.{state_of}
use Rattle.bk_run.specs.Greedy.{engine_event}
use Rattle.bk_run.specs.Schedule.{heads}
use Rattle.bk_run.proofs.Made.{class-unnamed, head-skipped, none-below, none-here, next-here, made-here, unmade-here, none-left, none-next, found-next, none-asked}
use Rattle.bk_run.proofs.schedule.make_of_class.Goals as goal

pub returns-then-not-names_class-clause-made : goal.returns-then-not-names_class-clause-made
returns-then-not-names_class-clause-made c =
    let k = c.args.hardware.now.config in
    let s = state_of c.args.hardware.now in (
      none-below k.caches (engine_event k c.args.program.now s c.args.class)
          (λ i l. class-unnamed k c.args.program.now s c.args.classes c.args.class i c.requires.waits
          (sym c.names_class.ensures ∙ c.if-not-names_class.true)),
      refl,
    )

pub returns-in_default-clause-made : goal.returns-in_default-clause-made
returns-in_default-clause-made c =
    let k = c.args.hardware.now.config in
    let s = state_of c.args.hardware.now in
    let none = none-here k c.loop.hardware.config s (state_of c.loop.hardware) (λ (shape : Shape). shape.caches)
    (λ (shape : Shape) (y : State). has_message (heads y c.args.class)) c.loop.start c.loop.invariant.config c.loop.invariant.state
    c.in_default.ensures in (
      none-left k.caches c.loop.start (engine_event k c.args.program.now s c.args.class) (has_message (heads s c.args.class))
          (λ i. head-skipped k c.args.program.now s c.args.classes c.args.class i c.requires.waits c.requires.class)
          c.loop.invariant.none none,
      c.loop.invariant.state,
    )

pub returns-in-Ok-Some-clause-made : goal.returns-in-Ok-Some-clause-made
returns-in-Ok-Some-clause-made c =
    let k = c.args.hardware.now.config in
    let s = state_of c.args.hardware.now in
    let next = next-here k c.loop.hardware.config s (state_of c.loop.hardware) (λ (shape : Shape). shape.caches)
    (λ (shape : Shape) (y : State). has_message (heads y c.args.class)) c.loop.start c.in-Some.source c.loop.invariant.config
    c.loop.invariant.state c.in-Some.ensures in
    let made = made-here k c.loop.hardware.config c.args.program.now
    (λ (shape : Shape) (y : State). engine_event shape c.args.program.now y c.args.class c.in-Some.source) s (state_of c.loop.hardware)
    (state_of c.make_choice.new.hardware) c.make_choice.new.hardware.sent.items c.make_choice.result c.in-Ok-Some.field-0 c.in-Ok-Some.event
    c.loop.invariant.config c.loop.invariant.state c.in-Ok-Some.is c.in-Ok-Some.field-0-is c.make_choice.ensures.made in (
      found-next k.caches c.loop.start c.in-Some.source (engine_event k c.args.program.now s c.args.class)
          (has_message (heads s c.args.class)) c.in-Ok-Some.event
          (λ i. head-skipped k c.args.program.now s c.args.classes c.args.class i c.requires.waits c.requires.class)
          c.loop.invariant.none next
          made.0,
      made.1,
    )

pub loop-preserved : goal.loop-preserved
loop-preserved c =
    let k = c.args.hardware.now.config in
    let s = state_of c.args.hardware.now in
    let next = next-here k c.loop.hardware.config s (state_of c.loop.hardware) (λ (shape : Shape). shape.caches)
    (λ (shape : Shape) (y : State). has_message (heads y c.args.class)) c.loop.start c.in-Some.source c.loop.invariant.config
    c.loop.invariant.state c.in-Some.ensures in
    let none = unmade-here k c.loop.hardware.config c.args.program.now
    (λ (shape : Shape) (y : State). engine_event shape c.args.program.now y c.args.class c.in-Some.source) s (state_of c.loop.hardware)
    (state_of c.make_choice.new.hardware) c.make_choice.new.hardware.sent.items c.make_choice.result c.in-Ok-None.field-0
    c.loop.invariant.config
    c.loop.invariant.state c.in-Ok-None.is c.in-Ok-None.field-0-is c.make_choice.ensures.made in
    let early : c.loop.counter ≤ c.loop.start = c.loop.invariant.far in
    let late : c.loop.start ≤ c.in-Some.source = next.from in
    record {
      config = c.make_choice.ensures.config ∙ c.loop.invariant.config;
      state = none.1;
      far = omega arith;
      none = none-next k.caches c.loop.start c.in-Some.source (engine_event k c.args.program.now s c.args.class)
          (has_message (heads s c.args.class))
          (λ i. head-skipped k c.args.program.now s c.args.classes c.args.class i c.requires.waits c.requires.class)
          c.loop.invariant.none next none.0;
    }

pub returns-clause-made : goal.returns-clause-made
returns-clause-made c =
    let k = c.args.hardware.now.config in
    let s = state_of c.args.hardware.now in
    let all : k.caches ≤ c.loop.counter = let stop = c.loop-test.false in let value = c.cache_count-end.ensures.value in omega arith in (
      none-asked k.caches c.loop.counter c.loop.start (engine_event k c.args.program.now s c.args.class) c.loop.invariant.none all
          c.loop.invariant.far,
      c.loop.invariant.state,
    )
