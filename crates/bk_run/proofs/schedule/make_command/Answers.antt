use Rattle.std.proofs.Common.{◌≤◌, ◌∙◌, arith}
use Rattle.bk_base.specs.Places.{Shape}
use Rattle.bk_system.specs.declared.event.Event.TheVariants.{Command}
use Rattle.bk_system.specs.Lookups.{has_message}
use Rattle.bk_system.specs.State.{State}
use Rattle.bk_system.specs.Systems.{state_of}
use Rattle.bk_run.specs.Greedy.{if_enabled}
use Rattle.bk_run.proofs.Made.{command-skipped, none-here, next-here, made-here, unmade-here, none-left, none-next, found-next, none-asked}
use Rattle.bk_run.proofs.schedule.make_command.Goals as goal

pub returns-in_default-clause-made : goal.returns-in_default-clause-made
returns-in_default-clause-made c =
    let k = c.args.hardware.now.config in
    let s = state_of c.args.hardware.now in
    let none = none-here k c.loop.hardware.config s (state_of c.loop.hardware) (λ (shape : Shape). shape.caches)
    (λ (shape : Shape) (y : State). has_message y.command) c.loop.start c.loop.invariant.config c.loop.invariant.state
    c.in_default.ensures in (
      none-left k.caches c.loop.start (λ i. if_enabled k c.args.program.now s (Command i)) (has_message s.command)
          (command-skipped k c.args.program.now s) c.loop.invariant.none none,
      c.loop.invariant.state,
    )

pub returns-in-Ok-Some-clause-made : goal.returns-in-Ok-Some-clause-made
returns-in-Ok-Some-clause-made c =
    let k = c.args.hardware.now.config in
    let s = state_of c.args.hardware.now in
    let next = next-here k c.loop.hardware.config s (state_of c.loop.hardware) (λ (shape : Shape). shape.caches)
    (λ (shape : Shape) (y : State). has_message y.command) c.loop.start c.in-Some.cache c.loop.invariant.config c.loop.invariant.state
    c.in-Some.ensures in
    let made = made-here k c.loop.hardware.config c.args.program.now
    (λ (shape : Shape) (y : State). if_enabled shape c.args.program.now y (Command c.in-Some.cache)) s (state_of c.loop.hardware)
    (state_of c.make_enabled.new.hardware) c.make_enabled.new.hardware.sent.items c.make_enabled.result c.in-Ok-Some.field-0
    c.in-Ok-Some.event
    c.loop.invariant.config c.loop.invariant.state c.in-Ok-Some.is c.in-Ok-Some.field-0-is c.make_enabled.ensures.made in (
      found-next k.caches c.loop.start c.in-Some.cache (λ i. if_enabled k c.args.program.now s (Command i)) (has_message s.command)
          c.in-Ok-Some.event (command-skipped k c.args.program.now s) c.loop.invariant.none next made.0,
      made.1,
    )

pub loop-preserved : goal.loop-preserved
loop-preserved c =
    let k = c.args.hardware.now.config in
    let s = state_of c.args.hardware.now in
    let next = next-here k c.loop.hardware.config s (state_of c.loop.hardware) (λ (shape : Shape). shape.caches)
    (λ (shape : Shape) (y : State). has_message y.command) c.loop.start c.in-Some.cache c.loop.invariant.config c.loop.invariant.state
    c.in-Some.ensures in
    let none = unmade-here k c.loop.hardware.config c.args.program.now
    (λ (shape : Shape) (y : State). if_enabled shape c.args.program.now y (Command c.in-Some.cache)) s (state_of c.loop.hardware)
    (state_of c.make_enabled.new.hardware) c.make_enabled.new.hardware.sent.items c.make_enabled.result c.in-Ok-None.field-0
    c.loop.invariant.config
    c.loop.invariant.state c.in-Ok-None.is c.in-Ok-None.field-0-is c.make_enabled.ensures.made in
    let early : c.loop.counter ≤ c.loop.start = c.loop.invariant.far in
    let late : c.loop.start ≤ c.in-Some.cache = next.from in
    record {
      config = c.make_enabled.ensures.config ∙ c.loop.invariant.config;
      state = none.1;
      far = omega arith;
      none = none-next k.caches c.loop.start c.in-Some.cache (λ i. if_enabled k c.args.program.now s (Command i)) (has_message s.command)
          (command-skipped k c.args.program.now s) c.loop.invariant.none next none.0;
    }

pub returns-clause-made : goal.returns-clause-made
returns-clause-made c =
    let k = c.args.hardware.now.config in
    let s = state_of c.args.hardware.now in
    let all : k.caches ≤ c.loop.counter = let stop = c.loop-test.false in let value = c.cache_count-end.ensures.value in omega arith in (
      none-asked k.caches c.loop.counter c.loop.start (λ i. if_enabled k c.args.program.now s (Command i)) c.loop.invariant.none all
          c.loop.invariant.far,
      c.loop.invariant.state,
    )
