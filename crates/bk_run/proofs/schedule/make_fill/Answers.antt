use Rattle.std.proofs.Common.{◌≤◌, ◌∙◌, arith}
use Rattle.bk_base.specs.Places.{Shape}
use Rattle.bk_system.specs.Lookups.{is_filled, has_fill}
use Rattle.bk_system.specs.State.{State}
use Rattle.bk_system.specs.Systems.{state_of}
use Rattle.bk_system.specs.Numbering.{receiver_at, sender_at}
use Rattle.bk_system.specs.declared.hardware.TheConstants.{FILL_CHANNELS}
use Rattle.bk_run.specs.Greedy.{fill_event}
use Rattle.bk_run.proofs.Made.{fill-skipped, fill-between, square-none, square-found, none-before, none-here, next-here, made-here, unmade-here, none-left, none-next, none-asked}
use Rattle.bk_run.proofs.schedule.make_fill.Goals as goal

pub returns-in_default-clause-made : goal.returns-in_default-clause-made
returns-in_default-clause-made c =
    let k = c.args.hardware.now.config in
    let s = state_of c.args.hardware.now in
    let none = none-here k c.loop.hardware.config s (state_of c.loop.hardware) (λ (shape : Shape). FILL_CHANNELS)
    (λ (shape : Shape) (y : State). has_fill shape.caches y.fill) c.loop.start c.loop.invariant.config c.loop.invariant.state
    c.in_default.ensures in (
      square-none k.caches (fill_event k c.args.program.now s) c.args.hardware.now.few_caches
          (none-left FILL_CHANNELS c.loop.start (λ i. fill_event k c.args.program.now s (receiver_at i) (sender_at i))
          (has_fill k.caches s.fill) (fill-skipped k c.args.program.now s) c.loop.invariant.none none),
      c.loop.invariant.state,
    )

pub returns-in-Ok-Some-clause-made : goal.returns-in-Ok-Some-clause-made
returns-in-Ok-Some-clause-made c =
    let k = c.args.hardware.now.config in
    let s = state_of c.args.hardware.now in
    let place = c.in-Some.place in
    let next = next-here k c.loop.hardware.config s (state_of c.loop.hardware) (λ (shape : Shape). FILL_CHANNELS)
    (λ (shape : Shape) (y : State). has_fill shape.caches y.fill) c.loop.start place c.loop.invariant.config c.loop.invariant.state
    c.in-Some.ensures in
    let made = made-here k c.loop.hardware.config c.args.program.now
    (λ (shape : Shape) (y : State). fill_event shape c.args.program.now y (receiver_at place) (sender_at place)) s
    (state_of c.loop.hardware) (state_of c.make_enabled.new.hardware) c.make_enabled.new.hardware.sent.items c.make_enabled.result
    c.in-Ok-Some.field-0
    c.in-Ok-Some.event
    c.loop.invariant.config c.loop.invariant.state c.in-Ok-Some.is c.in-Ok-Some.field-0-is c.make_enabled.ensures.made in
    let between = fill-between k.caches (receiver_at place) (sender_at place) (is_filled (s.fill (receiver_at place) (sender_at place)))
    next.passes in (
      square-found k.caches place (fill_event k c.args.program.now s) c.in-Ok-Some.event c.args.hardware.now.few_caches between.0 between.1
          (none-before FILL_CHANNELS c.loop.start place (λ i. fill_event k c.args.program.now s (receiver_at i) (sender_at i))
          (has_fill k.caches s.fill) (fill-skipped k c.args.program.now s) c.loop.invariant.none next) made.0,
      made.1,
    )

pub loop-preserved : goal.loop-preserved
loop-preserved c =
    let k = c.args.hardware.now.config in
    let s = state_of c.args.hardware.now in
    let place = c.in-Some.place in
    let next = next-here k c.loop.hardware.config s (state_of c.loop.hardware) (λ (shape : Shape). FILL_CHANNELS)
    (λ (shape : Shape) (y : State). has_fill shape.caches y.fill) c.loop.start place c.loop.invariant.config c.loop.invariant.state
    c.in-Some.ensures in
    let none = unmade-here k c.loop.hardware.config c.args.program.now
    (λ (shape : Shape) (y : State). fill_event shape c.args.program.now y (receiver_at place) (sender_at place)) s
    (state_of c.loop.hardware) (state_of c.make_enabled.new.hardware) c.make_enabled.new.hardware.sent.items c.make_enabled.result
    c.in-Ok-None.field-0
    c.loop.invariant.config
    c.loop.invariant.state c.in-Ok-None.is c.in-Ok-None.field-0-is c.make_enabled.ensures.made in
    let early : c.loop.counter ≤ c.loop.start = c.loop.invariant.far in
    let late : c.loop.start ≤ place = next.from in
    record {
      config = c.make_enabled.ensures.config ∙ c.loop.invariant.config;
      state = none.1;
      far = omega arith;
      none = none-next FILL_CHANNELS c.loop.start place (λ i. fill_event k c.args.program.now s (receiver_at i) (sender_at i))
          (has_fill k.caches s.fill) (fill-skipped k c.args.program.now s) c.loop.invariant.none next none.0;
    }

pub returns-clause-made : goal.returns-clause-made
returns-clause-made c =
    let k = c.args.hardware.now.config in
    let s = state_of c.args.hardware.now in
    let all : FILL_CHANNELS ≤ c.loop.counter = let stop = c.loop-test.false in omega arith in (
      square-none k.caches (fill_event k c.args.program.now s) c.args.hardware.now.few_caches
          (none-asked FILL_CHANNELS c.loop.counter c.loop.start (λ i. fill_event k c.args.program.now s (receiver_at i) (sender_at i))
          c.loop.invariant.none all c.loop.invariant.far),
      c.loop.invariant.state,
    )
