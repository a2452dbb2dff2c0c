use Rattle.std.proofs.Common.{◌≤◌, sym, arith}
use Rattle.bk_system.specs.Lookups.{is_idle}
use Rattle.bk_system.specs.Systems.{state_of}
use Rattle.bk_run.specs.Greedy.{ready_operation}
use Rattle.bk_run.proofs.Made.{ready-skipped, none-left, none-next, found-next, none-asked}
use Rattle.bk_run.proofs.greedy.first_ready.Goals as goal

pub returns-in_default-clause-first : goal.returns-in_default-clause-first
returns-in_default-clause-first c =
    let k = c.args.hardware.now.config in
    let s = state_of c.args.hardware.now in
    sym (none-left k.caches c.loop.start (ready_operation k c.args.program.now s c.args.trace.now.lines) (is_idle s.caches)
    (ready-skipped k c.args.program.now s c.args.trace.now.lines) c.loop.invariant.none c.in_default.ensures)

pub returns-in-Some-ready_operation-clause-first : goal.returns-in-Some-ready_operation-clause-first
returns-in-Some-ready_operation-clause-first c =
    let k = c.args.hardware.now.config in
    let s = state_of c.args.hardware.now in
    sym (found-next k.caches c.loop.start c.in-Some.cache (ready_operation k c.args.program.now s c.args.trace.now.lines)
    (is_idle s.caches) c.in-Some-ready_operation.at (ready-skipped k c.args.program.now s c.args.trace.now.lines) c.loop.invariant.none
    c.in-Some.ensures (sym c.in-Some-ready_operation.ensures.value))

pub loop-preserved : goal.loop-preserved
loop-preserved c =
    let k = c.args.hardware.now.config in
    let s = state_of c.args.hardware.now in
    let early : c.loop.counter ≤ c.loop.start = c.loop.invariant.far in
    let late : c.loop.start ≤ c.in-Some.cache = c.in-Some.ensures.from in
    record {
      far = omega arith;
      none = none-next k.caches c.loop.start c.in-Some.cache (ready_operation k c.args.program.now s c.args.trace.now.lines)
          (is_idle s.caches) (ready-skipped k c.args.program.now s c.args.trace.now.lines) c.loop.invariant.none c.in-Some.ensures
          (sym c.in-None.ensures.value);
    }

pub returns-clause-first : goal.returns-clause-first
returns-clause-first c =
    let k = c.args.hardware.now.config in
    let s = state_of c.args.hardware.now in
    let all : k.caches ≤ c.loop.counter = let stop = c.loop-test.false in let value = c.cache_count-end.ensures.value in omega arith in
    sym (none-asked k.caches c.loop.counter c.loop.start (ready_operation k c.args.program.now s c.args.trace.now.lines)
    c.loop.invariant.none all c.loop.invariant.far)
