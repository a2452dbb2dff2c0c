use Rattle.std.proofs.Common.{[], arith}
use Rattle.bk_system.specs.Queues.{items_of, queues_of}
use Rattle.bk_system.proofs.Marks.{marks-empty}
use Rattle.bk_system.proofs.Queues.{at-more, queue-empty, within-empty}
use Rattle.bk_system.proofs.channels.Channels.make.Goals as goal

pub loop-preserved : goal.loop-preserved
loop-preserved c = record {
  count = omega (arith, c.in_ok-push.ensures.len);
  empty = λ k. rw c.in_ok-push.ensures.items
      (at-more items_of [] c.loop.queues.items c.in_ok-make.field-0 c.in_ok-make.ensures c.loop.invariant.empty k);
}

pub invariant_of-result : goal.invariant_of-result
invariant_of-result c = record {
  few = omega arith;
  within = within-empty c.args.config (queues_of c.loop.queues.items) c.loop.invariant.empty;
  marked = marks-empty (queues_of c.loop.queues.items) c.loop.invariant.empty;
}

pub returns-clause-empty : goal.returns-clause-empty
returns-clause-empty c = queue-empty _ c.loop.invariant.empty
