use Rattle.std.proofs.Common.{◌<◌, length, sym, ap, ◌∙◌, arith, List}
use Rattle.std.specs.Prelude.{slice_get}
use Rattle.bk_msg.specs.declared.row.Row.{Row}
use Rattle.bk_system.specs.Queues.{items_of}
use Rattle.bk_system.proofs.Queues.{queue-item, queue-past, within-item, within-first}
use Rattle.bk_system.proofs.channels.Channels.head.Goals as goal

pub returns-then-channel-len-clause-value : goal.returns-then-channel-len-clause-value
returns-then-channel-len-clause-value c =
    let is = queue-item c.args.self.now c.args.channel c.index-queue.result.now (omega arith) c.index-queue.ensures in
    c.head.ensures ∙ ap (λ (ms : List Row). slice_get ms 0) (sym is)

pub returns-then-channel-len-clause-within : goal.returns-then-channel-len-clause-within
returns-then-channel-len-clause-within c =
    let l : c.args.channel < length c.args.self.now.queues.items = omega (arith, c.args.self.now.queues.ok.0) in
    within-first c.args.self.now.config (items_of c.index-queue.result.now) c.head.result c.head.ensures
    (within-item c.args.self.now.config c.args.self.now.queues.items c.args.channel c.index-queue.result.now l c.index-queue.ensures
    c.args.self.now.within)

pub returns-else-channel-len-clause-value : goal.returns-else-channel-len-clause-value
returns-else-channel-len-clause-value c =
    sym (ap (λ (ms : List Row). slice_get ms 0) (queue-past c.args.self.now c.args.channel (omega arith)))
