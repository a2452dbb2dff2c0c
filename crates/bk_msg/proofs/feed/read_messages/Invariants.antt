use Rattle.std.proofs.Common.{◌+◌, ◌*◌, ◌++◌, length}
use Rattle.bk_msg.proofs.Streams.{Reading}
use Rattle.bk_msg.proofs.feed.read_messages.Given as goal

abbrev pub invariant-loop-message : goal.invariant-loop-message
invariant-loop-message l = Reading (l.old ++ l.piece) l.fn.out.items l.rest.items l.left l.out.items

abbrev pub decreases-loop-message : goal.decreases-loop-message
decreases-loop-message l = 2 * length l.left + length l.rest.items
