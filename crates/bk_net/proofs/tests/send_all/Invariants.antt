use Rattle.std.proofs.Common.{◌≡◌}
use Rattle.bk_net.proofs.tests.send_all.Given as goal

abbrev pub invariant-loop-stamp : goal.invariant-loop-stamp
invariant-loop-stamp g l = l.sender.channel ≡ l.fn.sender.channel
