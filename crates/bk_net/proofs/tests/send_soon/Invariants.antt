use Rattle.std.proofs.Common.{◌≡◌}
use Rattle.bk_net.proofs.tests.send_soon.Given as goal

abbrev pub invariant-loop : goal.invariant-loop
invariant-loop g l = l.sender.channel ≡ l.fn.sender.channel
