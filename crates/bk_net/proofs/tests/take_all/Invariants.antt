use Rattle.std.proofs.Common.{◌≡◌}
use Rattle.bk_net.proofs.tests.take_all.Given as goal

abbrev pub invariant-loop : goal.invariant-loop
invariant-loop g l = l.receiver.channel ≡ l.fn.receiver.channel
