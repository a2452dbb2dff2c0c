use Rattle.std.proofs.Common.{◌≡◌}
use Rattle.bk_system.proofs.tests.fills_between_any_two_of_sixteen_caches.Given as goal

abbrev pub invariant-loop-cache : goal.invariant-loop-cache
invariant-loop-cache g l = l.hardware.config ≡ l.initial.hardware.config

abbrev pub invariant-loop-to : goal.invariant-loop-to
invariant-loop-to g l = l.hardware.config ≡ l.initial.hardware.config
