use Rattle.std.proofs.Common.{◌≡◌, true}
use Rattle.std.specs.Prelude.{not}
use Rattle.bk_base.specs.Counting.{all_below}
use Rattle.bk_system.specs.Systems.{state_of}
use Rattle.bk_system.proofs.hardware.Hardware.none_pending.Given as goal

abbrev pub invariant-loop-group : goal.invariant-loop-group
invariant-loop-group l = all_below l.group (λ g. not ((state_of l.self).engine.directory.pending g)) ≡ true
