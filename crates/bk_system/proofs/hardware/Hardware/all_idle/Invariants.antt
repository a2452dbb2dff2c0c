use Rattle.std.proofs.Common.{◌≡◌, true}
use Rattle.std.specs.Prelude.{is_none}
use Rattle.bk_base.specs.Counting.{all_below}
use Rattle.bk_system.specs.Systems.{state_of}
use Rattle.bk_system.proofs.hardware.Hardware.all_idle.Given as goal

abbrev pub invariant-loop-cache : goal.invariant-loop-cache
invariant-loop-cache l = all_below l.cache (λ c. is_none ((state_of l.self).caches c).busy) ≡ true
