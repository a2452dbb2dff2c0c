use Rattle.std.proofs.Common.{◌≡◌, true}
use Rattle.bk_base.specs.Counting.{all_below, is_nil}
use Rattle.bk_system.specs.Channels.{queue}
use Rattle.bk_system.specs.Numbering.{fills_of}
use Rattle.bk_system.proofs.quiet.are_empty_to.Given as goal

abbrev pub invariant-loop-from : goal.invariant-loop-from
invariant-loop-from l = all_below l.from (λ from. is_nil (fills_of (queue l.fills) l.to from)) ≡ true
