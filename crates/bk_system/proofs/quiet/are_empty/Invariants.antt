use Rattle.std.proofs.Common.{◌≡◌, true}
use Rattle.bk_base.specs.Counting.{all_below, is_nil}
use Rattle.bk_system.specs.Channels.{queue}
use Rattle.bk_system.specs.Numbering.{fills_of}
use Rattle.bk_system.proofs.quiet.are_empty.Given as goal

abbrev pub invariant-loop-to : goal.invariant-loop-to
invariant-loop-to l = all_below l.to (λ to. all_below l.caches (λ from. is_nil (fills_of (queue l.fills) to from))) ≡ true
