use Rattle.std.proofs.Common.{ℕ, sym, ◌∙◌, arith}
use Rattle.bk_base.specs.Counting.{all_below, is_nil}
use Rattle.bk_base.proofs.Below.{all_below-fails}
use Rattle.bk_system.specs.Channels.{queue}
use Rattle.bk_system.specs.Numbering.{fills_of}
use Rattle.bk_system.proofs.quiet.are_empty.Goals as goal

pub returns-then-not-are_empty_to : goal.returns-then-not-are_empty_to
returns-then-not-are_empty_to c =
    sym (all_below-fails c.args.caches c.loop-to.to
    (λ (to : ℕ). all_below c.args.caches (λ from. is_nil (fills_of (queue c.args.fills.now) to from))) (omega arith)
    (sym c.are_empty_to.ensures ∙ c.if-not-are_empty_to.true))
