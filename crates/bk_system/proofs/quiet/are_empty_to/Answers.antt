use Rattle.std.proofs.Common.{◌<◌, ℕ, ap, sym, ◌∙◌, arith}
use Rattle.std.specs.Prelude.{not}
use Rattle.bk_base.specs.Counting.{is_nil}
use Rattle.bk_base.proofs.Below.{all_below-fails, all_below-more}
use Rattle.bk_base.specs.declared.config.TheConstants.{MOST_CACHES}
use Rattle.bk_system.specs.Channels.{queue}
use Rattle.bk_system.specs.Numbering.{fills_of}
use Rattle.bk_system.proofs.Empty.{fills-nil}
use Rattle.bk_system.proofs.quiet.are_empty_to.Goals as goal

pub returns-then-is_some : goal.returns-then-is_some
returns-then-is_some c =
    let q = queue c.args.fills.now in
    let within : c.loop-from.from < MOST_CACHES = omega (arith, c.requires.caches) in
    sym (all_below-fails c.args.caches c.loop-from.from (λ (from : ℕ). is_nil (fills_of q c.args.to from)) (omega arith)
    (fills-nil q c.args.to c.loop-from.from c.fill_place.result c.head.result c.is_some.result c.requires.to within
    c.fill_place.ensures.value c.head.ensures.value c.is_some.ensures ∙ ap not c.if-is_some.true))

pub loop-from-preserved : goal.loop-from-preserved
loop-from-preserved c =
    let q = queue c.args.fills.now in
    let within : c.loop-from.from < MOST_CACHES = omega (arith, c.requires.caches) in
    all_below-more c.loop-from.from (λ (from : ℕ). is_nil (fills_of q c.args.to from)) c.loop-from.invariant
    (fills-nil q c.args.to c.loop-from.from c.fill_place.result c.head.result c.is_some.result c.requires.to within
    c.fill_place.ensures.value c.head.ensures.value c.is_some.ensures ∙ ap not c.if-is_some.false)
