use Rattle.std.proofs.Common.{map, sym, ◌∙◌}
use Rattle.std.specs.Option.{option_map}
use Rattle.bk_asm.proofs.Named.{joined_on, joined_none}
use Rattle.bk_asm.proofs.names.joined.Goals as goal

pub returns-in_err-value : goal.returns-in_err-value
returns-in_err-value c =
    let names = map (λ name. (name.0.now, name.1)) c.args.names.now in
    let behind = option_map (λ w. w.now) c.cut.result.1 in
    let none = joined_none names c.args.separator c.loop-left.set c.in-Some.rest.now c.cut.result.0.now behind c.cut.ensures.value
    (sym c.small_named.ensures.value ∙ c.in_err-value.was) in
    c.from_residual.ensures ∙ (sym none ∙ (rw c.in-Some.is at c.loop-left.invariant))

pub loop-left-preserved : goal.loop-left-preserved
loop-left-preserved c =
    let names = map (λ name. (name.0.now, name.1)) c.args.names.now in
    let behind = option_map (λ w. w.now) c.cut.result.1 in
    let on = joined_on names c.args.separator c.loop-left.set c.in-Some.rest.now c.cut.result.0.now behind c.in_ok-value.value
    c.cut.ensures.value (sym c.small_named.ensures.value ∙ c.in_ok-value.was) in
    rw c.with_value-set.ensures (sym on ∙ (rw c.in-Some.is at c.loop-left.invariant))
