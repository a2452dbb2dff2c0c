use Rattle.std.proofs.Common.{◌≡◌, ◌<◌, ◌^◌, true, map, length, sym, ◌∙◌}
use Rattle.bk_asm.specs.Names.{all_below}
use Rattle.bk_asm.proofs.Named.{joined_some, joined_below, if_some}
use Rattle.bk_asm.proofs.know.values_of.Goals as goal

pub returns-clause-some : goal.returns-clause-some
returns-clause-some c =
    let names = map (λ name. (name.0.now, name.1)) c.value_names.result.now in
    if_some (λ s. 0 < s) c.joined.result (λ s is. joined_some names 124 c.in_ok-values.field-0.now s (sym c.joined.ensures ∙ is))

pub returns-clause-few : goal.returns-clause-few
returns-clause-few c =
    let names = map (λ name. (name.0.now, name.1)) c.value_names.result.now in
    let below : all_below (length c.value_names.result.now) names ≡ true = rw c.value_names.ensures.value c.value_names.ensures.below in
    rw (← c.value_names.ensures.count)
    (if_some (λ s. s < 2 ^ length c.value_names.result.now) c.joined.result
    (λ s is. joined_below (length c.value_names.result.now) names 124 c.in_ok-values.field-0.now s below (sym c.joined.ensures ∙ is)))
