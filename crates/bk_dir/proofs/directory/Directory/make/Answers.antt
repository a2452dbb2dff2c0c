use Rattle.std.proofs.Common.{ap, ◌∙◌, subst, sym, refl, ◌*◌, List, ℕ, [], ◌∷◌}
use Rattle.bk_base.specs.Places.{InProfile}
use Rattle.bk_dir.specs.Lists.{entries_of, AreFields}
use Rattle.bk_dir.proofs.Lists.{entries_of-same, fields_of-same, bits_of-none, few_caches, few_ways, few_sets}
use Rattle.bk_dir.proofs.Words.{five-zeros}
use Rattle.bk_dir.proofs.directory.Directory.make.Goals as goal

pub invariant_of-result-clause-few_caches : goal.invariant_of-result-clause-few_caches
invariant_of-result-clause-few_caches c = few_caches c.args.config (subst InProfile c.config.view_is c.config.invariant)

pub invariant_of-result-clause-few_ways : goal.invariant_of-result-clause-few_ways
invariant_of-result-clause-few_ways c = few_ways c.args.config (subst InProfile c.config.view_is c.config.invariant)

pub invariant_of-result-clause-few_sets : goal.invariant_of-result-clause-few_sets
invariant_of-result-clause-few_sets c = few_sets c.args.config (subst InProfile c.config.view_is c.config.invariant)

pub invariant_of-result-clause-fields : goal.invariant_of-result-clause-fields
invariant_of-result-clause-fields c =
    subst (λ (xs : List (List ℕ)). AreFields c.args.config xs)
    (sym (c.in_ok-segments.ensures.items_if_clones_equal (λ y same. five-zeros y same.long (λ i l. same.at i 0 0 l))))
    (fields_of-same c.args.config (c.config.inside.sets * 16) (0 ∷ 0 ∷ 0 ∷ 0 ∷ 0 ∷ [])
    (subst InProfile c.config.view_is c.config.invariant) refl)

pub returns-clause-state : goal.returns-clause-state
returns-clause-state c =
    let entries = ap entries_of (c.in_ok-segments.ensures.items_if_clones_equal
    (λ y same. five-zeros y same.long (λ i l. same.at i 0 0 l)))
    ∙ entries_of-same (c.config.inside.sets * 16) (0 ∷ 0 ∷ 0 ∷ 0 ∷ 0 ∷ []) refl in
    λ i. record { entries = entries i; pending = bits_of-none i }
