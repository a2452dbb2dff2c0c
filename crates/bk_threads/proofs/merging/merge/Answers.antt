use Rattle.std.proofs.Common.{◌≡◌, ◌∙◌, map, sym, ap, subst, rules}
use Rattle.std.specs.Prelude.{IsPermutation}
use Rattle.std.specs.List.Sorted.{IsStableByKey}
use Rattle.std.proofs.lemmas.Result.{IfOk-weaker}
use Rattle.std.proofs.lemmas.List.Sorted.{answers_always}
use Rattle.bk_threads.specs.Journals.{event_of, IsMerge}
use Rattle.bk_threads.proofs.Merges.{key, by_both, is_merge}
use Rattle.bk_threads.proofs.merging.merge.Goals as goal

pub returns : goal.returns
returns c =
    let journals = c.args.journals.now in
    let entries = c.sort_by_key.new.self.items in
    let sort = c.in_ok-sort_by_key.ensures in
    let merged : IsMerge journals (map event_of entries) =
    is_merge journals entries c.requires (subst (λ all. IsPermutation all entries) c.in_ok-entries.ensures sort.permutation)
    (sort.sorted key (answers_always _ _ _ (λ f a r g h. search rules)))
    (subst (λ all. IsStableByKey key by_both all entries) c.in_ok-entries.ensures (sort.stable key (answers_always _ _ _
    (λ f a r g h. search rules)))) in
    IfOk-weaker c.events_of.result (λ events. events.items ≡ map event_of c.deref.result.now) (λ events. IsMerge journals events.items)
    (λ events same. subst (IsMerge journals) (sym (same ∙ ap (map event_of) c.deref.ensures.value)) merged) c.events_of.ensures
