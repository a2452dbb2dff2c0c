use Rattle.std.proofs.Common.{rules, length}
use Rattle.std.proofs.lemmas.List.Sorted.{answers_always}
use Rattle.bk_image.proofs.Known.{searched}
use Rattle.bk_image.proofs.image.Image.search.Goals as goal

-- the closure gives a line's place, and the slice is the image's know lines
pub returns : goal.returns
returns c =
    let facts = c.binary_search_by_key.ensures in
    let by_key = facts.position (λ line. line.0) (answers_always _ _ _ (λ f a r g called. search rules)) in
    rw (
      ← c.self.view_is,
      ← c.deref.ensures.value,
    )
    (searched (length c.self.inside.instrs.items) c.deref.result.now (rw c.deref.ensures.value c.self.invariant.whole.lines) c.args.place _
    facts.bound by_key)
