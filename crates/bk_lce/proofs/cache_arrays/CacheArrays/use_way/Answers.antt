-- The word of the set holds the set's list, and what is written in its place holds the list with the way at its front.
use Rattle.std.proofs.Common.{◌≡◌, ℕ, List, arith, ap, sym, ◌∙◌}
use Rattle.bk_lce.specs.CacheState.{to_front}
use Rattle.bk_lce.specs.CacheArrays.{state_of}
use Rattle.bk_lce.specs.Lists.{digits, recency_of}
use Rattle.bk_lce.proofs.Written.{list_read, recency_of_set}
use Rattle.bk_lce.proofs.cache_arrays.CacheArrays.use_way.Goals as goal

pub returns-clause-state : goal.returns-clause-state
unfolding state_of
returns-clause-state c =
    let ways : ℕ = c.args.self.now.config.ways in
    let is : digits ways c.index-word.result.now ≡ recency_of ways c.args.self.now.recency.items c.args.set =
    list_read ways c.args.self.now.recency.items c.args.set c.index-word.result.now (omega arith) c.index-word.ensures in
    let moved : digits ways c.to_front.result ≡ to_front c.args.way (recency_of ways c.args.self.now.recency.items c.args.set) =
    ap (λ (n : ℕ). digits n c.to_front.result) (sym c.ways-ways.ensures) ∙ c.to_front.ensures.list
    ∙ ap (λ (n : ℕ). to_front c.args.way (digits n c.index-word.result.now)) c.ways-ways.ensures ∙ ap (to_front c.args.way) is in
    ap (λ (f : ℕ → List ℕ). record (state_of c.args.self.now) { recency = f })
    (recency_of_set ways c.args.self.now.recency.items c.args.set c.to_front.result
    (to_front c.args.way (recency_of ways c.args.self.now.recency.items c.args.set)) (omega arith) moved)
