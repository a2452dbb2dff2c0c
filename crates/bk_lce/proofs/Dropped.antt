-- Lines that are dropped one after the other.
use Rattle.std.proofs.Common.{◌≡◌, ℕ, ◌+◌, nat_lt, if◌then◌else◌, List, ap, ◌∙◌, arith}
use Rattle.std.proofs.lemmas.Bool.Decides.{nat_tests}
use mathlib.Core.Path.{fun_ext}
use Rattle.bk_base.specs.Tables.{put}
use Rattle.bk_lce.specs.declared.line.Line.{Line}
use Rattle.bk_lce.specs.declared.cache_arrays.CacheArrays.{CacheArrays}
use Rattle.bk_lce.specs.CacheState.{CacheState, with_line}
use Rattle.bk_lce.specs.CacheTable.{wiped_line}
use Rattle.bk_lce.specs.CacheArrays.{state_of}
use Rattle.bk_lce.specs.Lists.{lines_of}

-- the ways below i of a set are dropped where they hold the block with a tag
abbrev pub dropped_below : ℕ → ℕ → ℕ → CacheState → CacheState
dropped_below i set tag cache =
    record cache { lines = put cache.lines set (λ w. if nat_lt w i then wiped_line tag (cache.lines set w) else cache.lines set w) }

put_itself : {X : Type 0} (f : ℕ → X) (number i : ℕ) → put f number (f number) i ≡ f i
unfolding put
put_itself f k i = grind (arith, nat_tests)

none_yet : (f : ℕ → Line) (tag v : ℕ) → (if nat_lt v 0 then wiped_line tag (f v) else f v) ≡ f v
none_yet f tag v = grind (arith, nat_tests)

-- at first none is
pub dropped_none : (set tag : ℕ) (cache : CacheState) → dropped_below 0 set tag cache ≡ cache
dropped_none set tag cache =
    ap (λ (f : ℕ → ℕ → Line). record cache { lines = f })
    (ap (put cache.lines set) (fun_ext (λ v. none_yet (cache.lines set) tag v)) ∙ fun_ext (λ i. put_itself cache.lines set i))

row_more : (f : ℕ → Line) (i tag v : ℕ)
    → put (λ w. if nat_lt w i then wiped_line tag (f w) else f w) i (wiped_line tag (if nat_lt i i then wiped_line tag (f i) else f i)) v
    ≡ (if nat_lt v (i + 1) then wiped_line tag (f v) else f v)
unfolding put
row_more f i tag v = grind (arith, nat_tests)

put_at : {X : Type 0} (f : ℕ → X) (number : ℕ) (x : X) → put f number x number ≡ x
unfolding put
put_at f k x = grind (arith, nat_tests)

put_twice : {X : Type 0} (f : ℕ → X) (number : ℕ) (x y : X) (i : ℕ) → put (put f number x) number y i ≡ put f number y i
unfolding put
put_twice f k x y i = grind (arith, nat_tests)

-- one way more
pub dropped_more : (i set tag : ℕ) (cache : CacheState)
    → with_line (dropped_below i set tag cache) set i (wiped_line tag ((dropped_below i set tag cache).lines set i))
    ≡ dropped_below (i + 1) set tag cache
dropped_more i set tag cache =
    let row : ℕ → Line = λ w. if nat_lt w i then wiped_line tag (cache.lines set w) else cache.lines set w in
    let next : ℕ → Line = λ w. if nat_lt w (i + 1) then wiped_line tag (cache.lines set w) else cache.lines set w in
    let at : put cache.lines set row set ≡ row = put_at cache.lines set row in
    let written : put (put cache.lines set row set) i (wiped_line tag (put cache.lines set row set i)) ≡ next =
    ap (λ (r : ℕ → Line). put r i (wiped_line tag (r i))) at ∙ fun_ext (λ v. row_more (cache.lines set) i tag v) in
    ap (λ (f : ℕ → ℕ → Line). record cache { lines = f })
    (fun_ext (λ j. put_twice cache.lines set row (put (put cache.lines set row set) i (wiped_line tag (put cache.lines set row set i))) j)
    ∙ ap (put cache.lines set) written)

past_ways : (ways : ℕ) (xs : List Line) (set tag w : ℕ)
    → (if nat_lt w ways then wiped_line tag (lines_of ways xs set w) else lines_of ways xs set w)
    ≡ wiped_line tag (lines_of ways xs set w)
unfolding lines_of
past_ways ways xs s tag w = grind (arith, nat_tests)

-- at last all are
pub dropped_all : (a : CacheArrays) (set tag : ℕ)
    → dropped_below a.config.ways set tag (state_of a)
    ≡ record (state_of a) { lines = put (state_of a).lines set (λ w. wiped_line tag ((state_of a).lines set w)) }
unfolding state_of
dropped_all a s tag =
    ap (λ (r : ℕ → Line). record (state_of a) { lines = put (state_of a).lines s r })
    (fun_ext (λ w. past_ways a.config.ways a.lines.items s tag w))
