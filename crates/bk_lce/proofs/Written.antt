-- What a list of lines, or of recency words, stands for after one of its places is written.
use Rattle.std.proofs.Common.{◌≡◌, ℕ, ◌*◌, ◌<◌, List, length, slice_index_or, slice_set, ap, ◌∙◌, sym, subst, inl, inr, arith, get_or-set_same, get_or-set_other}
use Rattle.std.proofs.lemmas.Bool.{cases_eq}
use Rattle.std.proofs.lemmas.List.{get_or_default, length-set}
use Rattle.std.proofs.lemmas.Nat.{mul-add-lt, same_from_place}
use Rattle.std.proofs.lemmas.Bool.Decides.{nat_tests}
use mathlib.Core.Path.{fun_ext}
use Rattle.bk_base.specs.Places.{Shape}
use Rattle.bk_base.specs.Tables.{put}
use Rattle.bk_lce.specs.declared.line.Line.{Line}
use Rattle.bk_lce.specs.CacheState.{empty_line, ways_in_order, packed}
use Rattle.bk_lce.proofs.Packed.{packed-digits}
use Rattle.bk_lce.specs.Lists.{place_of, lines_of, digits, word_at, recency_of, IsListed, AreListed}

-- the place of a line is one of the list
pub place_within : (sets ways set w : ℕ) → set < sets → w < ways → place_of ways set w < sets * ways
place_within sets ways set w l k = omega (arith, mul-add-lt set ways w sets l k)

-- two places are one only where set and way are
other_place : (ways set w i v : ℕ) → w < ways → v < ways → place_of ways i v ≡ place_of ways set w → (i ≡ set) × (v ≡ w)
other_place ways set w i v l k e = same_from_place i v set w ways k l e

line-at : (ways : ℕ) (xs : List Line) (set w : ℕ) (line : Line) → w < ways → place_of ways set w < length xs → (i v : ℕ)
    → lines_of ways (slice_set xs (place_of ways set w) line) i v ≡ put (lines_of ways xs) set (put (lines_of ways xs set) w line) i v
unfolding lines_of put
line-at ways xs s w line l within i v =
    grind (
      arith,
      nat_tests,
      other_place ways s w i v,
      get_or-set_same xs (place_of ways s w) line empty_line,
      get_or-set_other xs (place_of ways s w) (place_of ways i v) line empty_line,
    )

-- a line written at its place
pub lines_of_set : (ways : ℕ) (xs : List Line) (set w : ℕ) (line : Line) → w < ways → place_of ways set w < length xs
    → lines_of ways (slice_set xs (place_of ways set w) line) ≡ put (lines_of ways xs) set (put (lines_of ways xs set) w line)
lines_of_set ways xs set w line l within = fun_ext (λ i. fun_ext (λ v. line-at ways xs set w line l within i v))

-- a line that was read at its place
pub lines_read : (ways : ℕ) (xs : List Line) (set w : ℕ) (read : Line) → w < ways → place_of ways set w < length xs
    → read ≡ slice_index_or xs (place_of ways set w) read
    → lines_of ways xs set w ≡ read
unfolding lines_of
lines_read ways xs s w read l within e =
    let is = get_or_default xs (place_of ways s w) read empty_line within in
    grind (arith, nat_tests, is)

-- a line that was changed at its place
pub lines_changed : (ways : ℕ) (xs : List Line) (set w place : ℕ) (read : Line) (change : Line → Line) → w < ways
    → place ≡ place_of ways set w → place < length xs → read ≡ slice_index_or xs place read
    → lines_of ways (slice_set xs place (change read))
    ≡ put (lines_of ways xs) set (put (lines_of ways xs set) w (change (lines_of ways xs set w)))
lines_changed ways xs set w place read change l at within e =
    let here : place_of ways set w < length xs = subst (λ (i : ℕ). i < length xs) at within in
    let is = lines_read ways xs set w read l here (e ∙ ap (λ i. slice_index_or xs i read) at) in
    ap (λ i. lines_of ways (slice_set xs i (change read))) at ∙ lines_of_set ways xs set w (change read) l here
    ∙ ap (λ (x : Line). put (lines_of ways xs) set (put (lines_of ways xs set) w (change x))) (sym is)

-- a line written as it was
pub put_itself : (f : ℕ → ℕ → Line) (set w : ℕ) → put f set (put (f set) w (f set w)) ≡ f
unfolding put
put_itself f set w = fun_ext (λ i. fun_ext (λ v. at i v))
  where
    at : (i v : ℕ) → put f set (put (f set) w (f set w)) i v ≡ f i v
    at i v = grind (arith, nat_tests)

recency-at : (ways : ℕ) (xs : List ℕ) (set new : ℕ) → set < length xs → (i : ℕ)
    → recency_of ways (slice_set xs set new) i ≡ put (recency_of ways xs) set (digits ways new) i
unfolding recency_of put
recency-at ways xs s new within i =
    let usual : ℕ = packed (ways_in_order ways) in
    grind (arith, nat_tests, get_or-set_same xs s new usual, get_or-set_other xs s i new usual)

-- a set's word written
pub recency_of_set : (ways : ℕ) (xs : List ℕ) (set new : ℕ) (items : List ℕ) → set < length xs → digits ways new ≡ items
    → recency_of ways (slice_set xs set new) ≡ put (recency_of ways xs) set items
recency_of_set ways xs set new items within e =
    subst (λ vs. recency_of ways (slice_set xs set new) ≡ put (recency_of ways xs) set vs) e
    (fun_ext (λ i. recency-at ways xs set new within i))

-- each set still lists each way
pub listed_set : (k : Shape) (xs : List ℕ) (set new : ℕ) → set < length xs → IsListed k.ways new → AreListed k xs
    → AreListed k (slice_set xs set new)
listed_set k xs s new within n h i l =
    let usual : ℕ = packed (ways_in_order k.ways) in
    elim (cases_eq i s) [
      | inl same ↦
          subst (λ (word : ℕ). IsListed k.ways word)
          (sym (ap (λ j. slice_index_or (slice_set xs s new) j usual) same ∙ get_or-set_same xs s new usual within)) n
      | inr differ ↦
          subst (λ (word : ℕ). IsListed k.ways word) (sym (get_or-set_other xs s i new usual differ))
          (h i (subst (λ (n : ℕ). i < n) (length-set xs s new) l))
    ]

-- the word that was read at a set: its list, that it lists each way, and that it is made of them
word_read : (ways : ℕ) (xs : List ℕ) (set read : ℕ) → set < length xs → read ≡ slice_index_or xs set read
    → read ≡ word_at ways xs set
word_read ways xs set read within e = e ∙ get_or_default xs set read (packed (ways_in_order ways)) within

pub list_read : (ways : ℕ) (xs : List ℕ) (set read : ℕ) → set < length xs → read ≡ slice_index_or xs set read
    → digits ways read ≡ recency_of ways xs set
unfolding recency_of
list_read ways xs set read within e = ap (digits ways) (word_read ways xs set read within e)

pub listed_read : (k : Shape) (xs : List ℕ) (set read : ℕ) → set < length xs → read ≡ slice_index_or xs set read
    → AreListed k xs
    → IsListed k.ways read
listed_read k xs set read within e h =
    subst (λ (word : ℕ). IsListed k.ways word) (sym (word_read k.ways xs set read within e)) (h set within)

pub packed_read : (k : Shape) (xs : List ℕ) (set read : ℕ) → set < length xs → read ≡ slice_index_or xs set read
    → AreListed k xs
    → read ≡ packed (recency_of k.ways xs set)
packed_read k xs set read within e h =
    sym (packed-digits k.ways read (listed_read k xs set read within e h).below) ∙ ap packed (list_read k.ways xs set read within e)
