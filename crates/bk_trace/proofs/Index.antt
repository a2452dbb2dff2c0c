-- The places of a trace's lines, by cache.
use Rattle.std.proofs.Common.{◌≡◌, ◌≢◌, ◌==◌, ◌≤◌, Bool, true, false, cond, ℕ, zero, suc, inl, inr, ◌<◌, List, [], ◌∷◌, ◌++◌, ◌+◌, length, get_or, set, map, refl, sym, ap, subst, ◌∙◌, zero-add, arith}
use Rattle.std.specs.Prelude.{Option, Some, slice_get}
use Rattle.std.specs.Option.{option_map, option_and_then}
use Rattle.std.proofs.lemmas.Bool.Decides.{nat_tests}
use Rattle.std.proofs.lemmas.Grind.{get_or-set_at}
use Rattle.std.proofs.lemmas.List.{get_or-map, get_or-set_other, length-map, length-set, map-append, map-set, append-nil, ext_get_or}
use Rattle.std.proofs.lemmas.List.FromFn.{length-map-range_with_len, get_or-map-range_with_len, map-range_with_len_more}
use Rattle.std.proofs.lemmas.Option.{slice_get_read}
use Rattle.bk_base.specs.declared.op.Op.{Op}
use Rattle.bk_text.proofs.LineWords.{tested}
use Rattle.bk_trace.specs.Traces.{operations_of, places_from, index_of}

-- ---- an index of a cache's places

pub length-index : {X : Type 0} (f : X → List ℕ) (index : List X) (caches : ℕ) (lines : List (ℕ × Op))
    → map f index ≡ index_of caches lines → length index ≡ caches
length-index f index caches lines e =
    let same : length (map f index) ≡ caches = rw e (length-map-range_with_len (λ cache. places_from 0 cache lines) 0 caches) in
    rw length-map at same

pub index-at : {X : Type 0} (f : X → List ℕ) (index : List X) (caches : ℕ) (lines : List (ℕ × Op))
    → map f index ≡ index_of caches lines
    → (cache : ℕ) (x : X) → cache < caches → x ≡ get_or index cache x → f x ≡ places_from 0 cache lines
index-at f index caches lines e cache x within is =
    let inside : cache < length index = rw (length-index f index caches lines e) within in
    ap f is ∙ sym (get_or-map f index cache x [] inside) ∙ ap (λ l. get_or l cache []) e
    ∙ get_or-map-range_with_len (λ k. places_from 0 k lines) 0 caches cache cache [] within (omega arith)

-- one more cache, before any line
pub index-wider : {X : Type 0} (f : X → List ℕ) (index : List X) (cache : ℕ) (x : X) → map f index ≡ index_of cache [] → f x ≡ []
    → map f (index ++ x ∷ []) ≡ index_of (cache + 1) []
index-wider f index cache x e is =
    map-append f index (x ∷ []) ∙ ap (λ l. l ++ f x ∷ []) e ∙ ap (λ y. index_of cache [] ++ y ∷ []) is
    ∙ sym (map-range_with_len_more (λ k. places_from 0 k []) 0 cache cache (omega arith))

-- ---- one more line

pick-append : (b : Bool) (number : ℕ) (xs ys : List ℕ) → cond b (number ∷ (xs ++ ys)) (xs ++ ys) ≡ cond b (number ∷ xs) xs ++ ys
pick-append true number xs ys = refl
pick-append false number xs ys = refl

places-more : (number cache : ℕ) (lines : List (ℕ × Op)) (line : ℕ × Op)
    → places_from number cache (lines ++ line ∷ [])
    ≡ places_from number cache lines ++ cond (line.0 == cache) ((number + length lines) ∷ []) []
places-more number cache [] line =
    let same : number ≡ number + length {A = ℕ × Op} [] = omega arith in ap (λ n. cond (line.0 == cache) (n ∷ []) []) same
places-more number cache (first ∷ lines) line =
    let behind = places_from (number + 1) cache lines in
    let same : number + 1 + length lines ≡ number + suc (length lines) = omega arith in
    ap (λ xs. cond (first.0 == cache) (number ∷ xs) xs) (places-more (number + 1) cache lines line)
    ∙ pick-append (first.0 == cache) number behind (cond (line.0 == cache) ((number + 1 + length lines) ∷ []) [])
    ∙ ap (λ n. cond (first.0 == cache) (number ∷ behind) behind ++ cond (line.0 == cache) (n ∷ []) []) same

own-more : (cache : ℕ) (lines : List (ℕ × Op)) (line : ℕ × Op) → line.0 ≡ cache
    → places_from 0 cache (lines ++ line ∷ []) ≡ places_from 0 cache lines ++ length lines ∷ []
own-more cache lines line is =
    let own : (line.0 == cache) ≡ true = grind (arith, nat_tests) in
    places-more 0 cache lines line ∙ ap (λ b. places_from 0 cache lines ++ cond b ((0 + length lines) ∷ []) []) own
    ∙ ap (λ n. places_from 0 cache lines ++ n ∷ []) (zero-add (length lines))

other-more : (cache : ℕ) (lines : List (ℕ × Op)) (line : ℕ × Op) → line.0 ≢ cache
    → places_from 0 cache (lines ++ line ∷ []) ≡ places_from 0 cache lines
other-more cache lines line is =
    let other : (line.0 == cache) ≡ false = grind (arith, nat_tests) in
    places-more 0 cache lines line ∙ ap (λ b. places_from 0 cache lines ++ cond b ((0 + length lines) ∷ []) []) other
    ∙ append-nil (places_from 0 cache lines)

index-row : (caches : ℕ) (lines : List (ℕ × Op)) (cache : ℕ) → cache < caches
    → get_or (index_of caches lines) cache [] ≡ places_from 0 cache lines
index-row caches lines cache within =
    get_or-map-range_with_len (λ k. places_from 0 k lines) 0 caches cache cache [] within (omega arith)

length-index_of : (caches : ℕ) (lines : List (ℕ × Op)) → length (index_of caches lines) ≡ caches
length-index_of caches lines = length-map-range_with_len (λ k. places_from 0 k lines) 0 caches

row-more : (caches : ℕ) (lines : List (ℕ × Op)) (line : ℕ × Op) → line.0 < caches → (cache : ℕ) → cache < caches
    → get_or (set (index_of caches lines) line.0 (places_from 0 line.0 lines ++ length lines ∷ [])) cache []
    ≡ get_or (index_of caches (lines ++ line ∷ [])) cache []
row-more caches lines line below cache within = elim (tested (line.0 == cache)) [
  | inl e ↦
      let is : cache ≡ line.0 = grind (arith, nat_tests) in
      let inside : line.0 < length (index_of caches lines) = rw (length-index_of caches lines) below in
      get_or-set_at (index_of caches lines) line.0 cache (places_from 0 line.0 lines ++ length lines ∷ []) [] is inside
      ∙ ap (λ k. places_from 0 k lines ++ length lines ∷ []) (sym is)
      ∙ sym (own-more cache lines line (sym is))
      ∙ sym (index-row caches (lines ++ line ∷ []) cache within)
  | inr e ↦
      let is : cache ≢ line.0 = grind (arith, nat_tests) in
      let back : line.0 ≢ cache = grind (arith, nat_tests) in
      get_or-set_other (index_of caches lines) line.0 cache (places_from 0 line.0 lines ++ length lines ∷ []) [] is
      ∙ index-row caches lines cache within
      ∙ sym (other-more cache lines line back)
      ∙ sym (index-row caches (lines ++ line ∷ []) cache within)
]

index-set : (caches : ℕ) (lines : List (ℕ × Op)) (line : ℕ × Op) → line.0 < caches
    → set (index_of caches lines) line.0 (places_from 0 line.0 lines ++ length lines ∷ []) ≡ index_of caches (lines ++ line ∷ [])
index-set caches lines line below =
    let row = places_from 0 line.0 lines ++ length lines ∷ [] in
    let whole = length-set (index_of caches lines) line.0 row ∙ length-index_of caches lines in
    ext_get_or [] (set (index_of caches lines) line.0 row) (index_of caches (lines ++ line ∷ []))
    (whole ∙ sym (length-index_of caches (lines ++ line ∷ [])))
    (λ cache within. row-more caches lines line below cache (rw (sym whole) within))

pub index-more : {X : Type 0} (f : X → List ℕ) (index : List X) (caches : ℕ) (lines : List (ℕ × Op)) (line : ℕ × Op) (x : X)
    → line.0 < caches → map f index ≡ index_of caches lines → f x ≡ places_from 0 line.0 lines ++ length lines ∷ []
    → map f (set index line.0 x) ≡ index_of caches (lines ++ line ∷ [])
index-more f index caches lines line x below e is =
    map-set f index line.0 x ∙ ap (λ l. set l line.0 (f x)) e ∙ ap (λ y. set (index_of caches lines) line.0 y) is
    ∙ index-set caches lines line below

-- ---- the operations at a cache's places

length-picked : (b : Bool) (number : ℕ) (op : Op) (places : List ℕ) (ops : List Op) → length places ≡ length ops
    → length (cond b (number ∷ places) places) ≡ length (cond b (op ∷ ops) ops)
length-picked true number op places ops e = ap suc e
length-picked false number op places ops e = e

length_places-from : (number cache : ℕ) (lines : List (ℕ × Op))
    → length (places_from number cache lines) ≡ length (operations_of cache lines)
length_places-from number cache [] = refl
length_places-from number cache (line ∷ lines) =
    length-picked (line.0 == cache) number line.1 (places_from (number + 1) cache lines) (operations_of cache lines)
    (length_places-from (number + 1) cache lines)

pub length_places : (cache : ℕ) (lines : List (ℕ × Op)) → length (places_from 0 cache lines) ≡ length (operations_of cache lines)
length_places cache lines = length_places-from 0 cache lines

picked-within : (b : Bool) (number limit : ℕ) (places : List ℕ) → number < limit
    → ((n p : ℕ) → slice_get places n ≡ Some p → p < limit)
    → (n p : ℕ) → slice_get (cond b (number ∷ places) places) n ≡ Some p → p < limit
picked-within true number limit places below behind zero p e = let is : number ≡ p = cc in subst (λ q. q < limit) is below
picked-within true number limit places below behind (suc n) p e = behind n p e
picked-within false number limit places below behind n p e = behind n p e

places-within : (number cache : ℕ) (lines : List (ℕ × Op)) (n p : ℕ) → slice_get (places_from number cache lines) n ≡ Some p
    → p < number + length lines
places-within number cache [] n p e = absurd cc
places-within number cache (line ∷ lines) n p e =
    picked-within (line.0 == cache) number (number + suc (length lines)) (places_from (number + 1) cache lines) (omega arith)
    (λ m q is. omega (arith, places-within (number + 1) cache lines m q is)) n p e

-- A place is one of the lines.
pub place_within : (cache : ℕ) (lines : List (ℕ × Op)) (n p : ℕ) → slice_get (places_from 0 cache lines) n ≡ Some p
    → p < length lines
place_within cache lines n p e = omega (arith, places-within 0 cache lines n p e)

abbrev op_at : List (ℕ × Op) → ℕ → Option Op
op_at lines p = option_map (λ line. line.1) (slice_get lines p)

picked-at : (b : Bool) (f : ℕ → Option Op) (number : ℕ) (op : Op) (places : List ℕ) (ops : List Op) → f number ≡ Some op
    → ((n : ℕ) → slice_get ops n ≡ option_and_then f (slice_get places n))
    → (n : ℕ) → slice_get (cond b (op ∷ ops) ops) n ≡ option_and_then f (slice_get (cond b (number ∷ places) places) n)
picked-at true f number op places ops here behind zero = sym here
picked-at true f number op places ops here behind (suc n) = behind n
picked-at false f number op places ops here behind n = behind n

operations_at : (f : ℕ → Option Op) (number cache : ℕ) (lines : List (ℕ × Op))
    → ((i : ℕ) → f (number + i) ≡ op_at lines i)
    → (n : ℕ) → slice_get (operations_of cache lines) n ≡ option_and_then f (slice_get (places_from number cache lines) n)
operations_at f number cache [] at n = refl
operations_at f number cache (line ∷ lines) at n =
    let here : number ≡ number + 0 = omega arith in
    picked-at (line.0 == cache) f number line.1 (places_from (number + 1) cache lines) (operations_of cache lines) (ap f here ∙ at 0)
    (operations_at f (number + 1) cache lines (λ i. let next : number + 1 + i ≡ number + suc i = omega arith in ap f next ∙ at (suc i)))
    n

-- An operation of a cache is the one that stands in the line at its place.
pub operation_at : (cache : ℕ) (lines : List (ℕ × Op)) (n : ℕ)
    → slice_get (operations_of cache lines) n ≡ option_and_then (op_at lines) (slice_get (places_from 0 cache lines) n)
operation_at cache lines n = operations_at (op_at lines) 0 cache lines (λ i. ap (op_at lines) (zero-add i)) n

-- an operation that is found
pub operation_found : (cache : ℕ) (lines : List (ℕ × Op)) (n p : ℕ) (line : ℕ × Op) → slice_get (places_from 0 cache lines) n ≡ Some p
    → line ≡ get_or lines p line → Some line.1 ≡ slice_get (operations_of cache lines) n
operation_found cache lines n p line there is =
    let read = slice_get_read lines (length lines) p line refl (place_within cache lines n p there) is in
    sym (operation_at cache lines n ∙ ap (option_and_then (op_at lines)) there ∙ ap (option_map (λ l. l.1)) read)

length-kept : (b : Bool) (op : Op) (ops : List Op) (n : ℕ) → length ops ≤ n → length (cond b (op ∷ ops) ops) ≤ n + 1
length-kept true op ops n h = omega arith
length-kept false op ops n h = omega arith

pub length_operations_of : (cache : ℕ) (lines : List (ℕ × Op)) → length (operations_of cache lines) ≤ length lines
length_operations_of cache [] = omega arith
length_operations_of cache (line ∷ lines) =
    omega (arith, length-kept (line.0 == cache) line.1 (operations_of cache lines) (length lines) (length_operations_of cache lines))
