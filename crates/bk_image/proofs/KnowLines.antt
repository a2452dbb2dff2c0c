-- Know lines: what is read is spelled so, what is spelled so is read, and their places ascend.
use Rattle.std.proofs.Common.{◌≡◌, ℕ, zero, suc, ◌+◌, ◌-◌, ◌^◌, ◌<◌, ◌≤◌, true, false, cond, ltb, List, [], ◌∷◌, ◌++◌, length, drop, Result, Ok, Err, refl, sym, ap, subst, ◌∙◌, append_assoc, arith}
use Rattle.std.specs.List.{flat_map, AllByRecursion}
use Rattle.std.specs.Int.{w32, w64, to_le_bytes}
use Rattle.std.proofs.lemmas.Bool.{and_parts, ltb-true, ltb-false, leb-true, lt-ltb, le-ltb, le-leb}
use Rattle.std.proofs.lemmas.List.{drop_at, drop-drop}
use Rattle.std.proofs.lemmas.List.Concat.{flat_map-cons}
use Rattle.bk_know.specs.declared.sets.Sets.{Sets}
use Rattle.bk_know.specs.Sets.{sets_of, mask_of, any_empty, IsKnow}
use Rattle.bk_know.specs.Packing.{mask_of-sets_of}
use Rattle.bk_image.specs.declared.fault.Kind.TheVariants.{KnowLine, NotAscending}
use Rattle.bk_image.specs.Faults.{Bad, bad}
use Rattle.bk_image.specs.Images.{Line, are_lines}
use Rattle.bk_image.specs.Reading.{◌>>=◌, number_at, mask_at, line_at, lines_at}
use Rattle.bk_image.specs.Spelling.{line, HasMask}
use Rattle.bk_image.proofs.Numbers.{IsBytes, bind_ok, fails_not, holds, ok_is, Takes, Takes-then, wide32, wide64, number_takes, number_again}

-- ---- masks

is_know : (number : ℕ) → number < 2 ^ 64 → any_empty (sets_of number) ≡ false → IsKnow (sets_of number)
is_know number small some =
    let same = mask_of-sets_of number small in
    record { small = rw same small; again = ap (λ (n : ℕ). sets_of n) same; some = some }

mask_takes : (total : ℕ) (bytes : List ℕ) (sets : Sets) → IsBytes bytes → mask_at total bytes ≡ Ok sets
    → Takes bytes (to_le_bytes w64 (mask_of sets)) (drop 8 bytes) × IsKnow sets
unfolding mask_at
mask_takes total bytes s fits e =
    let b = bind_ok (number_at w64 total bytes)
    (λ mask. cond (any_empty (sets_of mask.0)) (Err (bad (total - length bytes) KnowLine)) (Ok (sets_of mask.0))) s e in
    let g = fails_not (any_empty (sets_of b.0.0)) (bad (total - length bytes) KnowLine) (Ok (sets_of b.0.0)) s b.2 in
    let t = number_takes wide64 total bytes b.0 fits b.1 in
    let same = mask_of-sets_of b.0.0 t.small in
    let taken : Takes bytes (to_le_bytes w64 b.0.0) (drop 8 bytes) =
    subst (λ (rest : List ℕ). Takes bytes (to_le_bytes w64 b.0.0) rest) (sym t.rest-is) t.takes in
    let spelled : Takes bytes (to_le_bytes w64 (mask_of (sets_of b.0.0))) (drop 8 bytes) =
    subst (λ (n : ℕ). Takes bytes (to_le_bytes w64 n) (drop 8 bytes)) (sym same) taken in
    subst (λ (q : Sets). Takes bytes (to_le_bytes w64 (mask_of q)) (drop 8 bytes) × IsKnow q) (ok_is (sets_of b.0.0) s g.1) (
      spelled,
      is_know b.0.0 t.small g.0,
    )

mask_again : (total : ℕ) (sets : Sets) (rest : List ℕ) → IsKnow sets
    → mask_at total (to_le_bytes w64 (mask_of sets) ++ rest) ≡ Ok sets
unfolding mask_at
mask_again total s rest h =
    let some : any_empty (sets_of (mask_of s)) ≡ false = ap (λ (q : Sets). any_empty q) h.again ∙ h.some in
    rw (number_again wide64 total (mask_of s) rest h.small, some, h.again) refl

-- ---- a know line

-- where a know line may stand
abbrev pub Stands : ℕ → ℕ → Line → Type 0
Stands instrs least line = (least ≤ line.0) × (line.0 < instrs)

-- what follows the place of a know line
abbrev masked : ℕ → ℕ × List ℕ → Result Line Bad
masked total place = mask_at total place.1 >>= λ sets. Ok (place.0, sets)

abbrev ordered : ℕ → ℕ → ℕ → ℕ × List ℕ → Result Line Bad
ordered total at least place = cond (ltb place.0 least) (Err (bad at NotAscending)) (masked total place)

-- the steps that led to a know line
record LineRead (total instrs least : ℕ) (bytes : List ℕ) (line : Line) : Type 0 where
  place : ℕ × List ℕ
  place_is : number_at w32 total bytes ≡ Ok place
  stands : Stands instrs least (place.0, line.1)
  mask : Sets
  mask_is : mask_at total place.1 ≡ Ok mask
  whole : (place.0, mask) ≡ line

line_read : (total instrs least : ℕ) (bytes : List ℕ) (line : Line) → line_at total instrs least bytes ≡ Ok line
    → LineRead total instrs least bytes line
unfolding line_at
line_read total instrs least bytes k e =
    let at = total - length bytes in
    let b = bind_ok (number_at w32 total bytes)
    (λ place. cond (ltb place.0 instrs) (ordered total at least place) (Err (bad at KnowLine))) k e in
    let g = holds (ltb b.0.0 instrs) (bad at KnowLine) (ordered total at least b.0) k b.2 in
    let h = fails_not (ltb b.0.0 least) (bad at NotAscending) (masked total b.0) k g.1 in
    let m = bind_ok (mask_at total b.0.1) (λ sets. Ok (b.0.0, sets)) k h.1 in
    record {
      place = b.0;
      place_is = b.1;
      stands = (ltb-false _ _ h.0, ltb-true _ _ g.0);
      mask = m.0;
      mask_is = m.1;
      whole = ok_is (b.0.0, m.0) k m.2;
    }

line_stands : (total instrs least : ℕ) (bytes : List ℕ) (line : Line) → line_at total instrs least bytes ≡ Ok line
    → Stands instrs least line
line_stands total instrs least bytes line e =
    let r = line_read total instrs least bytes line e in
    subst (λ (q : Line). Stands instrs least q) r.whole r.stands

line_takes : (total instrs least : ℕ) (bytes : List ℕ) (k : Line) → IsBytes bytes → line_at total instrs least bytes ≡ Ok k
    → Takes bytes (line k) (drop 12 bytes) × IsKnow k.1
line_takes total instrs least bytes k fits e =
    let r = line_read total instrs least bytes k e in
    let place = number_takes wide32 total bytes r.place fits r.place_is in
    let mask = mask_takes total r.place.1 r.mask place.takes.rest_fits r.mask_is in
    let made : Line = (r.place.0, r.mask) in
    let after : drop 8 r.place.1 ≡ drop 12 bytes = rw (← place.rest-is) (drop-drop 8 4 bytes) in
    let both : Takes bytes (line made) (drop 12 bytes) =
    subst (λ (rest : List ℕ). Takes bytes (line made) rest) after (Takes-then place.takes mask.0) in
    subst (λ (q : Line). Takes bytes (line q) (drop 12 bytes) × IsKnow q.1) r.whole (both, mask.1)

line_again : (total instrs least : ℕ) (k : Line) (rest : List ℕ) → instrs < 2 ^ 32 → IsKnow k.1 → Stands instrs least k
    → line_at total instrs least (line k ++ rest) ≡ Ok k
unfolding line_at
line_again total instrs least k rest few know stands =
    let regrouped : line k ++ rest ≡ to_le_bytes w32 k.0 ++ (to_le_bytes w64 (mask_of k.1) ++ rest) =
    append_assoc (to_le_bytes w32 k.0) (to_le_bytes w64 (mask_of k.1)) rest in
    let below : ltb k.0 instrs ≡ true = lt-ltb _ _ stands.1 in
    let above : ltb k.0 least ≡ false = le-ltb _ _ stands.0 in
    ap (line_at total instrs least) regrouped
    ∙ rw (
      number_again wide32 total k.0 (to_le_bytes w64 (mask_of k.1) ++ rest) (omega (arith, stands.1, few)),
      below,
      above,
      mask_again total k.1 rest know,
    ) refl

-- ---- know lines

pub stands_of : (instrs least : ℕ) (line : Line) (ks : List Line) → are_lines instrs least (line ∷ ks) ≡ true
    → Stands instrs least line × (are_lines instrs (line.0 + 1) ks ≡ true)
stands_of instrs least line ks h =
    let a = and_parts _ _ h in
    let b = and_parts _ _ a.0 in
    ((leb-true _ _ b.0, ltb-true _ _ b.1), a.1)

lines_from : (instrs least : ℕ) (line : Line) (ks : List Line) → Stands instrs least line → are_lines instrs (line.0 + 1) ks ≡ true
    → are_lines instrs least (line ∷ ks) ≡ true
lines_from instrs least line ks stands h = rw (le-leb _ _ stands.0, lt-ltb _ _ stands.1, h) refl

-- so there are at most as many as instructions
pub lines_few : (instrs least : ℕ) (ks : List Line) → are_lines instrs least ks ≡ true → length ks ≤ instrs - least
lines_few instrs least [] h = omega arith
lines_few instrs least (k ∷ ks) h =
    let s = stands_of instrs least k ks h in
    omega (arith, s.0.0, s.0.1, lines_few instrs (k.0 + 1) ks s.1)

abbrev pub Masks : List Line → Type 0
Masks ks = AllByRecursion HasMask ks

-- what is read ascends
pub lines_ascend : (total instrs n least : ℕ) (bytes : List ℕ) (x : List Line × List ℕ)
    → lines_at total instrs n least bytes ≡ Ok x
    → are_lines instrs least x.0 ≡ true
unfolding lines_at
lines_ascend total instrs zero least bytes x e =
    subst (λ (y : List Line × List ℕ). are_lines instrs least y.0 ≡ true) (ok_is ([], bytes) x e) refl
lines_ascend total instrs (suc n) least bytes x e =
    let a = bind_ok (line_at total instrs least bytes) (λ first. lines_at total instrs n (first.0 + 1) (drop 12 bytes) >>= λ others.
    Ok (first ∷ others.0, others.1)) x e in
    let b = bind_ok (lines_at total instrs n (a.0.0 + 1) (drop 12 bytes)) (λ others. Ok (a.0 ∷ others.0, others.1)) x a.2 in
    let others = lines_ascend total instrs n (a.0.0 + 1) (drop 12 bytes) b.0 b.1 in
    let made : List Line × List ℕ = (a.0 ∷ b.0.0, b.0.1) in
    subst (λ (y : List Line × List ℕ). are_lines instrs least y.0 ≡ true) (ok_is made x b.2)
    (lines_from instrs least a.0 b.0.0 (line_stands total instrs least bytes a.0 a.1) others)

pub lines_take : (total instrs n least : ℕ) (bytes : List ℕ) (x : List Line × List ℕ) → IsBytes bytes
    → lines_at total instrs n least bytes ≡ Ok x
    → Takes bytes (flat_map line x.0) x.1 × (length x.0 ≡ n) × Masks x.0
unfolding lines_at
lines_take total instrs zero least bytes x fits e =
    subst (λ (y : List Line × List ℕ). Takes bytes (flat_map line y.0) y.1 × (length y.0 ≡ 0)
    × Masks y.0) (ok_is ([], bytes) x e) (record { parts = refl; rest_fits = fits }, refl, tt)
lines_take total instrs (suc n) least bytes x fits e =
    let a = bind_ok (line_at total instrs least bytes) (λ first. lines_at total instrs n (first.0 + 1) (drop 12 bytes) >>= λ others.
    Ok (first ∷ others.0, others.1)) x e in
    let b = bind_ok (lines_at total instrs n (a.0.0 + 1) (drop 12 bytes)) (λ others. Ok (a.0 ∷ others.0, others.1)) x a.2 in
    let first = line_takes total instrs least bytes a.0 fits a.1 in
    let others = lines_take total instrs n (a.0.0 + 1) (drop 12 bytes) b.0 first.0.rest_fits b.1 in
    let both = Takes-then first.0 others.0 in
    let made : List Line × List ℕ = (a.0 ∷ b.0.0, b.0.1) in
    subst (λ (y : List Line × List ℕ). Takes bytes (flat_map line y.0) y.1 × (length y.0 ≡ suc n) × Masks y.0) (ok_is made x b.2)
    (rw flat_map-cons both, ap suc others.1, (record { know = first.1 }, others.2))

pub lines_again : (total instrs least : ℕ) (ks : List Line) (rest : List ℕ) → instrs < 2 ^ 32
    → are_lines instrs least ks ≡ true → Masks ks
    → lines_at total instrs (length ks) least (flat_map line ks ++ rest) ≡ Ok (ks, rest)
unfolding lines_at
lines_again total instrs least [] rest few h masks = refl
lines_again total instrs least (k ∷ ks) rest few h masks =
    let s = stands_of instrs least k ks h in
    let regrouped : flat_map line (k ∷ ks) ++ rest ≡ line k ++ (flat_map line ks ++ rest) =
    ap (λ (bytes : List ℕ). bytes ++ rest) (flat_map-cons line k ks) ∙ append_assoc (line k) (flat_map line ks) rest in
    let after : drop 12 (line k ++ (flat_map line ks ++ rest)) ≡ flat_map line ks ++ rest =
    drop_at (line k) (flat_map line ks ++ rest) 12 refl in
    ap (lines_at total instrs (suc (length ks)) least) regrouped
    ∙ rw (
      line_again total instrs least k (flat_map line ks ++ rest) few masks.0.know s.0,
      after,
      lines_again total instrs (k.0 + 1) ks rest few s.1 masks.1,
    ) refl
