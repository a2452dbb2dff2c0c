-- The words of instructions: what is read is spelled so, and what is spelled so is read.
use Rattle.std.proofs.Common.{◌≡◌, ℕ, zero, suc, ◌-◌, ◌^◌, ◌<◌, List, [], ◌∷◌, ◌++◌, length, drop, Option, Some, None, Result, Ok, Err, refl, sym, ap, subst, ◌∙◌, append_assoc, arith}
use Rattle.std.specs.List.{flat_map, AllByRecursion}
use Rattle.std.specs.Int.{w64, to_le_bytes}
use Rattle.std.proofs.lemmas.List.{drop_at}
use Rattle.std.proofs.lemmas.List.Concat.{flat_map-cons}
use Rattle.bk_isa.specs.declared.form.Form.{Form}
use Rattle.bk_isa.specs.declared.fault.WordFault.{WordFault}
use Rattle.bk_isa.specs.declared.fields.Fields.{Fields}
use Rattle.bk_isa.specs.Fields.{form_of, unpack, AreWide}
use Rattle.bk_isa.specs.Table.{fault_in}
use Rattle.bk_isa.specs.Words.{IsInRange, encode, decode, unless}
use Rattle.bk_isa.proofs.Forms.{form_in_range}
use Rattle.bk_isa.proofs.Words as isa
use Rattle.bk_image.specs.Reading.{◌>>=◌, with_place, number_at, word_at, words_at}
use Rattle.bk_image.specs.Spelling.{word}
use Rattle.bk_image.proofs.Numbers.{IsBytes, bind_ok, ok_is, Takes, Takes-then, wide64, number_takes, number_again}

-- ---- a word

with_place_ok : (place : ℕ) (r : Result Form WordFault) (f : Form) → with_place place r ≡ Ok f → r ≡ Ok f
with_place_ok place (Ok g) f e = let same : g ≡ f = ok_is g f e in rw same refl
with_place_ok place (Err d) f e = absurd cc

ok_form : (f y : Form) → unless None f ≡ unless None y → f ≡ y
ok_form f y e = cc

-- the instruction of a word of 64 bits is in range
range_at : (p : Fields) (o : Option WordFault) (f : Form) → AreWide p → fault_in p ≡ o → unless o (form_of p) ≡ Ok f
    → IsInRange f
range_at p None f wide e r = subst (λ (other : Form). IsInRange other) (ok_form (form_of p) f r) (form_in_range p wide e)
range_at p (Some d) f wide e r = absurd cc

decoded_in_range : (w : ℕ) (f : Form) → w < 2 ^ 64 → decode w ≡ Ok f → IsInRange f
decoded_in_range w f lt e =
    range_at (unpack w) (fault_in (unpack w)) f (record {
      op = omega (arith, lt);
      a = omega arith;
      b = omega arith;
      c = omega arith;
      imm = omega arith;
    }) refl e

word_takes : (total : ℕ) (bytes : List ℕ) (f : Form) → IsBytes bytes → word_at total bytes ≡ Ok f
    → Takes bytes (word f) (drop 8 bytes) × IsInRange f
unfolding word_at
word_takes total bytes f fits e =
    let b = bind_ok (number_at w64 total bytes) (λ w. with_place (total - length bytes) (decode w.0)) f e in
    let t = number_takes wide64 total bytes b.0 fits b.1 in
    let decoded : decode b.0.0 ≡ Ok f = with_place_ok (total - length bytes) (decode b.0.0) f b.2 in
    let same : encode f ≡ b.0.0 = isa.found b.0.0 (Ok f) (sym decoded) in
    let taken : Takes bytes (to_le_bytes w64 b.0.0) (drop 8 bytes) =
    subst (λ (rest : List ℕ). Takes bytes (to_le_bytes w64 b.0.0) rest) (sym t.rest-is) t.takes in
    (subst (λ (n : ℕ). Takes bytes (to_le_bytes w64 n) (drop 8 bytes)) (sym same) taken, decoded_in_range b.0.0 f t.small decoded)

encode_small : (f : Form) → IsInRange f → encode f < 2 ^ 64
encode_small f h = omega (arith, h.wide.op, h.wide.a, h.wide.b, h.wide.c, h.wide.imm)

word_again : (total : ℕ) (f : Form) (rest : List ℕ) → IsInRange f → word_at total (word f ++ rest) ≡ Ok f
unfolding word_at
word_again total f rest h =
    rw (number_again wide64 total (encode f) rest (encode_small f h), isa.decode-encode f h) refl

-- ---- words

pub words_take : (total n : ℕ) (bytes : List ℕ) (x : List Form × List ℕ) → IsBytes bytes → words_at total n bytes ≡ Ok x
    → Takes bytes (flat_map word x.0) x.1 × (length x.0 ≡ n) × AllByRecursion IsInRange x.0
unfolding words_at
words_take total zero bytes x fits e =
    subst (λ (y : List Form × List ℕ). Takes bytes (flat_map word y.0) y.1 × (length y.0 ≡ 0)
    × AllByRecursion IsInRange y.0) (ok_is ([], bytes) x e) (record { parts = refl; rest_fits = fits }, refl, tt)
words_take total (suc n) bytes x fits e =
    let a = bind_ok (word_at total bytes) (λ first. words_at total n (drop 8 bytes) >>= λ others. Ok (
      first ∷ others.0,
      others.1,
    )) x e in
    let b = bind_ok (words_at total n (drop 8 bytes)) (λ others. Ok (a.0 ∷ others.0, others.1)) x a.2 in
    let first = word_takes total bytes a.0 fits a.1 in
    let others = words_take total n (drop 8 bytes) b.0 first.0.rest_fits b.1 in
    let both = Takes-then first.0 others.0 in
    let made : List Form × List ℕ = (a.0 ∷ b.0.0, b.0.1) in
    subst (λ (y : List Form × List ℕ). Takes bytes (flat_map word y.0) y.1 × (length y.0 ≡ suc n)
    × AllByRecursion IsInRange y.0) (ok_is made x b.2) (rw flat_map-cons both, ap suc others.1, (first.1, others.2))

pub words_again : (total : ℕ) (fs : List Form) (rest : List ℕ) → AllByRecursion IsInRange fs
    → words_at total (length fs) (flat_map word fs ++ rest) ≡ Ok (fs, rest)
unfolding words_at
words_again total [] rest h = refl
words_again total (f ∷ fs) rest h =
    let regrouped : flat_map word (f ∷ fs) ++ rest ≡ word f ++ (flat_map word fs ++ rest) =
    ap (λ (bytes : List ℕ). bytes ++ rest) (flat_map-cons word f fs) ∙ append_assoc (word f) (flat_map word fs) rest in
    let after : drop 8 (word f ++ (flat_map word fs ++ rest)) ≡ flat_map word fs ++ rest =
    drop_at (word f) (flat_map word fs ++ rest) 8 refl in
    ap (words_at total (suc (length fs))) regrouped ∙ rw (
      word_again total f (flat_map word fs ++ rest) h.0,
      after,
      words_again total fs rest h.1,
    ) refl
