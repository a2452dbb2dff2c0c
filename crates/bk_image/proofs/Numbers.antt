-- A number that is read is the number that was written, and what was written is read again.
use Rattle.std.proofs.Common.{◌≡◌, ℕ, suc, ◌+◌, ◌-◌, ◌^◌, ◌<◌, ◌≤◌, Bool, true, false, ◌&&◌, cond, ltb, leb, List, [], ◌∷◌, ◌++◌, length, get_or, take, drop, Result, Ok, Err, refl, sym, ap, subst, ◌∙◌, append_assoc, arith, inl, inr}
use Rattle.std.specs.Int.{Width, w32, w64, byte_len, from_le_bytes, to_le_bytes}
use Rattle.std.proofs.lemmas.Bool.{and_parts, cases_lt, leb-true, le-leb, ltb-false, le-ltb}
use Rattle.std.proofs.lemmas.List.{take_at, drop_at, take-append-drop, length-append, length-take, get_or-drop, get_or-take, get_or_past}
use Rattle.std.proofs.lemmas.Nat.{le_bytes_4, le_bytes_8, from_le_bytes-to_le_bytes_4, from_le_bytes-to_le_bytes_8}
use Rattle.bk_image.specs.declared.fault.Kind.{Kind}
use Rattle.bk_image.specs.declared.fault.Kind.TheVariants.{Short}
use Rattle.bk_image.specs.Faults.{Bad, bad}
use Rattle.bk_image.specs.Reading.{◌>>=◌, number_at, byte_at}

abbrev pub IsBytes : List ℕ → Type 0
IsBytes bytes = (i : ℕ) → get_or bytes i 0 < 256

IsBytes-drop : (n : ℕ) (bytes : List ℕ) → IsBytes bytes → IsBytes (drop n bytes)
IsBytes-drop n bytes h i = rw get_or-drop (h (n + i))

IsBytes-take : (n : ℕ) (bytes : List ℕ) → IsBytes bytes → IsBytes (take n bytes)
IsBytes-take n bytes h i =
    elim (cases_lt i n) [
      | inl lt ↦ rw (get_or-take n bytes i 0 lt) (h i)
      | inr le ↦ rw (get_or_past (take n bytes) i 0 (omega (arith, length-take n bytes))) (omega arith)
    ]

-- the value of a step that did not fail
pub bind_ok : {A B : Type 0} (r : Result A Bad) (f : A → Result B Bad) (y : B) → (r >>= f) ≡ Ok y
    → (x : A) × (r ≡ Ok x) × (f x ≡ Ok y)
bind_ok (Ok x) f y e = (x, refl, e)
bind_ok (Err d) f y e = absurd cc

-- tests that did not fail
pub fails_not : {A : Type 0} (b : Bool) (d : Bad) (r : Result A Bad) (y : A) → cond b (Err d) r ≡ Ok y → (b ≡ false) × (r ≡ Ok y)
fails_not true d r y e = absurd cc
fails_not false d r y e = (refl, e)

pub holds : {A : Type 0} (b : Bool) (d : Bad) (r : Result A Bad) (y : A) → cond b r (Err d) ≡ Ok y → (b ≡ true) × (r ≡ Ok y)
holds true d r y e = (refl, e)
holds false d r y e = absurd cc

abbrev done : {A : Type 0} → A → Result A Bad
done x = Ok x

pub ok_is : {A : Type 0} (x y : A) → done x ≡ done y → x ≡ y
ok_is x y e = cc

-- what a reader took from the front
pub record Takes (bytes text rest : List ℕ) : Type 0 where
  pub parts : bytes ≡ text ++ rest
  pub rest_fits : IsBytes rest

pub Takes-then : {a x b y c : List ℕ} → Takes a x b → Takes b y c → Takes a (x ++ y) c
Takes-then {x = x} {y = y} {c = c} p q = record {
  parts = p.parts ∙ ap (λ (text : List ℕ). x ++ text) q.parts ∙ sym (append_assoc x y c);
  rest_fits = q.rest_fits;
}

-- ---- numbers

pub record IsWide (width : Width) (limit : ℕ) : Type 0 where
  pub len : (n : ℕ) → length (to_le_bytes width n) ≡ byte_len width
  pub back : (bytes : List ℕ) → length bytes ≡ byte_len width → IsBytes bytes
      → to_le_bytes width (from_le_bytes width bytes) ≡ bytes
  pub again : (n : ℕ) → n < limit → from_le_bytes width (to_le_bytes width n) ≡ n
  pub below : (bytes : List ℕ) → IsBytes bytes → from_le_bytes width bytes < limit

pub wide32 : IsWide w32 (2 ^ 32)
wide32 = record {
  len = λ n. refl;
  back = λ bytes len fits. le_bytes_4 bytes _ len fits refl;
  again = λ n lt. from_le_bytes-to_le_bytes_4 n lt;
  below = λ bytes fits. omega (arith, fits 0, fits 1, fits 2, fits 3);
}

pub wide64 : IsWide w64 (2 ^ 64)
wide64 = record {
  len = λ n. refl;
  back = λ bytes len fits. le_bytes_8 bytes _ len fits refl;
  again = λ n lt. from_le_bytes-to_le_bytes_8 n lt;
  below = λ bytes fits. omega (arith, fits 0, fits 1, fits 2, fits 3, fits 4, fits 5, fits 6, fits 7);
}

pub record TakesNumber (width : Width) (limit : ℕ) (bytes : List ℕ) (n : ℕ) (rest : List ℕ) : Type 0 where
  pub takes : Takes bytes (to_le_bytes width n) rest
  pub rest-is : drop (byte_len width) bytes ≡ rest
  pub small : n < limit

-- There are bytes enough, or the reader would have failed; the number of little-endian bytes has these bytes again.
pub number_takes : {w : Width} {limit : ℕ} (wide : IsWide w limit) (total : ℕ) (bytes : List ℕ) (x : ℕ × List ℕ)
    → IsBytes bytes
    → number_at w total bytes ≡ Ok x → TakesNumber w limit bytes x.0 x.1
number_takes {w = w} wide total bytes x fits e =
    let g = fails_not (ltb (length bytes) (byte_len w)) (bad total Short)
    (Ok (from_le_bytes w (take (byte_len w) bytes), drop (byte_len w) bytes)) x e in
    let long : byte_len w ≤ length bytes = ltb-false _ _ g.0 in
    let same = ok_is _ _ g.1 in
    let n-is : from_le_bytes w (take (byte_len w) bytes) ≡ x.0 = ap (λ (p : ℕ × List ℕ). p.0) same in
    let rest-is : drop (byte_len w) bytes ≡ x.1 = ap (λ (p : ℕ × List ℕ). p.1) same in
    let front : to_le_bytes w x.0
    ≡ take (byte_len w) bytes = rw (← n-is)
    (wide.back (take (byte_len w) bytes) (omega (arith, length-take (byte_len w) bytes)) (IsBytes-take (byte_len w) bytes fits)) in
    record {
      takes = record {
        parts = rw (front, ← rest-is) (sym (take-append-drop (byte_len w) bytes));
        rest_fits = rw (← rest-is) (IsBytes-drop (byte_len w) bytes fits);
      };
      rest-is = rest-is;
      small = rw (← n-is) (wide.below (take (byte_len w) bytes) (IsBytes-take (byte_len w) bytes fits));
    }

pub number_again : {w : Width} {limit : ℕ} (wide : IsWide w limit) (total n : ℕ) (rest : List ℕ) → n < limit
    → number_at w total (to_le_bytes w n ++ rest) ≡ Ok (n, rest)
number_again {w = w} wide total n rest lt =
    let len = wide.len n in
    let long : ltb (length (to_le_bytes w n ++ rest)) (byte_len w) ≡ false =
    le-ltb _ _ (omega (arith, length-append (to_le_bytes w n) rest)) in
    rw (long, take_at (to_le_bytes w n) rest (byte_len w) len, drop_at (to_le_bytes w n) rest (byte_len w) len, wide.again n lt) refl

-- ---- a byte in a range

IsBytes-rest : (b : ℕ) (bytes : List ℕ) → IsBytes (b ∷ bytes) → IsBytes bytes
IsBytes-rest b bytes h i = h (suc i)

-- a byte that was taken, and its range
pub record TakesByte (least greatest : ℕ) (bytes : List ℕ) (b : ℕ) (rest : List ℕ) : Type 0 where
  pub takes : Takes bytes (b ∷ []) rest
  pub some : least ≤ b
  pub few : b ≤ greatest

pub byte_takes : (least greatest : ℕ) (kind : Kind) (total : ℕ) (bytes : List ℕ) (x : ℕ × List ℕ) → IsBytes bytes
    → byte_at least greatest kind total bytes ≡ Ok x → TakesByte least greatest bytes x.0 x.1
byte_takes least greatest kind total [] x fits e = absurd cc
byte_takes least greatest kind total (b ∷ bytes) x fits e =
    let h = holds (leb least b && leb b greatest) (bad (total - length (b ∷ bytes)) kind) (Ok (b, bytes)) x e in
    let p = and_parts _ _ h.0 in
    let made : TakesByte least greatest (b ∷ bytes) b bytes = record {
      takes = record { parts = refl; rest_fits = IsBytes-rest b bytes fits };
      some = leb-true _ _ p.0;
      few = leb-true _ _ p.1;
    } in
    subst (λ (y : ℕ × List ℕ). TakesByte least greatest (b ∷ bytes) y.0 y.1) (ok_is _ _ h.1) made

-- the reserved byte 0
pub zero_takes : (kind : Kind) (total : ℕ) (bytes : List ℕ) (x : ℕ × List ℕ) → IsBytes bytes → byte_at 0 0 kind total bytes ≡ Ok x
    → Takes bytes (0 ∷ []) x.1
zero_takes kind total bytes x fits e =
    let t = byte_takes 0 0 kind total bytes x fits e in
    let none : x.0 ≡ 0 = omega arith in
    subst (λ (n : ℕ). Takes bytes (n ∷ []) x.1) none t.takes

pub byte_again : (least greatest : ℕ) (kind : Kind) (total b : ℕ) (rest : List ℕ) → least ≤ b → b ≤ greatest
    → byte_at least greatest kind total (b ∷ rest) ≡ Ok (b, rest)
byte_again least greatest kind total b rest some few = rw (le-leb _ _ some, le-leb _ _ few) refl
