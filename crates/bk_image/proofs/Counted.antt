-- A header that is read is the one that was written, and what was written is read again.
use Rattle.std.proofs.Common.{◌≡◌, ℕ, zero, suc, ◌-◌, ◌<◌, ◌≤◌, ◌^◌, false, cond, ltb, eqb, List, [], ◌∷◌, ◌++◌, length, Result, Ok, Err, refl, ap, subst, ◌∙◌, append_assoc, arith, inl, inr}
use Rattle.std.specs.Prelude.{codes}
use Rattle.std.specs.Int.{w32, to_le_bytes}
use Rattle.std.proofs.lemmas.Bool.{cases_lt, eqb-true, ltb-false, le-ltb, ne_eqb}
use Rattle.bk_image.specs.declared.fault.Kind.TheVariants.{Magic, Version, ReservedByte, Count, TooMany, Limit}
use Rattle.bk_image.specs.declared.header.Heading.{Heading}
use Rattle.bk_image.specs.Faults.{Bad, bad}
use Rattle.bk_image.specs.Reading.{◌>>=◌, number_at, byte_at, magic_number, limit_at, count_at, know_count_at, heading_at, header_at}
use Rattle.bk_image.specs.Images.{IsFormat}
use Rattle.bk_image.specs.Spelling.{limit_byte, header}
use Rattle.bk_image.proofs.Numbers.{IsBytes, bind_ok, fails_not, holds, ok_is, Takes, Takes-then, wide32, number_takes, number_again, byte_takes, zero_takes, byte_again}

abbrev Read : Type 0
Read = Result (Heading × List ℕ) Bad

-- a count of instructions
abbrev pub IsCount : ℕ → Type 0
IsCount n = (1 ≤ n) × (n ≤ 256)

is_count : (n : ℕ) → eqb n 0 ≡ false → ltb 256 n ≡ false → IsCount n
is_count zero not_none not_more = absurd cc
is_count (suc n) not_none not_more = (omega arith, ltb-false _ _ not_more)

count_takes : (total : ℕ) (bytes : List ℕ) (x : ℕ × List ℕ) → IsBytes bytes → count_at total bytes ≡ Ok x
    → Takes bytes (to_le_bytes w32 x.0) x.1 × IsCount x.0
unfolding count_at
count_takes total bytes x fits e =
    let b = bind_ok (number_at w32 total bytes)
    (λ count. cond (eqb count.0 0) (Err (bad (total - length bytes) Count))
    (cond (ltb 256 count.0) (Err (bad (total - length bytes) TooMany)) (Ok count))) x e in
    let g = fails_not (eqb b.0.0 0) (bad (total - length bytes) Count)
    (cond (ltb 256 b.0.0) (Err (bad (total - length bytes) TooMany)) (Ok b.0)) x b.2 in
    let h = fails_not (ltb 256 b.0.0) (bad (total - length bytes) TooMany) (Ok b.0) x g.1 in
    let t = number_takes wide32 total bytes b.0 fits b.1 in
    subst (λ (y : ℕ × List ℕ). Takes bytes (to_le_bytes w32 y.0) y.1 × IsCount y.0) (ok_is b.0 x h.1) (
      t.takes,
      is_count b.0.0 g.0 h.0,
    )

know_count_takes : (instrs total : ℕ) (bytes : List ℕ) (x : ℕ × List ℕ) → IsBytes bytes
    → know_count_at instrs total bytes ≡ Ok x
    → Takes bytes (to_le_bytes w32 x.0) x.1
unfolding know_count_at
know_count_takes instrs total bytes x fits e =
    let b = bind_ok (number_at w32 total bytes)
    (λ knows. cond (ltb instrs knows.0) (Err (bad (total - length bytes) Count)) (Ok knows)) x e in
    let g = fails_not (ltb instrs b.0.0) (bad (total - length bytes) Count) (Ok b.0) x b.2 in
    let t = number_takes wide32 total bytes b.0 fits b.1 in
    subst (λ (y : ℕ × List ℕ). Takes bytes (to_le_bytes w32 y.0) y.1) (ok_is b.0 x g.1) t.takes

-- a limit that was read, and the byte of it
record TakesLimit (version : ℕ) (bytes : List ℕ) (limit : ℕ) (rest : List ℕ) : Type 0 where
  takes : Takes bytes (limit_byte version limit ∷ []) rest
  format : IsFormat version limit

first_limit : (total : ℕ) (bytes : List ℕ) (x : ℕ × List ℕ) → IsBytes bytes → limit_at 1 total bytes ≡ Ok x
    → TakesLimit 1 bytes x.0 x.1
unfolding limit_at
first_limit total bytes x fits e =
    let b = bind_ok (byte_at 0 0 ReservedByte total bytes) (λ reserved. Ok (8, reserved.1)) x e in
    let made : TakesLimit 1 bytes 8 b.0.1 =
    record { takes = zero_takes ReservedByte total bytes b.0 fits b.1; format = inl (refl, refl) } in
    subst (λ (y : ℕ × List ℕ). TakesLimit 1 bytes y.0 y.1) (ok_is (8, b.0.1) x b.2) made

second_limit : (total : ℕ) (bytes : List ℕ) (x : ℕ × List ℕ) → IsBytes bytes → limit_at 2 total bytes ≡ Ok x
    → TakesLimit 2 bytes x.0 x.1
unfolding limit_at
second_limit total bytes x fits e =
    let t = byte_takes 1 16 Limit total bytes x fits e in
    record { takes = t.takes; format = inr (refl, t.some, t.few) }

limit_takes : (version total : ℕ) (bytes : List ℕ) (x : ℕ × List ℕ) → 1 ≤ version → version ≤ 2 → IsBytes bytes
    → limit_at version total bytes ≡ Ok x → TakesLimit version bytes x.0 x.1
limit_takes version total bytes x some few fits =
    let Read : ℕ → Type 0 = λ v. limit_at v total bytes ≡ Ok x → TakesLimit v bytes x.0 x.1 in
    elim (cases_lt version 2) [
      | inl lt ↦ let one : 1 ≡ version = omega arith in subst Read one (first_limit total bytes x fits)
      | inr le ↦ let two : 2 ≡ version = omega arith in subst Read two (second_limit total bytes x fits)
    ]

-- what follows each of the fields that `heading_at` reads
abbrev after_count : ℕ → ℕ → ℕ → ℕ × List ℕ → Read
after_count version limit total instrs =
    know_count_at instrs.0 total instrs.1 >>= λ knows.
    Ok (record { version = version; limit = limit; instrs = instrs.0; knows = knows.0 }, knows.1)

abbrev after_second : ℕ → ℕ → ℕ → ℕ × List ℕ → Read
after_second version limit total second = count_at total second.1 >>= after_count version limit total

abbrev after_first : ℕ → ℕ → ℕ → ℕ × List ℕ → Read
after_first version limit total first = byte_at 0 0 ReservedByte total first.1 >>= after_second version limit total

abbrev after_limit : ℕ → ℕ → ℕ × List ℕ → Read
after_limit version total limit = byte_at 0 0 ReservedByte total limit.1 >>= after_first version limit.0 total

abbrev after_version : ℕ → ℕ × List ℕ → Read
after_version total version = limit_at version.0 total version.1 >>= after_limit version.0 total

abbrev heading : Heading → List ℕ
heading h = (h.version ∷ limit_byte h.version h.limit ∷ 0 ∷ 0 ∷ []) ++ to_le_bytes w32 h.instrs ++ to_le_bytes w32 h.knows

-- a heading that was read
record TakesHeading (bytes : List ℕ) (h : Heading) (rest : List ℕ) : Type 0 where
  takes : Takes bytes (heading h) rest
  format : IsFormat h.version h.limit
  count : IsCount h.instrs

heading_takes : (total : ℕ) (bytes : List ℕ) (x : Heading × List ℕ) → IsBytes bytes → heading_at total bytes ≡ Ok x
    → TakesHeading bytes x.0 x.1
unfolding heading_at
heading_takes total bytes x fits e =
    let v = bind_ok (byte_at 1 2 Version total bytes) (after_version total) x e in
    let l = bind_ok (limit_at v.0.0 total v.0.1) (after_limit v.0.0 total) x v.2 in
    let a = bind_ok (byte_at 0 0 ReservedByte total l.0.1) (after_first v.0.0 l.0.0 total) x l.2 in
    let b = bind_ok (byte_at 0 0 ReservedByte total a.0.1) (after_second v.0.0 l.0.0 total) x a.2 in
    let n = bind_ok (count_at total b.0.1) (after_count v.0.0 l.0.0 total) x b.2 in
    let made_of : ℕ × List ℕ → Heading × List ℕ =
    λ knows. (record { version = v.0.0; limit = l.0.0; instrs = n.0.0; knows = knows.0 }, knows.1) in
    let k = bind_ok (know_count_at n.0.0 total n.0.1) (λ knows. Ok (made_of knows)) x n.2 in
    let version = byte_takes 1 2 Version total bytes v.0 fits v.1 in
    let limit = limit_takes v.0.0 total v.0.1 l.0 version.some version.few version.takes.rest_fits l.1 in
    let first = zero_takes ReservedByte total l.0.1 a.0 limit.takes.rest_fits a.1 in
    let second = zero_takes ReservedByte total a.0.1 b.0 first.rest_fits b.1 in
    let instrs = count_takes total b.0.1 n.0 second.rest_fits n.1 in
    let knows = know_count_takes n.0.0 total n.0.1 k.0 instrs.0.rest_fits k.1 in
    let made = made_of k.0 in
    let all : Takes bytes (heading made.0) made.1 =
    Takes-then version.takes (Takes-then limit.takes (Takes-then first (Takes-then second (Takes-then instrs.0 knows)))) in
    subst (λ (y : Heading × List ℕ). TakesHeading bytes y.0 y.1) (ok_is made x k.2)
    (record { takes = all; format = limit.format; count = instrs.1 })

-- a header that was read
pub record TakesHeader (bytes : List ℕ) (h : Heading) (rest : List ℕ) : Type 0 where
  pub takes : Takes bytes (header h) rest
  pub format : IsFormat h.version h.limit
  pub count : IsCount h.instrs

pub header_takes : (total : ℕ) (bytes : List ℕ) (x : Heading × List ℕ) → IsBytes bytes → header_at total bytes ≡ Ok x
    → TakesHeader bytes x.0 x.1
unfolding header_at
header_takes total bytes x fits e =
    let m = bind_ok (number_at w32 total bytes)
    (λ magic. cond (eqb magic.0 magic_number) (heading_at total magic.1) (Err (bad (total - length bytes) Magic))) x e in
    let h = holds (eqb m.0.0 magic_number) (bad (total - length bytes) Magic) (heading_at total m.0.1) x m.2 in
    let t = number_takes wide32 total bytes m.0 fits m.1 in
    let magic : Takes bytes (codes "BKUC") m.0.1 =
    subst (λ (n : ℕ). Takes bytes (to_le_bytes w32 n) m.0.1) (eqb-true m.0.0 magic_number h.0) t.takes in
    let rest = heading_takes total m.0.1 x t.takes.rest_fits h.1 in
    record { takes = Takes-then magic rest.takes; format = rest.format; count = rest.count }

-- ---- what was written is read again

count_again : (total n : ℕ) (rest : List ℕ) → 1 ≤ n → n ≤ 256 → count_at total (to_le_bytes w32 n ++ rest) ≡ Ok (n, rest)
unfolding count_at
count_again total n rest some few =
    let not_none : eqb n 0 ≡ false = ne_eqb n 0 (λ e. absurd (omega (arith, e, some))) in
    let not_more : ltb 256 n ≡ false = le-ltb _ _ few in
    rw (number_again wide32 total n rest (omega (arith, few)), not_none, not_more) refl

know_count_again : (instrs total n : ℕ) (rest : List ℕ) → n ≤ instrs → n < 2 ^ 32
    → know_count_at instrs total (to_le_bytes w32 n ++ rest) ≡ Ok (n, rest)
unfolding know_count_at
know_count_again instrs total n rest few small =
    let not_more : ltb instrs n ≡ false = le-ltb _ _ few in
    rw (number_again wide32 total n rest small, not_more) refl

limit_again : (version limit total : ℕ) (rest : List ℕ) → IsFormat version limit
    → limit_at version total (limit_byte version limit ∷ rest) ≡ Ok (limit, rest)
unfolding limit_at
limit_again version limit total rest format =
    elim format [
      | inl first ↦ rw (first.0, first.1) refl
      | inr second ↦ rw second.0 (byte_again 1 16 Limit total limit rest second.1 second.2)
    ]

version_range : (version limit : ℕ) → IsFormat version limit → (1 ≤ version) × (version ≤ 2)
version_range version limit format =
    elim format [
      | inl first ↦ (omega (arith, first.0), omega (arith, first.0))
      | inr second ↦
          (omega (arith, second.0), omega (arith, second.0))
    ]

-- what a header says
pub record IsHeading (h : Heading) : Type 0 where
  pub format : IsFormat h.version h.limit
  pub count : IsCount h.instrs
  pub knows : h.knows ≤ h.instrs

heading_again : (total : ℕ) (h : Heading) (rest : List ℕ) → IsHeading h
    → heading_at total (h.version ∷ limit_byte h.version h.limit ∷ 0 ∷ 0
    ∷ (to_le_bytes w32 h.instrs ++ (to_le_bytes w32 h.knows ++ rest)))
    ≡ Ok (h, rest)
unfolding heading_at
heading_again total h rest is =
    let counts = to_le_bytes w32 h.instrs ++ (to_le_bytes w32 h.knows ++ rest) in
    let version = version_range h.version h.limit is.format in
    rw (
      byte_again 1 2 Version total h.version (limit_byte h.version h.limit ∷ 0 ∷ 0 ∷ counts) version.0 version.1,
      limit_again h.version h.limit total (0 ∷ 0 ∷ counts) is.format,
      count_again total h.instrs (to_le_bytes w32 h.knows ++ rest) is.count.0 is.count.1,
      know_count_again h.instrs total h.knows rest is.knows (omega (arith, is.knows, is.count.1)),
    ) refl

pub header_again : (total : ℕ) (h : Heading) (rest : List ℕ) → IsHeading h → header_at total (header h ++ rest) ≡ Ok (h, rest)
unfolding header_at
header_again total h rest is =
    let after = h.version ∷ limit_byte h.version h.limit ∷ 0 ∷ 0
    ∷ (to_le_bytes w32 h.instrs ++ (to_le_bytes w32 h.knows ++ rest)) in
    let regrouped : header h ++ rest ≡ to_le_bytes w32 magic_number
    ++ after = ap (λ (text : List ℕ). codes "BKUC" ++ (h.version ∷ limit_byte h.version h.limit ∷ 0 ∷ 0 ∷ text))
    (append_assoc (to_le_bytes w32 h.instrs) (to_le_bytes w32 h.knows) rest) in
    ap (header_at total) regrouped ∙ rw (number_again wide32 total magic_number after (omega arith), heading_again total h rest is) refl
