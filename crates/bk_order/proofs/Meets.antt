-- The obligations at an instruction, one by one.
use Rattle.std.proofs.Common.{◌≡◌, ℕ, Bool, true, false, refl, Option, None, arith}
use Rattle.bk_isa.specs.declared.form.Form.{Form}
use Rattle.bk_know.specs.declared.sets.Sets.{Sets}
use Rattle.bk_check.proofs.Least.{all_met}
use Rattle.bk_check.specs.Obligations.{or_later, unmet_here, obligations, obligation_5, obligation_6, obligation_7, obligation_8, obligation_9, obligation_10, obligation_11, obligation_12, obligation_13, obligation_14, obligation_15, obligation_16, obligation_17, obligation_18, obligation_19, obligation_20, obligation_21, obligation_22, obligation_23}

-- each obligation from the fifth on
pub record Met (f : Form) (sets : Sets) : Type 0 where
  pub o5 : obligation_5 f sets ≡ true
  pub o6 : obligation_6 f sets ≡ true
  pub o7 : obligation_7 f sets ≡ true
  pub o8 : obligation_8 f sets ≡ true
  pub o9 : obligation_9 f sets ≡ true
  pub o10 : obligation_10 f sets ≡ true
  pub o11 : obligation_11 f sets ≡ true
  pub o12 : obligation_12 f sets ≡ true
  pub o13 : obligation_13 f sets ≡ true
  pub o14 : obligation_14 f sets ≡ true
  pub o15 : obligation_15 f sets ≡ true
  pub o16 : obligation_16 f sets ≡ true
  pub o17 : obligation_17 f sets ≡ true
  pub o18 : obligation_18 f sets ≡ true
  pub o19 : obligation_19 f sets ≡ true
  pub o20 : obligation_20 f sets ≡ true
  pub o21 : obligation_21 f sets ≡ true
  pub o22 : obligation_22 f sets ≡ true
  pub o23 : obligation_23 f sets ≡ true

-- nothing is left unmet
pub met : (f : Form) (sets : Sets) → unmet_here f sets ≡ None → Met f sets
met f sets e =
    let holds = all_met 5 (obligations f sets) e in
    record {
      o5 = holds 0 (omega arith);
      o6 = holds 1 (omega arith);
      o7 = holds 2 (omega arith);
      o8 = holds 3 (omega arith);
      o9 = holds 4 (omega arith);
      o10 = holds 5 (omega arith);
      o11 = holds 6 (omega arith);
      o12 = holds 7 (omega arith);
      o13 = holds 8 (omega arith);
      o14 = holds 9 (omega arith);
      o15 = holds 10 (omega arith);
      o16 = holds 11 (omega arith);
      o17 = holds 12 (omega arith);
      o18 = holds 13 (omega arith);
      o19 = holds 14 (omega arith);
      o20 = holds 15 (omega arith);
      o21 = holds 16 (omega arith);
      o22 = holds 17 (omega arith);
      o23 = holds 18 (omega arith);
    }

-- the first test holds, and those behind it
pub first-met : (b : Bool) (number : ℕ) (r : Option ℕ) → or_later b number r ≡ None → (b ≡ true) × (r ≡ None)
first-met true number r e = (refl, e)
first-met false number r e = absurd (cc)

met-later : (b : Bool) (number : ℕ) (r : Option ℕ) → b ≡ true → r ≡ None → or_later b number r ≡ None
met-later true number r e q = q
met-later false number r e q = absurd (cc)

pub none_unmet : (f : Form) (sets : Sets) → Met f sets → unmet_here f sets ≡ None
none_unmet f sets m = search (met-later, m) depth 24
