-- What an `if` gives by its test.
use Rattle.std.proofs.Common.{◌≡◌, Bool, true, false, if◌then◌else◌, Ok, Err, refl, ◌∙◌}
use Rattle.std.specs.Prelude.{Result, OnErr, OnOk}
use Rattle.std.specs.Result.{is_err}

module _ {A : Type 0} where
  pub if-true : (test : Bool) (x y : A) → test ≡ true → (if test then x else y) ≡ x
  if-true true x y holds = refl
  if-true false x y holds = absurd (cc (holds))

  pub if-false : (test : Bool) (x y : A) → test ≡ false → (if test then x else y) ≡ y
  if-false true x y fails = absurd (cc (fails))
  if-false false x y fails = refl

  -- to show that something is what the `if` gives, each of its two is to be shown in its case alone
  pub is-if : (test : Bool) (x y z : A) → (test ≡ true → z ≡ x) → (test ≡ false → z ≡ y) → z ≡ (if test then x else y)
  is-if true x y z holds fails = holds refl
  is-if false x y z holds fails = fails refl

  -- of two changes at one place the later one counts
  pub if-twice : (test : Bool) (late early before between after : A) → after ≡ (if test then late else between)
      → between ≡ (if test then early else before) → after ≡ (if test then late else before)
  if-twice true late early before between after second first = second
  if-twice false late early before between after second first = second ∙ first

-- what a `Result` promises for its case
module _ {A E : Type 0} where
  pub on-err : (r : Result A E) (P : Type 0) → is_err r ≡ true → OnErr r P → P
  on-err (Ok x) P failed promised = absurd (cc (failed))
  on-err (Err e) P failed promised = promised

  pub on-ok : (r : Result A E) (P : Type 0) → is_err r ≡ false → OnOk r P → P
  on-ok (Ok x) P done promised = promised
  on-ok (Err e) P done promised = absurd (cc (done))
