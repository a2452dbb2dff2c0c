-- Between two heads there are fewer instructions than the image has.
use Rattle.std.proofs.Common.{◌≡◌, ℕ, ◌+◌, ◌-◌, ◌<◌, ◌≤◌, Bool, true, false, refl, sym, ap, subst, arith, length, Option, Some}
use Rattle.std.specs.Prelude.{nat_le, slice_get, if◌then◌else◌}
use Rattle.std.proofs.lemmas.Bool.Decides.{nat_tests}
use Rattle.bk_isa.specs.declared.form.Form.{Form}
use Rattle.bk_image.specs.Images.{Parts}
use Rattle.bk_know.specs.declared.sets.Sets.{Sets}
use Rattle.bk_flow.specs.Flow.{jump, target}
use Rattle.bk_check.specs.Obligations.{implies}
use Rattle.bk_check.specs.Accepted.{is_wait, is_some_sets, obligation_3, obligation_3_target}
use Rattle.bk_order.proofs.Tests.{implied}

-- none at a `wfq`; elsewhere those from the place on, since a place rises until a branch leads back to a `wfq`
abbrev pub round_left : Parts → ℕ → ℕ
round_left image p = if is_wait (slice_get image.instrs p) then 0 else length image.instrs - p

-- a `wfq` begins a round
abbrev pub begun : Parts → Option Form → ℕ
begun image f = if is_wait f then length image.instrs else 0

-- of two places and whether they are those of a `wfq`, in an image of n instructions
forward : (n p q : ℕ) (a b : Bool) → q < n → p < q
    → (if b then 0 else n - q) + 1 ≤ (if a then 0 else n - p) + (if a then n else 0)
forward n p q true true l e = omega (arith, l, e)
forward n p q true false l e = omega (arith, l, e)
forward n p q false true l e = omega (arith, l, e)
forward n p q false false l e = omega (arith, l, e)

back : (n p : ℕ) (a : Bool) → p < n → 0 + 1 ≤ (if a then 0 else n - p) + (if a then n else 0)
back n p true l = omega (arith, l)
back n p false l = omega (arith, l)

-- to the next place
pub falls-round : (image : Parts) (p : ℕ) → p + 1 < length image.instrs
    → round_left image (p + 1) + 1 ≤ round_left image p + begun image (slice_get image.instrs p)
falls-round image p l =
    forward (length image.instrs) p (p + 1) (is_wait (slice_get image.instrs p)) (is_wait (slice_get image.instrs (p + 1))) l (omega arith)

-- to the target of a branch: a later place, or a `wfq`
pub jumps-round : (image : Parts) (p to : ℕ) (f : Form) (sets r : Sets) → p < length image.instrs → to < length image.instrs
    → obligation_3 image p f sets ≡ true → target f ≡ Some to → jump f sets ≡ Some r
    → round_left image to + 1 ≤ round_left image p + begun image (slice_get image.instrs p)
jumps-round image p to f sets r l within o t j = go (nat_le to p) refl
  where
    third : implies (is_some_sets (jump f sets)) (implies (nat_le to p) (is_wait (slice_get image.instrs to))) ≡ true
    third = subst (λ (x : Option ℕ). obligation_3_target image p sets f x ≡ true) t o

    waits : implies (nat_le to p) (is_wait (slice_get image.instrs to)) ≡ true
    waits = implied (is_some_sets (jump f sets)) _ (ap is_some_sets j) third

    later : nat_le to p ≡ false → p < to
    later e = grind (arith, nat_tests)

    go : (b : Bool) → nat_le to p ≡ b → round_left image to + 1 ≤ round_left image p + begun image (slice_get image.instrs p)
    go true e =
        subst (λ (b : Bool). (if b then 0 else length image.instrs - to) + 1
        ≤ round_left image p + begun image (slice_get image.instrs p))
        (sym (implied (nat_le to p) (is_wait (slice_get image.instrs to)) e waits))
        (back (length image.instrs) p (is_wait (slice_get image.instrs p)) l)
    go false e =
        forward (length image.instrs) p to (is_wait (slice_get image.instrs p)) (is_wait (slice_get image.instrs to)) within (later e)
