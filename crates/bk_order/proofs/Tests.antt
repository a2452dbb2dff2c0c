-- A test follows from another, part by part.
use Rattle.std.proofs.Common.{◌≡◌, Bool, true, cond, ◌&&◌, ◌||◌, arith}
use Rattle.bk_check.specs.Obligations.{implies}

pub both : {x y p q : Bool} → (x ≡ true → p ≡ true) → (y ≡ true → q ≡ true) → (x && y) ≡ true → (p && q) ≡ true
both {x} {y} {p} {q} f g e = grind arith

pub either : {x y p q : Bool} → (x ≡ true → p ≡ true) → (y ≡ true → q ≡ true) → (x || y) ≡ true → (p || q) ≡ true
either {x} {y} {p} {q} f g e = grind arith

pub where_holds : {x y p q : Bool} → (p ≡ true → x ≡ true) → (y ≡ true → q ≡ true) → implies x y ≡ true
    → implies p q ≡ true
where_holds {x} {y} {p} {q} f g e = grind arith

pub by_cases : {x y p q : Bool} (b : Bool) → (x ≡ true → p ≡ true) → (y ≡ true → q ≡ true) → cond b x y ≡ true
    → cond b p q ≡ true
by_cases {x} {y} {p} {q} b f g e = grind arith

-- what a test that holds implies
pub implied : (b y : Bool) → b ≡ true → implies b y ≡ true → y ≡ true
implied b y i e = grind arith
