-- The tests in front of a row: the machine asks for group, way and tag one after the other, the system for the way and the block.
use Rattle.std.proofs.Common.{◌≡◌, ℕ, Bool, true, false, cond, ◌&&◌, refl, sym, ap, ◌∙◌, subst, Some, None}
use Rattle.bk_lce.specs.CacheTable.{Transition}
use Rattle.bk_machine.specs.CacheSteps.{step_if}
use Rattle.bk_machine.specs.Steps.{MachineStep, step_after}
use Rattle.bk_machine.specs.World.{World}
use Rattle.bk_bridge.proofs.Agrees.{Agrees}

-- p: the group, q: the way, r: the rest of the machine's tests, b: the system's test
pub gated : (left : Transition → World) (world : World) (p q r b : Bool) (t : Transition) (a : MachineStep) (g : ℕ) → b ≡ (p && r)
    → (p ≡ true → r ≡ true → left t ≡ step_after g a world)
    → Agrees left world (cond q (cond b (Some t) None) None) (cond p (cond q (step_if r g a) None) None)
gated left world p q r b t a g e h =
    subst (λ (y : Bool). Agrees left world (cond q (cond y (Some t) None) None) (cond p (cond q (step_if r g a) None) None))
    (sym e) (go p q r h)
  where
    go : (p q r : Bool) → (p ≡ true → r ≡ true → left t ≡ step_after g a world)
        → Agrees left world (cond q (cond (p && r) (Some t) None) None) (cond p (cond q (step_if r g a) None) None)
    go true true true h = h refl refl
    go true true false h = tt
    go true false true h = tt
    go true false false h = tt
    go false true r h = tt
    go false false r h = tt

-- none in both, behind the same tests
pub gated-none : (left : Transition → World) (world : World) (p q : Bool)
    → Agrees left world (cond q None None) (cond p (cond q None None) None)
gated-none left world true true = tt
gated-none left world true false = tt
gated-none left world false true = tt
gated-none left world false false = tt

pub shut : (left : Transition → World) (world : World) (p : Bool) → Agrees left world None (cond p None None)
shut left world true = tt
shut left world false = tt

-- a last test that is the same once the others hold
pub and_last : (b p r h i : Bool) → b ≡ (p && r) → (p ≡ true → r ≡ true → h ≡ i) → (b && h) ≡ (p && (r && i))
and_last b p r h i e f = ap (λ (y : Bool). y && h) e ∙ go p r f
  where
    go : (p r : Bool) → (p ≡ true → r ≡ true → h ≡ i) → ((p && r) && h) ≡ (p && (r && i))
    go true true f = f refl refl
    go true false f = refl
    go false r f = refl
