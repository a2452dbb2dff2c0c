-- An action of one group leaves what is known of every other group alone.
use Rattle.std.proofs.Common.{◌≡◌, ℕ, ◌≢◌, Bool, true, false, refl, arith, sym, subst, ◌==◌}
use Rattle.std.proofs.lemmas.Bool.Decides.{nat_tests}
use Rattle.bk_machine.specs.Phases.{Phase}
use Rattle.bk_machine.specs.World.{GroupState, World, view}
use Rattle.bk_machine.specs.Invariant.{Good, EveryGroup}
use Rattle.bk_machine.proofs.Writes.{Seen}
use Rattle.bk_machine.proofs.Wraps.{Fine}

fine-seen : (u : ℕ) (world : World) (part : GroupState) → Seen u world part → Fine part → Fine (view u world)
fine-seen u world part e f = (f.0, subst (λ (second : GroupState). Good f.0 second) (sym e.is) f.1)

pub step : (g : ℕ) (world later : World) (part : GroupState) → EveryGroup world
    → ((p : Phase) → Good p (view g world) → Fine part)
    → Seen g later part → ((u : ℕ) → u ≢ g → Seen u later (view u world))
    → EveryGroup later
step g world later part all f here other u = decide (u == g) refl
  where
    is : (u == g) ≡ true → g ≡ u
    is e = grind (arith, nat_tests)

    differs : (u == g) ≡ false → u ≢ g
    differs e = grind (arith, nat_tests)

    decide : (b : Bool) → (u == g) ≡ b → Fine (view u later)
    decide true e = subst (λ (i : ℕ). Fine (view i later)) (is e) (fine-seen g later part here (f (all g).0 (all g).1))
    decide false e = fine-seen u later (view u world) (other u (differs e)) (all u)
