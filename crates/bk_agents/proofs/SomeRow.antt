-- What it says of an event that it has a local row.
use Rattle.std.proofs.Common.{◌≡◌, Bool, true, false, cond, ◌&&◌, refl, Option, Some, None, option_map}
use Rattle.std.proofs.lemmas.Option.{same_Some}
use Rattle.bk_agents.specs.Local.{Local}

-- it is the local row of a value
pub of-some : {X : Type 0} (f : X → Local) (o : Option X) (local : Local) → option_map f o ≡ Some local
    → (x : X) × (o ≡ Some x) × (f x ≡ local)
of-some f None local e = absurd cc
of-some f (Some x) local e = (x, refl, same_Some (f x) local e)

-- or of a test that passes
pub of-test : (b : Bool) (x local : Local) → cond b (Some x) None ≡ Some local → (b ≡ true) × (x ≡ local)
of-test true x local e = (refl, same_Some x local e)
of-test false x local e = absurd cc

pub both : (a b : Bool) → (a && b) ≡ true → (a ≡ true) × (b ≡ true)
both true b e = (refl, e)
both false b e = absurd cc
