-- A row of the caches' table beside a step of the machine: there are both, and they leave the same, or there is neither.
use Rattle.std.proofs.Common.{◌≡◌, ℕ, Bool, true, false, cond, refl, Option, Some, None, is_some}
use Rattle.bk_base.specs.Places.{Shape, group_of, tag_at}
use Rattle.bk_lce.specs.CacheTable.{Transition}
use Rattle.bk_lce.specs.CacheState.{found}
use Rattle.bk_system.specs.State.{State}
use Rattle.bk_system.specs.Events.{with_taken, cache_row}
use Rattle.bk_system.specs.Runs.{state_after_row}
use Rattle.bk_machine.specs.Directory.{found_way}
use Rattle.bk_machine.specs.Steps.{MachineStep, step_after}
use Rattle.bk_machine.specs.Transactions.{Transaction}
use Rattle.bk_machine.specs.Runs.{option_step_after}
use Rattle.bk_machine.specs.World.{World}
use Rattle.bk_bridge.specs.Worlds.{world_of}

abbrev pub Agrees : (Transition → World) → World → Option Transition → Option (ℕ × MachineStep) → Type 0
Agrees left world None None = Unit {0}
Agrees left world None (Some a) = ⊥
Agrees left world (Some t) None = ⊥
Agrees left world (Some t) (Some a) = left t ≡ step_after a.0 a.1 world

-- behind one test of both
pub behind : (left : Transition → World) (world : World) (b : Bool) (t : Option Transition) (a : Option (ℕ × MachineStep))
    → Agrees left world t a
    → Agrees left world (cond b t None) (cond b a None)
behind left world true t a h = h
behind left world false t a h = tt

-- none in both
pub neither : (left : Transition → World) (world : World) (b : Bool) → Agrees left world (cond b None None) None
neither left world true = tt
neither left world false = tt

-- what a row leaves, of the popped state s
abbrev pub left_of : Shape → Option (ℕ × Transaction) → State → ℕ → Transition → World
left_of k x s c t = world_of k (with_taken s c t).state x

pub record IsSame (k : Shape) (x : Option (ℕ × Transaction)) (s later : State) (c : ℕ) (t : Option Transition)
    (a : Option (ℕ × MachineStep)) : Type 0 where
  pub enabled : is_some (cache_row later c t) ≡ is_some a
  pub left : world_of k (state_after_row s (cache_row later c t)) x ≡ option_step_after (world_of k s x) a

pub same : (k : Shape) (x : Option (ℕ × Transaction)) (s later : State) (c : ℕ) (t : Option Transition)
    (a : Option (ℕ × MachineStep))
    → Agrees (left_of k x later c) (world_of k s x) t a → IsSame k x s later c t a
same k x s later c None None h = record { enabled = refl; left = refl }
same k x s later c None (Some a) h = absurd h
same k x s later c (Some t) None h = absurd h
same k x s later c (Some t) (Some a) h = record { enabled = refl; left = h }

-- the least way that is found
pub found-find : (k : Shape) (s : State) (x : Option (ℕ × Transaction)) (c addr : ℕ)
    → found k (s.caches c) addr ≡ found_way k.ways ((world_of k s x).entries (group_of k addr) c) (tag_at k addr)
found-find k s x c addr = refl
