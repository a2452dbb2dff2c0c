-- The three claims.
use Rattle.std.proofs.Common.{ℕ, Option}
use Rattle.bk_base.specs.Places.{Shape}
use Rattle.bk_system.specs.State.{State}
use Rattle.bk_machine.specs.Claims as machine
use Rattle.bk_machine.specs.Transactions.{Transaction}
use Rattle.bk_bridge.specs.Formed.{WellFormed}
use Rattle.bk_bridge.specs.Worlds.{world_of}
use Rattle.bk_bridge.proofs.Places.{sets_pos}
use Rattle.bk_coherent.specs.Coherent.{Coherent}
use Rattle.bk_coherent.proofs.Writers.{single}
use Rattle.bk_coherent.proofs.Values.{answers}
use Rattle.bk_coherent.proofs.Pending.{pending}

pub claims : (k : Shape) (later : State) (x : Option (ℕ × Transaction)) → WellFormed k later
    → machine.Sole (world_of k later x) → machine.Latest (world_of k later x) → machine.PendingAgrees (world_of k later x)
    → Coherent k later
claims k later x f s l p =
    record {
      single_writer = single k later x s;
      latest_value = answers k (sets_pos k f.profile) later x f.history l;
      pending = pending k later x p;
    }
