-- What a tied state shows.
use Rattle.bk_base.specs.Places.{Shape}
use Rattle.bk_system.specs.State.{State}
use Rattle.bk_machine.proofs.Foreign.{no_foreign}
use Rattle.bk_machine.proofs.Law.{sole, latest_stores, pending_agrees}
use Rattle.bk_exact.specs.Told.{Told}
use Rattle.bk_exact.specs.Ties.{Tied, told_world}
use Rattle.bk_coherent.specs.Coherent.{Coherent}
use Rattle.bk_coherent.specs.Traffic.{NoneForeign}
use Rattle.bk_coherent.proofs.Claims.{claims}
use Rattle.bk_coherent.proofs.Traffic.{none-foreign}

pub coherent : (k : Shape) (s : State) (told : Told) → Tied k s told → Coherent k s
coherent k s told t =
    let groups = t.invariant.groups in
    claims k s told.transaction t.formed (sole (told_world k s told) groups) (latest_stores (told_world k s told) groups)
    (pending_agrees (told_world k s told) groups)

pub takes : (k : Shape) (s : State) (told : Told) → Tied k s told → NoneForeign k s
takes k s told t = none-foreign k s told.transaction t.formed (no_foreign k (told_world k s told) t.invariant.groups t.invariant.ranges)
