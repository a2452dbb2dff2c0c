-- No command or fill is foreign, from the machine's.
use Rattle.std.proofs.Common.{◌≡◌, ℕ, true, false, refl, ap, ◌∙◌, List, [], ◌∷◌, Option, Some, None}
use Rattle.std.specs.Prelude.{is_some}
use Rattle.std.specs.List.{filter_map, cons_option}
use Rattle.bk_base.specs.Counting.{is_nil}
use Rattle.bk_base.specs.Places.{Shape}
use Rattle.bk_msg.specs.declared.row.Row.{Row}
use Rattle.bk_msg.specs.declared.row.Network.{Network}
use Rattle.bk_msg.specs.declared.row.Network.TheVariants as networks
use Rattle.bk_msg.specs.Networks.{network_of}
use Rattle.bk_lce.specs.CacheTable.{Transition}
use Rattle.bk_system.specs.declared.event.Event.TheVariants as events
use Rattle.bk_system.specs.State.{State}
use Rattle.bk_system.specs.Events.{cache_row, command_taken, fill_taken, without_command, without_fill}
use Rattle.bk_machine.specs.Claims.{NoForeign}
use Rattle.bk_machine.specs.Products.{as_command, as_fill}
use Rattle.bk_machine.specs.Runs as machine
use Rattle.bk_machine.specs.Transactions.{Transaction}
use Rattle.bk_machine.proofs.Spoken.{spoken}
use Rattle.bk_bridge.specs.Formed.{AreOf, WellFormed}
use Rattle.bk_bridge.specs.Worlds.{world_of}
use Rattle.bk_bridge.proofs.Steps.{event_step}
use Rattle.bk_coherent.specs.Traffic.{NoneForeign}

said : {X : Type 0} (o : Option (ℕ × X)) → is_some o ≡ true → (y : ℕ × X) × (o ≡ Some y)
said None e = absurd (cc)
said (Some y) e = (y, refl)

-- what the machine sees first in a channel
pub record Heads {X : Type 0} (h : Row → Option (ℕ × X)) (ms : List Row) : Type 0 where
  pub head : ℕ × X
  pub rest : List (ℕ × X)
  pub is : filter_map h ms ≡ head ∷ rest

pub heads : {X : Type 0} (h : Row → Option (ℕ × X)) (network : Network) (ms : List Row)
    → ((m : Row) → network_of m ≡ network → is_some (h m) ≡ true)
    → is_nil ms ≡ false → AreOf network ms → Heads h ms
heads h network [] s e f = absurd (cc)
heads h network (m ∷ ms) s e f =
    let y = said (h m) (s m f.0.is) in
    record { head = y.0; rest = filter_map h ms; is = ap (λ o. cons_option o (filter_map h ms)) y.1 }

pub takes-some : (s : State) (c : ℕ) (o : Option Transition) → is_some o ≡ is_some (cache_row s c o)
takes-some s c None = refl
takes-some s c (Some t) = refl

pub none-foreign : (k : Shape) (s : State) (x : Option (ℕ × Transaction)) → WellFormed k s → NoForeign k (world_of k s x)
    → NoneForeign k s
none-foreign k s x f r = record {
  command = λ c l e.
      let h = heads (as_command k) networks.Command (s.command c) (λ m. (spoken k m).command) e (f.command c) in
      takes-some (without_command s c) c (command_taken k s c)
      ∙ (event_step k [] s x (events.Command c) (machine.Command c) f tt refl).enabled
      ∙ r.command c h.head.0 h.head.1 h.rest l h.is;
  fill = λ to from l m e.
      let h = heads (as_fill k) networks.Fill (s.fill to from) (λ m. (spoken k m).fill) e (f.fill to from) in
      takes-some (without_fill s to from) to (fill_taken k s to from)
      ∙ (event_step k [] s x (events.Fill to from) (machine.Fill to from) f tt refl).enabled
      ∙ r.fill to from h.head.0 h.head.1 h.rest l m h.is;
}
