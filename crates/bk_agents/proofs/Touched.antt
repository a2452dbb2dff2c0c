-- What a cache's local row touches, and what the engine's does.
use Rattle.std.proofs.Common.{◌≡◌, ℕ, Bool, true, false, cond, eqb, sym, ap, Option, Some, None, option_map}
use Rattle.std.proofs.lemmas.Option.{same_Some}
use Rattle.bk_base.specs.Places.{Shape}
use Rattle.bk_lce.specs.CacheTable.{Transition}
use Rattle.bk_engine.specs.declared.parts.Choice.{Choice}
use Rattle.bk_system.specs.Routes.{engine_number}
use Rattle.bk_system.specs.declared.channel.Channel.TheVariants as channels
use Rattle.bk_system.specs.declared.channel.Channel.{Channel}
use Rattle.bk_system.specs.Routes.{ends_at}
use Rattle.bk_agents.specs.Local.{Local, cache_local, offered_channel, popped_channel, touched_by}
use Rattle.bk_agents.proofs.SomeRow.{of-some}

pub cache-touched : (completed : ℕ) (touched : Option Channel) (o : Option Transition) (local : Local)
    → option_map (cache_local completed touched) o ≡ Some local → local.touched ≡ touched
cache-touched completed touched o local e =
    let row = of-some (cache_local completed touched) o local e in ap (λ (l : Local). l.touched) (sym row.2)

-- the channel that a choice offers is the one from which its head is taken off
pub offered-popped : (choice : Choice) (channel : Channel) → offered_channel choice ≡ Some channel
    → popped_channel choice ≡ Some channel
offered-popped choice channel = go (eqb choice.class 1) (eqb choice.class 2) (eqb choice.source 0) (eqb choice.class 3)
  where
    go : (x y z u : Bool)
        → cond x (Some (channels.Response choice.source)) (cond y (cond z (Some channels.Memin) None)
        (cond u (Some (channels.Request choice.source)) None)) ≡ Some channel
        → cond x (Some (channels.Response choice.source)) (cond y (Some channels.Memin)
        (cond u (Some (channels.Request choice.source)) None)) ≡ Some channel
    go true y z u e = e
    go false true true u e = e
    go false true false u e = absurd cc
    go false false z u e = e

-- each of them ends at the engine
offered-ends : (k : Shape) (choice : Choice) (channel : Channel) → offered_channel choice ≡ Some channel
    → ends_at k channel ≡ engine_number k
offered-ends k choice channel = go (eqb choice.class 1) (eqb choice.class 2) (eqb choice.source 0) (eqb choice.class 3)
  where
    go : (x y z u : Bool)
        → cond x (Some (channels.Response choice.source)) (cond y (cond z (Some channels.Memin) None)
        (cond u (Some (channels.Request choice.source)) None)) ≡ Some channel
        → ends_at k channel ≡ engine_number k
    go true y z u e = ap (ends_at k) (sym (same_Some _ _ e))
    go false true true u e = ap (ends_at k) (sym (same_Some _ _ e))
    go false true false u e = absurd cc
    go false false z true e = ap (ends_at k) (sym (same_Some _ _ e))
    go false false z false e = absurd cc

popped-ends : (k : Shape) (choice : Choice) (channel : Channel) → popped_channel choice ≡ Some channel
    → ends_at k channel ≡ engine_number k
popped-ends k choice channel = go (eqb choice.class 1) (eqb choice.class 2) (eqb choice.class 3)
  where
    go : (x y u : Bool)
        → cond x (Some (channels.Response choice.source)) (cond y (Some channels.Memin)
        (cond u (Some (channels.Request choice.source)) None)) ≡ Some channel
        → ends_at k channel ≡ engine_number k
    go true y u e = ap (ends_at k) (sym (same_Some _ _ e))
    go false true u e = ap (ends_at k) (sym (same_Some _ _ e))
    go false false true e = ap (ends_at k) (sym (same_Some _ _ e))
    go false false false e = absurd cc

pub touched-ends : (k : Shape) (choice : Choice) (o : Option Choice) (channel : Channel) → touched_by choice o ≡ Some channel
    → ends_at k channel ≡ engine_number k
touched-ends k choice None channel e = offered-ends k choice channel e
touched-ends k choice (Some popped) channel e = popped-ends k popped channel e
