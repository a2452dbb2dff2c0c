-- What stays of an agent stays over several turns, and with it what its ends must be.
use Rattle.std.proofs.Common.{◌≡◌, ℕ, ◌≤◌, List, map, refl, sym, subst, ◌∙◌, ◌⊎◌, inl, inr, arith}
use Rattle.std.specs.Prelude.{◌≢◌, All, AllPairs, true}
use Rattle.bk_base.specs.Places.{Shape}
use Rattle.bk_system.specs.declared.channel.Channel.{Channel}
use Rattle.bk_system.specs.Routes.{IsChannel}
use Rattle.bk_system.specs.State.{State}
use Rattle.bk_rounds.specs.declared.agent.Agent.{Agent}
use Rattle.bk_rounds.specs.declared.ends.Inlet.{Inlet}
use Rattle.bk_rounds.specs.declared.ends.Outlet.{Outlet}
use Rattle.bk_rounds.specs.declared.turns.Turn.{Turn}
use Rattle.bk_rounds.specs.declared.turns.Turn.TheVariants.{Stopped}
use Rattle.bk_rounds.specs.Agents.{IsSame}
use Rattle.bk_rounds.specs.Ends.{inlet_channel, outlet_channel, is_in, IsInward, IsOutward, AreInlets, AreOutlets}
use Rattle.bk_rounds.specs.Work.{IsSent}

pub same-agent : (agent : Agent) → IsSame agent agent
same-agent agent = record {
  number = refl;
  config = refl;
  inlets = refl;
  outlets = refl;
  inlet_tables = refl;
  outlet_tables = refl;
}

pub same-again : (old now new : Agent) → IsSame old now → IsSame now new → IsSame old new
same-again old now new first then = record {
  number = then.number ∙ first.number;
  config = then.config ∙ first.config;
  inlets = then.inlets ∙ first.inlets;
  outlets = then.outlets ∙ first.outlets;
  inlet_tables = then.inlet_tables ∙ first.inlet_tables;
  outlet_tables = then.outlet_tables ∙ first.outlet_tables;
}

inlets-alike : (k : Shape) (n : ℕ) (inlets others : List Inlet) → map inlet_channel others ≡ map inlet_channel inlets
    → AreInlets k n inlets → AreInlets k n others
inlets-alike k n inlets others e are = record {
  channels = subst (All (IsChannel k)) (sym e) are.channels;
  inward = subst (All (IsInward k n)) (sym e) are.inward;
  different = subst (AllPairs (λ channel other. channel ≢ other)) (sym e) are.different;
}

outlets-alike : (k : Shape) (n : ℕ) (outlets others : List Outlet) → map outlet_channel others ≡ map outlet_channel outlets
    → AreOutlets k n outlets → AreOutlets k n others
outlets-alike k n outlets others e are = record {
  channels = subst (All (IsChannel k)) (sym e) are.channels;
  outward = subst (All (IsOutward k n)) (sym e) are.outward;
  different = subst (AllPairs (λ channel other. channel ≢ other)) (sym e) are.different;
  whole = λ channel there outward.
      subst (λ (channels : List Channel). is_in channel channels ≡ true) (sym e) (are.whole channel there outward);
}

pub same-inlets : (old new : Agent) → IsSame old new → AreInlets old.hardware.config old.number old.inlets.items
    → AreInlets new.hardware.config new.number new.inlets.items
same-inlets old new same are =
    subst (λ (k : Shape). AreInlets k new.number new.inlets.items) (sym same.config)
    (subst (λ (n : ℕ). AreInlets old.hardware.config n new.inlets.items) (sym same.number)
    (inlets-alike old.hardware.config old.number old.inlets.items new.inlets.items same.inlets are))

pub same-outlets : (old new : Agent) → IsSame old new → AreOutlets old.hardware.config old.number old.outlets.items
    → AreOutlets new.hardware.config new.number new.outlets.items
same-outlets old new same are =
    subst (λ (k : Shape). AreOutlets k new.number new.outlets.items) (sym same.config)
    (subst (λ (n : ℕ). AreOutlets old.hardware.config n new.outlets.items) (sym same.number)
    (outlets-alike old.hardware.config old.number old.outlets.items new.outlets.items same.outlets are))

-- A turn that did not stop the agent leaves nothing that waits to be sent.
pub waits-on : (old now : Agent) (s : State) (turn other : Turn) → IsSame old now → turn ≡ other → (other ≡ Stopped → ⊥)
    → (turn ≡ Stopped) ⊎ IsSent now.hardware.config now.number s → IsSent old.hardware.config old.number s
waits-on old now s turn other same is goes_on (inl stopped) = absurd (goes_on (sym is ∙ stopped))
waits-on old now s turn other same is goes_on (inr waits) =
    subst (λ (k : Shape). IsSent k old.number s) same.config
    (subst (λ (n : ℕ). IsSent now.hardware.config n s) same.number waits)

-- The turns that may still make an event are all, or there are events.
pub made-on : (left later before now : ℕ) → later ≡ left → before ≤ now → (left ≡ 64) ⊎ (1 ≤ before)
    → (later ≡ 64) ⊎ (1 ≤ now)
made-on left later before now same more (inl all) = inl (same ∙ all)
made-on left later before now same more (inr some) = inr (omega (arith, more, some))
