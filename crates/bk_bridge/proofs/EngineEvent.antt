-- An event of the engine leaves a well formed state.
use Rattle.std.proofs.Common.{◌≡◌, ℕ, Bool, true, false, cond, refl, List, [], ◌∷◌, ◌++◌, Option, Some, None, IfSome, ◌==◌, slice_get}
use Rattle.bk_base.specs.Places.{Shape, InProfile}
use Rattle.bk_isa.specs.declared.form.Form.{Form}
use Rattle.bk_msg.specs.declared.row.Row.{Row}
use Rattle.bk_msg.specs.declared.row.Network.{Network}
use Rattle.bk_msg.specs.declared.row.Network.TheVariants as networks
use Rattle.bk_msg.specs.Networks.{network_of, receiver_of}
use Rattle.bk_engine.specs.declared.parts.Choice.{Choice}
use Rattle.bk_engine.specs.Engine.{EngineState}
use Rattle.bk_engine.specs.Step.{Outcome, ran_at, runs_to}
use Rattle.bk_system.specs.State.{State}
use Rattle.bk_system.specs.Events.{first, added_if, is_command, is_memout, offered_head, commands_with, memout_with, heads_left, memin_left, with_outcome, can_run, engine_row}
use Rattle.bk_system.specs.Runs.{state_after_row}
use Rattle.bk_bridge.specs.Formed.{WellFormed, WellFormedEngine, AreOf, IsWhole}
use Rattle.bk_bridge.proofs.Formed.{cond-all, put-all, push, without_head}
use Rattle.bk_bridge.proofs.CoreFormed.{engine-formed}
use Rattle.bk_bridge.proofs.SendsFormed.{AreWhole, sends-whole}

-- CHANNELS

first-whole : (network : Network) (ms : List Row) → AreOf network ms → IfSome (first ms) IsWhole
first-whole network [] h = tt
first-whole network (m ∷ ms) h = h.0.whole

offered-whole : (k : Shape) (s : State) (choice : Choice) → WellFormed k s → IfSome (offered_head s choice) IsWhole
offered-whole k s choice f =
    cond-all Whole (choice.class == 1) _ _ (first-whole networks.Response (s.response choice.source) (f.response choice.source))
    (cond-all Whole (choice.class == 2) _ _ (cond-all Whole (choice.source == 0) _ None (first-whole networks.Memin s.memin f.memin) tt)
    (cond-all Whole (choice.class == 3) _ None (first-whole networks.Request (s.request choice.source) (f.request choice.source)) tt))
  where
    Whole : Option Row → Type 0
    Whole o = IfSome o IsWhole

commands-formed : (ms : List Row) (channel : ℕ → List Row) → AreWhole ms
    → ((i : ℕ) → AreOf networks.Command (channel i)) → (i : ℕ)
    → AreOf networks.Command (commands_with ms channel i)
commands-formed [] channel h f i = f i
commands-formed (m ∷ ms) channel h f i = commands-formed ms _ h.1 (go (network_of m) refl) i
  where
    go : (n : Network) → network_of m ≡ n → (i : ℕ) → AreOf networks.Command (added_if (is_command n) (receiver_of m) m channel i)
    go networks.Command e =
        put-all (AreOf networks.Command) channel (receiver_of m) _ f
        (push networks.Command (channel (receiver_of m)) m (f (receiver_of m)) (record { is = e; whole = h.0 }))
    go n e = f

memout-formed : (ms : List Row) (channel : List Row) → AreWhole ms → AreOf networks.Memout channel
    → AreOf networks.Memout (memout_with ms channel)
memout-formed [] channel h f = f
memout-formed (m ∷ ms) channel h f = memout-formed ms _ h.1 (go (network_of m) refl)
  where
    go : (n : Network) → network_of m ≡ n → AreOf networks.Memout (cond (is_memout n) (channel ++ m ∷ []) channel)
    go networks.Memout e = push networks.Memout channel m f (record { is = e; whole = h.0 })
    go n e = f

heads-formed : (network : Network) (class : ℕ) (popped : Option Choice) (channel : ℕ → List Row)
    → ((i : ℕ) → AreOf network (channel i)) → (i : ℕ)
    → AreOf network (heads_left class popped channel i)
heads-formed network class None channel f = f
heads-formed network class (Some choice) channel f =
    cond-all (λ (h : ℕ → List Row). (i : ℕ) → AreOf network (h i)) (choice.class == class) _ channel
    (put-all (AreOf network) channel choice.source _ f (without_head network (channel choice.source) (f choice.source))) f

memin-formed : (popped : Option Choice) (memin : List Row) → AreOf networks.Memin memin → AreOf networks.Memin (memin_left popped memin)
memin-formed None memin f = f
memin-formed (Some choice) memin f = cond-all (AreOf networks.Memin) (choice.class == 2) _ memin (without_head networks.Memin memin f) f

-- WHAT AN INSTRUCTION LEAVES

pub record FormedOutcome (k : Shape) (o : Outcome) : Type 0 where
  pub engine : WellFormedEngine k o.engine
  pub sent : AreWhole o.sent

ran-formed : (k : Shape) (engine : EngineState) (f : Option Form) (choice : Choice) (message : Option Row) → InProfile k
    → WellFormedEngine k engine
    → IfSome message IsWhole
    → FormedOutcome k (ran_at k engine f choice message)
ran-formed k engine None choice message p h w = record { engine = h; sent = tt }
ran-formed k engine (Some f) choice message p h w = record {
  engine = engine-formed k engine f choice message p h w;
  sent = sends-whole k engine f p h;
}

outcome-keeps : (k : Shape) (s : State) (o : Outcome) → WellFormed k s → FormedOutcome k o → WellFormed k (with_outcome k s o).state
outcome-keeps k s o f h = record {
  profile = f.profile;
  lines = f.lines;
  busy = f.busy;
  request = heads-formed networks.Request 3 o.popped s.request f.request;
  command = commands-formed o.sent s.command h.sent f.command;
  fill = f.fill;
  response = heads-formed networks.Response 1 o.popped s.response f.response;
  memout = memout-formed o.sent s.memout h.sent f.memout;
  memin = memin-formed o.popped s.memin f.memin;
  history = f.history;
  engine = h.engine;
}

row-keeps : (k : Shape) (s : State) (o : Outcome) (b : Bool) → WellFormed k s → WellFormed k (with_outcome k s o).state
    → WellFormed k (state_after_row s (cond b (Some (with_outcome k s o)) None))
row-keeps k s o true f h = h
row-keeps k s o false f h = f

pub engine-keeps : (k : Shape) (program : List Form) (s : State) (choice : Choice) → WellFormed k s
    → WellFormed k (state_after_row s (engine_row k program s choice))
engine-keeps k program s choice f =
    row-keeps k s (runs_to k s.engine program choice (offered_head s choice)) (can_run k program s choice) f
    (outcome-keeps k s (runs_to k s.engine program choice (offered_head s choice)) f
    (ran-formed k s.engine (slice_get program s.engine.core.place) choice (offered_head s choice) f.profile f.engine
    (offered-whole k s choice f)))
