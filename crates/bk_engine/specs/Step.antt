-- One instruction of the engine: what it leaves and does outside, and what a call of `step` or `step_into` says of it.
use Rattle.std.specs.Prelude.{ℕ, ◌+◌, List, [], Bool, true, false, ◌||◌, if◌then◌else◌, Option, Some, None, is_none, slice_get, ◌≡◌, ◌<◌, ◌⊎◌, All, IfSome}
use Rattle.arrayvec.specs.ArrayVec.{ArrayVec}
use Rattle.bk_base.specs.Places.{Shape}
use Rattle.bk_isa.specs.declared.form.Form.{Form}
use Rattle.bk_isa.specs.declared.form.Form.TheVariants.{Popq, Mova, Movs, Movw, Bk, Rdw, Gad, Wde, Wds, Fin, Wfq, Defer, Inv, Stwb, Blk, Wake, Tr, Ucblk, Ucdone, Done, Memrd, Memwb, Memww}
use Rattle.bk_msg.specs.declared.row.Row.{Row}
use Rattle.bk_msg.specs.declared.row.Network.TheVariants.{Command, Memout}
use Rattle.bk_msg.specs.Networks.{network_of}
use Rattle.bk_msg.specs.Within.{IsWithin}
use Rattle.bk_engine.specs.declared.parts.Choice.{Choice}
use Rattle.bk_engine.specs.declared.parts.Core.{Core}
use Rattle.bk_engine.specs.declared.parts.Head.{Head}
use Rattle.bk_engine.specs.Engine.{EngineState}
use Rattle.bk_engine.specs.Stops.{branch_stop, stop_of}
use Rattle.bk_engine.specs.Changes.{after_flag, core_after, directory_after}
use Rattle.bk_engine.specs.Reads.{compares, target}
use Rattle.bk_engine.specs.Sends.{sends}
use Rattle.bk_engine.specs.declared.engine.EngineStep.{EngineStep}
use Rattle.bk_engine.specs.declared.engine.EngineStep.TheVariants.{Ran, Waits, Halted}
use Rattle.bk_engine.specs.declared.stop.Stop.TheVariants as stops
use Rattle.bk_engine.specs.declared.engine.Stepped.{Stepped}
use Rattle.bk_engine.specs.declared.engine.Stepped.TheVariants as stepped

-- What an instruction leaves and does outside: the engine after it, the messages that it sends, in order, and the head that it
-- takes off its channel.
pub record Outcome : Type 0 where
  pub engine : EngineState
  pub sent : List Row
  pub popped : Option Choice

abbrev pub choice_of : Option Head → Option Choice
choice_of None = None
choice_of (Some head) = Some head.choice

abbrev pub pops : EngineState → Form → Option Choice
pops engine (Popq _) = choice_of engine.core.head
pops engine f = None

abbrev pub ran : Shape → EngineState → Form → Choice → Option Row → Outcome
ran k engine f choice message = record {
  engine = record { core = core_after k engine f choice message; directory = directory_after k engine f };
  sent = sends k engine f;
  popped = pops engine f;
}

abbrev pub ran_at : Shape → EngineState → Option Form → Choice → Option Row → Outcome
ran_at k engine None choice message = record { engine = engine; sent = []; popped = None }
ran_at k engine (Some f) choice message = ran k engine f choice message

-- What the instruction at the engine's place leaves and does, where it runs. `message` is the head of the channel that the choice
-- names; `wfq` alone looks at it.
abbrev pub runs_to : Shape → EngineState → List Form → Choice → Option Row → Outcome
runs_to k engine program choice message = ran_at k engine (slice_get program engine.core.place) choice message

abbrev pub runs : Shape → EngineState → List Form → Choice → Option Row → Bool
runs k engine program choice message = is_none (stop_of k engine program choice message)

-- PLAIN INSTRUCTIONS, on registers and flags alone, with the branches on registers: they always run, and nothing else changes

abbrev pub is_plain : Form → Bool
is_plain (Mova _) = false
is_plain (Movs _) = false
is_plain (Movw _) = false
is_plain (Bk _ _ _) = false
is_plain Rdw = false
is_plain Gad = false
is_plain (Wde _) = false
is_plain (Wds _ _) = false
is_plain Fin = false
is_plain (Wfq _) = false
is_plain (Popq _) = false
is_plain Defer = false
is_plain (Inv _) = false
is_plain (Stwb _ _) = false
is_plain (Blk _) = false
is_plain Wake = false
is_plain (Tr _ _) = false
is_plain Ucblk = false
is_plain Ucdone = false
is_plain Done = false
is_plain Memrd = false
is_plain Memwb = false
is_plain Memww = false
is_plain f = true

abbrev pub next_plain : Core → Form → ℕ
next_plain core f = if compares core f then target f else core.place + 1

abbrev pub after_plain : Core → Form → Core
after_plain core f = record (after_flag core f) { place = next_plain core f }

-- INTERNAL INSTRUCTIONS, the plain ones and a `bk` that has no reason not to run: they take part in no channel and write no entry

abbrev pub branch_runs : Core → Form → Bool
branch_runs core (Bk field _ _) = is_none (branch_stop core field)
branch_runs core f = false

abbrev pub is_internal : Core → Form → Bool
is_internal core f = is_plain f || branch_runs core f

-- whether the instruction at the engine's place is one
abbrev pub internal_at : Core → Option Form → Bool
internal_at core None = false
internal_at core (Some f) = is_internal core f

-- it runs whatever is chosen and offered, sends nothing and pops nothing
abbrev pub RunsInternally : Shape → List Form → EngineState → EngineState → Type 0
RunsInternally k program old new = (choice : Choice) (message : Option Row)
    → (stop_of k old program choice message ≡ None)
    × (runs_to k old program choice message ≡ record { engine = new; sent = []; popped = None })

-- WHAT A STEP SAYS

-- The call answered what the instruction does, and left what it leaves; where the engine waits or halts nothing has changed.
abbrev pub IsStep : Shape → List Form → Choice → Option Row → EngineState → EngineState → EngineStep → Type 0
IsStep k program choice message old new (Ran sent popped) =
    (stop_of k old program choice message ≡ None)
    × (runs_to k old program choice message ≡ record { engine = new; sent = sent.items; popped = popped })
IsStep k program choice message old new (Waits classes) = (stop_of k old program choice message ≡ Some (stops.Waits classes))
    × (new ≡ old)
IsStep k program choice message old new (Halted reason) = (stop_of k old program choice message ≡ Some (stops.Halts reason))
    × (new ≡ old)

-- A STEP WHOSE MESSAGES ARE PUT INTO A LIST OF THE CALLER, as the step that answers them

abbrev pub with_sent : ArrayVec Row → Stepped → EngineStep
with_sent sent (stepped.Ran popped) = Ran sent popped
with_sent sent (stepped.Waits classes) = Waits classes
with_sent sent (stepped.Halted reason) = Halted reason

-- a step that didn't run sends nothing
abbrev pub SendsWhereRan : ArrayVec Row → Stepped → Type 0
SendsWhereRan sent (stepped.Ran popped) = Unit {0}
SendsWhereRan sent (stepped.Waits classes) = sent.items ≡ []
SendsWhereRan sent (stepped.Halted reason) = sent.items ≡ []

-- WHAT LEAVES AN ENGINE is of the configuration

-- a message of the engine goes to a cache or to the memory, and names caches and ways of the configuration
pub record IsOutward (k : Shape) (m : Row) : Type 0 where
  pub within : IsWithin k m
  pub network : (network_of m ≡ Command) ⊎ (network_of m ≡ Memout)

-- so is each message that a step sends
abbrev pub SendsWithin : Shape → EngineStep → Type 0
SendsWithin k (Ran sent popped) = All (IsOutward k) sent.items
SendsWithin k (Waits classes) = Unit {0}
SendsWithin k (Halted reason) = Unit {0}

-- the head that a step takes off its channel is that of a cache, or the memory's, which has source 0
abbrev pub PopsWithin : Shape → EngineStep → Type 0
PopsWithin k (Ran sent popped) = IfSome popped (λ choice. choice.source < k.caches)
PopsWithin k (Waits classes) = Unit {0}
PopsWithin k (Halted reason) = Unit {0}
