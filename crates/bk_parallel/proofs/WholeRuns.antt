-- The rounds of a run, one after the other, until nothing is enabled.
use Rattle.std.proofs.Common.{◌≡◌, ℕ, Bool, true, false, cond, eqb, ltb, List, [], ◌++◌, None, length, refl, sym, ap, ◌∙◌, subst}
use Rattle.bk_agents.specs.Held.{HoldsFirst, held_head}
use Rattle.bk_agents.specs.Parts.{CachePart, EnginePart, MemoryPart, NoPart, part_of}
use Rattle.bk_base.specs.Places.{Shape}
use Rattle.bk_rounds.specs.declared.agent.Agent.{Agent}
use Rattle.bk_rounds.specs.Tasks.{Task, IsDue}
use Rattle.bk_system.specs.declared.channel.Channel.{Channel}
use Rattle.bk_system.specs.declared.channel.Channel.TheVariants as channels
use Rattle.bk_system.specs.declared.event.Event.{Event}
use Rattle.bk_system.specs.Routes.{channel_of, heads_of, ends_at, engine_number, memory_number}
use Rattle.bk_system.specs.Runs.{run, completed_by, IsTight}
use Rattle.bk_system.specs.State.{State, opening}
use Rattle.bk_threads.specs.Rounds.{HoldsFrom}
use Rattle.bk_parallel.specs.Runs.{IsWholeRun}
use Rattle.bk_parallel.specs.Stands.{Stand, Advances}
use Rattle.bk_parallel.specs.Teams.{IsTeam, AreApart, state_at, entries_at}
use Rattle.bk_parallel.proofs.Appending.{run_from-append, tight-append, holds-append}
use Rattle.bk_parallel.proofs.Asked.{due-asked, due-in_order}

-- AT THE OPENING

pub none-waits : (k : Shape) (channel : Channel) → channel_of (opening k) channel ≡ []
none-waits k (channels.Request from) = refl
none-waits k (channels.Command to) = refl
none-waits k (channels.Fill to from) = refl
none-waits k (channels.Response from) = refl
none-waits k channels.Memout = refl
none-waits k channels.Memin = refl

none-held : (k : Shape) (n : ℕ) → held_head (part_of k (opening k) n) ≡ None
none-held k n = by (ltb n k.caches) (eqb n (engine_number k)) (eqb n (memory_number k))
  where
    by : (a b c : Bool) → held_head (cond a (CachePart ((opening k).caches n) (length (completed_by n (opening k).history)))
        (cond b (EnginePart (opening k).engine) (cond c (MemoryPart (opening k).memory) NoPart))) ≡ None
    by true b c = refl
    by false true c = refl
    by false false true = refl
    by false false false = refl

pub none-holds : (k : Shape) (n : ℕ) → HoldsFirst (part_of k (opening k) n) (heads_of (opening k))
none-holds k n head channel held popped = let none = none-held k n in absurd (cc (none, held))

pub stand-opening : (k : Shape) (agents : List Agent) → IsTeam k agents → AreApart agents
    → ((n : ℕ) → state_at k agents n ≡ opening k) → ((n : ℕ) → entries_at agents n ≡ []) → Stand k (opening k) agents
stand-opening k agents team apart states entries = record {
  team = team;
  apart = apart;
  parts = λ n l. ap (λ (t : State). part_of k t n) (states n);
  inboxes = λ channel l. ap (λ (t : State). channel_of t channel) (states (ends_at k channel));
  sent = λ n l channel outward. ap (λ (t : State). channel_of t channel) (states n) ∙ none-waits k channel;
  holds = λ n l. subst (λ (t : State). HoldsFirst (part_of k t n) (heads_of t)) (sym (states n)) (none-holds k n);
  entries = entries;
}

-- ROUND AFTER ROUND

pub record SoFar (task : Task) (events : List Event) (agents : List Agent) : Type 0 where
  pub stand : Stand task.config (run task.config task.program events) agents
  pub tight : IsTight task.config task.program events
  pub due : HoldsFrom (IsDue task.policy task.config task.operations) task.config task.program (opening task.config) events

pub begin : (task : Task) (events : List Event) (agents : List Agent) → events ≡ [] → Stand task.config (opening task.config) agents
    → SoFar task events agents
begin task events agents none stand = subst (λ (es : List Event). SoFar task es agents) (sym none)
    (record { stand = stand; tight = tt; due = tt })

pub go-on : (task : Task) (events made later : List Event) (agents next : List Agent) (last : Bool) → later ≡ events ++ made
    → SoFar task events agents
    → Advances task (run task.config task.program events) made next last → SoFar task later next
go-on task events made later agents next last are so_far round =
    let k = task.config in
    let program = task.program in
    subst (λ (es : List Event). SoFar task es next) (sym are) (record {
      stand = subst (λ (t : State). Stand k t next) (sym (run_from-append k program (opening k) events made)) round.stand;
      tight = tight-append k program (opening k) events made so_far.tight round.tight;
      due = holds-append (IsDue task.policy k task.operations) k program (opening k) events made so_far.due round.due;
    })

pub whole : (task : Task) (events made : List Event) (agents next : List Agent) (last : Bool) → last ≡ true → SoFar task events agents
    → Advances task (run task.config task.program events) made next last → IsWholeRun task events
whole task events made agents next last is so_far round = record {
  tight = so_far.tight;
  in_order = due-in_order task.policy task.config task.program task.operations events so_far.tight so_far.due;
  asked = due-asked task.policy task.config task.program task.operations (opening task.config) events so_far.tight so_far.due;
  ended = round.ended is;
}
