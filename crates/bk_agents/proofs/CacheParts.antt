-- What a step of one agent makes of the parts of all: it changes its own.
use Rattle.std.proofs.Common.{◌≡◌, ℕ, ◌+◌, ◌<◌, Bool, cond, ltb, eqb, refl, sym, ap, ◌∙◌, ◌⊎◌, inl, inr, List, length, Option, option_to_list, append-nil, eq-eqb, ne_eqb}
use Rattle.std.proofs.lemmas.Bool.{cases_eq}
use Rattle.bk_base.specs.Places.{Shape}
use Rattle.bk_base.specs.Tables.{put}
use Rattle.bk_base.specs.declared.op.Op.{Op}
use Rattle.bk_base.specs.declared.op.Done.{Done}
use Rattle.bk_msg.specs.declared.row.Row.{Row}
use Rattle.bk_lce.specs.CacheState.{CacheState}
use Rattle.bk_lce.specs.CacheTable.{Transition}
use Rattle.bk_engine.specs.declared.parts.Choice.{Choice}
use Rattle.bk_engine.specs.Step.{Outcome}
use Rattle.bk_system.specs.State.{State}
use Rattle.bk_system.specs.Runs.{completed_by}
use Rattle.bk_system.specs.Routes.{engine_number, memory_number}
use Rattle.bk_agents.specs.Parts.{Part, CachePart, EnginePart, MemoryPart, NoPart, part_of}
use Rattle.bk_system.specs.declared.channel.Channel.{Channel}
use Rattle.bk_system.specs.Routes.{heads_of}
use Rattle.bk_agents.specs.Local.{cache_local, engine_local, memory_local, widened}
use Rattle.bk_agents.proofs.Own.{CompletesOwn}
use Rattle.bk_agents.proofs.Numbers.{cache-part, engine-part, memory-part}
use Rattle.bk_agents.proofs.Completed.{completed-own, completed-other}

-- A STEP LEAVES PARTS where each number has the part it had, but for the agent's, which is this one.
abbrev pub Leaves : Shape → State → State → ℕ → Part → Type 0
Leaves k s later n part = (i : ℕ) → part_of k later i ≡ put (part_of k s) n part i

-- by what the agent has, and what another number has
leaves : (k : Shape) (s later : State) (n : ℕ) (part : Part) → part_of k later n ≡ part
    → ((i : ℕ) → (i ≡ n → ⊥) → part_of k later i ≡ part_of k s i) → Leaves k s later n part
unfolding put
leaves k s later n part own others i = go (cases_eq i n)
  where
    go : (i ≡ n) ⊎ (i ≡ n → ⊥) → part_of k later i ≡ cond (eqb i n) part (part_of k s i)
    go (inl e) = ap (part_of k later) e ∙ own ∙ ap (λ (b : Bool). cond b part (part_of k s i)) (sym (eq-eqb i n e))
    go (inr e) = others i e ∙ ap (λ (b : Bool). cond b part (part_of k s i)) (sym (ne_eqb i n e))

-- A CACHE'S

put-own : (f : ℕ → CacheState) (c : ℕ) (cache : CacheState) → put f c cache c ≡ cache
unfolding put
put-own f c cache = ap (λ (b : Bool). cond b cache (f c)) (eq-eqb c c refl)

put-other : (f : ℕ → CacheState) (c i : ℕ) (cache : CacheState) → (i ≡ c → ⊥) → put f c cache i ≡ f i
unfolding put
put-other f c i cache other = ap (λ (b : Bool). cond b cache (f i)) (ne_eqb i c other)

pub cache-leaves : (k : Shape) (s : State) (c : ℕ) (touched : Option Channel) (t : Transition) → c < k.caches → CompletesOwn c t.done
    → Leaves k s (widened s c (cache_local (length (completed_by c s.history)) touched t)).state c
    (CachePart t.state (length (completed_by c s.history) + length (option_to_list t.done)))
cache-leaves k s c touched t l own = leaves k s later c _
    (cache-part k later c l
    ∙ ap (λ (cache : CacheState). CachePart cache (length (completed_by c later.history))) (put-own s.caches c t.state)
    ∙ ap (CachePart t.state) (completed-own c s.history t.done own))
    (λ i other.
    ap (λ (cache : CacheState). with_cache i (CachePart cache (length (completed_by i later.history))))
    (put-other s.caches c i t.state other)
    ∙ ap (λ (ops : List Op). with_cache i (CachePart (s.caches i) (length ops))) (completed-other c i s.history t.done own other))
  where
    later : State
    later = (widened s c (cache_local (length (completed_by c s.history)) touched t)).state

    with_cache : ℕ → Part → Part
    with_cache i part = cond (ltb i k.caches) part
        (cond (eqb i (engine_number k)) (EnginePart s.engine) (cond (eqb i (memory_number k)) (MemoryPart s.memory) NoPart))

-- THE ENGINE'S, AND THE MEMORY'S: the history stays

-- the parts of a state with this history
abbrev with_rest : Shape → State → ℕ → List Done → Part → Part → Part
with_rest k s i history engine memory =
    cond (ltb i k.caches) (CachePart (s.caches i) (length (completed_by i history)))
    (cond (eqb i (engine_number k)) engine (cond (eqb i (memory_number k)) memory NoPart))

pub engine-leaves : (k : Shape) (s : State) (choice : Choice) (outcome : Outcome)
    → Leaves k s (widened s (engine_number k) (engine_local k (heads_of s) choice outcome)).state (engine_number k)
    (EnginePart outcome.engine)
engine-leaves k s choice outcome = leaves k s later (engine_number k) (EnginePart outcome.engine) (engine-part k later) (λ i other.
    ap (λ (history : List Done). with_rest k s i history (EnginePart outcome.engine) (MemoryPart s.memory)) (append-nil s.history)
    ∙ ap (λ (b : Bool). cond (ltb i k.caches) (CachePart (s.caches i) (length (completed_by i s.history)))
    (cond b (EnginePart outcome.engine) (cond (eqb i (memory_number k)) (MemoryPart s.memory) NoPart))) (ne_eqb i (engine_number k) other)
    ∙ ap (λ (b : Bool). cond (ltb i k.caches) (CachePart (s.caches i) (length (completed_by i s.history)))
    (cond b (EnginePart s.engine) (cond (eqb i (memory_number k)) (MemoryPart s.memory) NoPart))) (sym (ne_eqb i (engine_number k) other)))
  where
    later : State
    later = (widened s (engine_number k) (engine_local k (heads_of s) choice outcome)).state

pub memory-leaves : (k : Shape) (s : State) (m : Row)
    → Leaves k s (widened s (memory_number k) (memory_local s.memory m)).state (memory_number k) (memory_local s.memory m).part
memory-leaves k s m = leaves k s later (memory_number k) _ (memory-part k later) (λ i other.
    ap (λ (history : List Done). with_rest k s i history (EnginePart s.engine) (MemoryPart later.memory)) (append-nil s.history)
    ∙ ap (λ (b : Bool). cond (ltb i k.caches) (CachePart (s.caches i) (length (completed_by i s.history)))
    (cond (eqb i (engine_number k)) (EnginePart s.engine) (cond b (MemoryPart later.memory) NoPart))) (ne_eqb i (memory_number k) other)
    ∙ ap (λ (b : Bool). cond (ltb i k.caches) (CachePart (s.caches i) (length (completed_by i s.history)))
    (cond (eqb i (engine_number k)) (EnginePart s.engine) (cond b (MemoryPart s.memory) NoPart))) (sym (ne_eqb i (memory_number k) other)))
  where
    later : State
    later = (widened s (memory_number k) (memory_local s.memory m)).state
