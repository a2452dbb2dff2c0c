-- The part that the number of the engine or of the memory has.
use Rattle.std.proofs.Common.{◌≡◌, ℕ, ◌<◌, Bool, cond, eqb, ap, ◌∙◌, refl, length, arith, le-ltb, lt-ltb, eq-eqb, ne_eqb}
use Rattle.bk_base.specs.Places.{Shape}
use Rattle.bk_system.specs.State.{State}
use Rattle.bk_system.specs.Runs.{completed_by}
use Rattle.bk_system.specs.Routes.{engine_number, memory_number}
use Rattle.bk_agents.specs.Parts.{Part, CachePart, EnginePart, MemoryPart, NoPart, part_of}

-- the part that a number has, by how it compares
abbrev by_number : State → ℕ → Bool → Bool → Bool → Part
by_number s n is_cache is_engine is_memory =
    cond is_cache (CachePart (s.caches n) (length (completed_by n s.history)))
    (cond is_engine (EnginePart s.engine) (cond is_memory (MemoryPart s.memory) NoPart))

pub cache-part : (k : Shape) (s : State) (n : ℕ) → n < k.caches
    → part_of k s n ≡ CachePart (s.caches n) (length (completed_by n s.history))
cache-part k s n l =
    ap (λ (b : Bool). by_number s n b (eqb n (engine_number k)) (eqb n (memory_number k))) (lt-ltb n k.caches l)

pub engine-part : (k : Shape) (s : State) → part_of k s (engine_number k) ≡ EnginePart s.engine
engine-part k s =
    ap (λ (b : Bool). by_number s k.caches b (eqb k.caches k.caches) (eqb k.caches (memory_number k)))
    (le-ltb k.caches k.caches (omega arith))
    ∙ ap (λ (b : Bool). cond b (EnginePart s.engine) (cond (eqb k.caches (memory_number k)) (MemoryPart s.memory) NoPart))
    (eq-eqb k.caches k.caches refl)

pub memory-part : (k : Shape) (s : State) → part_of k s (memory_number k) ≡ MemoryPart s.memory
memory-part k s =
    ap (λ (b : Bool). by_number s (memory_number k) b (eqb (memory_number k) k.caches) (eqb (memory_number k) (memory_number k)))
    (le-ltb (memory_number k) k.caches (omega arith))
    ∙ ap (λ (b : Bool). cond b (EnginePart s.engine) (cond (eqb (memory_number k) (memory_number k)) (MemoryPart s.memory) NoPart))
    (ne_eqb (memory_number k) k.caches (λ e. omega (arith, e)))
    ∙ ap (λ (b : Bool). cond b (MemoryPart s.memory) NoPart) (eq-eqb (memory_number k) (memory_number k) refl)
