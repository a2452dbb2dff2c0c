-- Events of caches and memory: an Issue begins an operation at most, and every other one that is enabled takes a message.
use Rattle.std.proofs.Common.{◌≡◌, ℕ, ◌+◌, ◌*◌, ◌≤◌, Bool, true, false, refl, arith, List, [], ◌∷◌, Option, Some, None}
use Rattle.std.specs.Prelude.{is_some, nat_lt, ◌==◌, ◌&&◌, if◌then◌else◌}
use Rattle.bk_base.specs.Places.{Shape}
use Rattle.bk_base.specs.declared.coh.Coh.{Coh}
use Rattle.bk_machine.specs.CacheSteps.{at_way, for_busy, block_row, wake_row, word_row, stored_row, evicted_row, command_row, step_of_command, fill_row, step_of_fill, step_of_memory}
use Rattle.bk_machine.specs.Directory.{found_way}
use Rattle.bk_machine.specs.Invariant.{Ranges}
use Rattle.bk_machine.specs.Messages.{Op, ToCache, Inv, StWb, StTr, Blk, StWake, UcBlk, UcDone, EvictDone, FillMessage, ToMemory, Read, Write, WriteWord}
use Rattle.bk_machine.specs.Runs.{Issue, Command, Fill, Memory, step_of, event_after, option_step_after}
use Rattle.bk_machine.specs.Steps.{MachineStep, LoadHits, StoreHits, Asks, EvictIdles, FlushComes, TransferComes, step_after}
use Rattle.bk_machine.specs.Transactions.{InProgress}
use Rattle.bk_machine.specs.World.{World}
use Rattle.bk_machine.proofs.Rows.{IfFits, event_fits}
use Rattle.bk_bound.proofs.Inside.{Inside}
use Rattle.bk_bound.proofs.WorldCounts.{heads_of, messages_of}
use Rattle.bk_bound.proofs.WorldSteps.{TakesMessage, Begins, Does, does}

-- whether a step begins an operation
abbrev begins : Option (ℕ × MachineStep) → Bool
begins None = false
begins (Some (g, LoadHits c t w spot)) = true
begins (Some (g, StoreHits c t w j f)) = true
begins (Some (g, Asks c w op)) = true
begins (Some (g, EvictIdles c t)) = true
begins (Some a) = false

-- TABLES: the rows of commands, fills and memory begin none

block-none : (g c t w : ℕ) (y : Coh) (ws : ℕ → ℕ) (rest : List (ℕ × ToCache)) (op : Op)
    → begins (block_row g c t w y ws rest op) ≡ false
block-none g c t w y ws rest op = grind arith

wake-none : (world : World) (g c t w : ℕ) (rest : List (ℕ × ToCache)) (op : Op) → begins (wake_row world g c t w rest op) ≡ false
wake-none world g c t w rest op = grind arith

word-none : (g c t w i n : ℕ) (rest : List (ℕ × ToCache)) (op : Op) → begins (word_row g c t w i n rest op) ≡ false
word-none g c t w i n rest op = grind arith

stored-none : (g c t w i : ℕ) (rest : List (ℕ × ToCache)) (op : Op) → begins (stored_row g c t w i rest op) ≡ false
stored-none g c t w i rest op = grind arith

evicted-none : (g c t w : ℕ) (rest : List (ℕ × ToCache)) (op : Op) → begins (evicted_row g c t w rest op) ≡ false
evicted-none g c t w rest op = grind arith

fill-none : (g c o : ℕ) (m : FillMessage) (rest : List (ℕ × FillMessage)) (op : Op) → begins (fill_row g c o m rest op) ≡ false
fill-none g c o m rest op = grind arith

way-none : (o : Option ℕ) (f : ℕ → Option (ℕ × MachineStep)) → ((w : ℕ) → begins (f w) ≡ false)
    → begins (at_way o f None) ≡ false
way-none None f e = refl
way-none (Some w) f e = e w

if-none : (b : Bool) (o p : Option (ℕ × MachineStep)) → begins o ≡ false → begins p ≡ false
    → begins (if b then o else p) ≡ false
if-none true o p i j = i
if-none false o p i j = j

busy-none : (g : ℕ) (o : Option (ℕ × InProgress)) (f : InProgress → Option (ℕ × MachineStep))
    → ((b : InProgress) → begins (f b) ≡ false) → begins (for_busy g o f) ≡ false
busy-none g None f e = refl
busy-none g (Some b) f e = if-none (b.0 == g) (f b.1) None (e b.1) refl

row-none : (ways : ℕ) (world : World) (c g : ℕ) (rest : List (ℕ × ToCache)) (m : ToCache)
    → begins (command_row ways world c g rest m) ≡ false
row-none ways world c g rest (Inv t) = refl
row-none ways world c g rest (StWb t y) =
    way-none (found_way ways (world.entries g c) t) (λ w. Some (g, FlushComes c w t y rest)) (λ w. refl)
row-none ways world c g rest (StTr t y peer u z) =
    way-none (found_way ways (world.entries g c) t) (λ w. if peer == c then None else Some (g, TransferComes c w t y peer u z rest))
    (λ w. if-none (peer == c) None (Some (g, TransferComes c w t y peer u z rest)) refl refl)
row-none ways world c g rest (Blk t w y ws) =
    busy-none g (world.busy c) _ (λ b. if-none (b.way == w) _ None (block-none g c t w y ws rest b.op) refl)
row-none ways world c g rest (StWake t w) =
    busy-none g (world.busy c) _ (λ b. if-none (b.way == w) _ None (wake-none world g c t w rest b.op) refl)
row-none ways world c g rest (UcBlk t i n) = busy-none g (world.busy c) _ (λ b. word-none g c t b.way i n rest b.op)
row-none ways world c g rest (UcDone t i) = busy-none g (world.busy c) _ (λ b. stored-none g c t b.way i rest b.op)
row-none ways world c g rest (EvictDone t) = busy-none g (world.busy c) _ (λ b. evicted-none g c t b.way rest b.op)

command-none : (ways : ℕ) (world : World) (c : ℕ) (ms : List (ℕ × ToCache)) → begins (step_of_command ways world c ms) ≡ false
command-none ways world c [] = refl
command-none ways world c (m ∷ rest) = row-none ways world c m.0 rest m.1

filled-none : (world : World) (c o : ℕ) (ms : List (ℕ × FillMessage)) → begins (step_of_fill world c o ms) ≡ false
filled-none world c o [] = refl
filled-none world c o (m ∷ rest) =
    busy-none m.0 (world.busy c) _ (λ b. if-none (b.way == m.1.way) _ None (fill-none m.0 c o m.1 rest b.op) refl)

memory-none : (ms : List (ℕ × ToMemory)) → begins (step_of_memory ms) ≡ false
memory-none [] = refl
memory-none ((g, Read t) ∷ rest) = refl
memory-none ((g, Write t ws) ∷ rest) = refl
memory-none ((g, WriteWord t i f) ∷ rest) = refl

-- EVENTS

module _ (k : Shape) (world : World) (ranges : Ranges k world) (inside : Inside k world) where
  -- a step that begins no operation takes a message
  taken : (o : Option (ℕ × MachineStep)) → IfFits k world o → begins o ≡ false → is_some o ≡ true
      → TakesMessage k world (option_step_after world o)
  taken None fits e some = absurd (cc)
  taken (Some (g, LoadHits c t w spot)) fits e some = absurd (cc)
  taken (Some (g, StoreHits c t w j f)) fits e some = absurd (cc)
  taken (Some (g, Asks c w op)) fits e some = absurd (cc)
  taken (Some (g, EvictIdles c t)) fits e some = absurd (cc)
  taken (Some (g, a)) fits e some = does k world inside g a fits

  pub command-takes : (c : ℕ) → is_some (step_of k world (Command c)) ≡ true
      → TakesMessage k world (event_after k world (Command c))
  command-takes c =
      taken (step_of k world (Command c)) (event_fits k world ranges (Command c))
      (if-none (nat_lt c k.caches) _ None (command-none k.ways world c (world.command c)) refl)

  pub fill-takes : (c o : ℕ) → is_some (step_of k world (Fill c o)) ≡ true → TakesMessage k world (event_after k world (Fill c o))
  fill-takes c o =
      taken (step_of k world (Fill c o)) (event_fits k world ranges (Fill c o))
      (if-none (nat_lt c k.caches && nat_lt o k.caches) _ None (filled-none world c o (world.fill c o)) refl)

  pub memory-takes : is_some (step_of k world Memory) ≡ true → TakesMessage k world (event_after k world Memory)
  memory-takes = taken (step_of k world Memory) (event_fits k world ranges Memory) (memory-none world.memout)

  -- no step adds more than an operation
  few : (g : ℕ) (a : MachineStep) → TakesMessage k world (step_after g a world) → Begins k world (step_after g a world)
  few g a takes = record {
    heads = heads (heads_of k (step_after g a world)) (heads_of k world) (k.caches + 7) takes.heads;
    messages = messages (messages_of k (step_after g a world)) (messages_of k world) (2 * k.caches + 13) takes.messages;
  }
    where
      heads : (a b c : ℕ) → a ≤ b → a ≤ b + c
      heads a b c l = omega (arith, l)

      messages : (a b c : ℕ) → a + 1 ≤ b → a ≤ b + c
      messages a b c l = omega (arith, l)

  begun : (g : ℕ) (a : MachineStep) → Does k world inside g a → Begins k world (step_after g a world)
  begun g (LoadHits c t w spot) d = d
  begun g (StoreHits c t w j f) d = d
  begun g (Asks c w op) d = d
  begun g (EvictIdles c t) d = d
  begun g a d = few g a d

  pub issue-begins : (c g : ℕ) (op : Op) (way : ℕ) → Begins k world (event_after k world (Issue c g op way))
  issue-begins c g op way = go (step_of k world (Issue c g op way)) (event_fits k world ranges (Issue c g op way))
    where
      no-more : (a b : ℕ) → a ≤ a + b
      no-more a b = omega arith

      go : (o : Option (ℕ × MachineStep)) → IfFits k world o → Begins k world (option_step_after world o)
      go None fits = record {
        heads = no-more (heads_of k world) (k.caches + 7);
        messages = no-more (messages_of k world) (2 * k.caches + 13);
      }
      go (Some a) fits = begun a.0 a.1 (does k world inside a.0 a.1 fits)
