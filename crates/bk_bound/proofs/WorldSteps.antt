-- What an event of a cache or the memory takes of the messages: one. An Issue adds those of one operation; no other adds any.
use Rattle.std.proofs.Common.{◌≡◌, ℕ, suc, ◌+◌, ◌*◌, ◌≤◌, refl, ap, arith, List, ◌∷◌, length}
use Rattle.std.proofs.Math.Nat.{mul-le-mul_left}
use Rattle.bk_base.specs.Places.{Shape}
use Rattle.bk_base.specs.Tables.{put}
use Rattle.bk_machine.specs.Messages.{Op, ToCache, Inv, StWb, StTr, Blk, StWake, UcBlk, UcDone, EvictDone, FillMessage, ToMemory, Read, Write, WriteWord, Request, request_of}
use Rattle.bk_machine.specs.Steps.{MachineStep, LoadHits, StoreHits, Asks, EvictIdles, InvComes, FlushComes, TransferComes, BlockLoads, BlockStores, WakeStores, WordComes, StoreComes, EvictComes, FillLoads, FillStores, MemoryReads, MemoryWrites, MemoryWritesWord, step_after}
use Rattle.bk_machine.specs.Tables.{put2}
use Rattle.bk_machine.specs.World.{World}
use Rattle.bk_machine.proofs.Allowed.{StepFits}
use Rattle.bk_bound.proofs.Channels.{all_in, all_between, one-more, one-less, fill-more, fill-less}
use Rattle.bk_bound.proofs.Inside.{Inside}
use Rattle.bk_bound.proofs.WorldCounts.{waiting_requests, pending_groups, open_acks, open_holders, commands_under_way, fills_under_way, heads_of, messages_of}

-- a step takes a message, and is one of no head; or it begins an operation, or is of a cache alone
pub record TakesMessage (k : Shape) (world later : World) : Type 0 where
  pub heads : heads_of k later ≤ heads_of k world
  pub messages : messages_of k later + 1 ≤ messages_of k world

pub record Begins (k : Shape) (world later : World) : Type 0 where
  pub heads : heads_of k later ≤ heads_of k world + (k.caches + 7)
  pub messages : messages_of k later ≤ messages_of k world + (2 * k.caches + 13)

module _ (k : Shape) (world : World) (inside : Inside k world) where
  same : (later : World) → heads_of k later ≡ heads_of k world → heads_of k later ≤ heads_of k world
  same later e = num (heads_of k later) (heads_of k world) e
    where
      num : (a b : ℕ) → a ≡ b → a ≤ b
      num a b e = omega (arith, e)

  -- COMMANDS: one less, and a fill more at most
  comes : (c : ℕ) (y : ℕ × ToCache) (rest : List (ℕ × ToCache)) (later : World) → world.command c ≡ y ∷ rest
      → later.command ≡ put world.command c rest → fills_under_way k later ≤ fills_under_way k world + 1
      → later.memout ≡ world.memout → later.request ≡ world.request → open_holders k later ≡ open_holders k world
      → heads_of k later ≡ heads_of k world → TakesMessage k world later
  comes c y rest later e p q r u h heads = record {
    heads = same later heads;
    messages = num (commands_under_way k world) (fills_under_way k world) (length world.memout)
        ((2 * k.caches + 13) * waiting_requests k world) (open_holders k world) (commands_under_way k later)
        (all_in k.caches (put world.command c rest)) (fills_under_way k later) (length later.memout)
        ((2 * k.caches + 13) * waiting_requests k later) (open_holders k later)
        (one-less k.caches world.command c y rest e (inside.command c y rest e))
        (ap (λ (f : ℕ → List (ℕ × ToCache)). all_in k.caches f) p) q (ap (λ (xs : List (ℕ × ToMemory)). length xs) r)
        (ap (λ (f : ℕ → List (ℕ × Request)). (2 * k.caches + 13) * all_in k.caches f) u) h;
  }
    where
      num : (a b c d h i n j o u v : ℕ) → n + 1 ≡ a → i ≡ n → j ≤ b + 1 → o ≡ c → u ≡ d → v ≡ h
          → 2 * i + j + o + u + 2 * v + 1 ≤ 2 * a + b + c + d + 2 * h
      num a b c d h i n j o u v p q r e f g = omega (arith, p, q, r, e, f, g)

  more : (a : ℕ) → a ≤ a + 1
  more a = omega arith

  -- FILLS: one less
  fills : (c o : ℕ) (y : ℕ × FillMessage) (rest : List (ℕ × FillMessage)) (later : World) → world.fill c o ≡ y ∷ rest
      → later.command ≡ world.command → later.fill ≡ put2 world.fill c o rest → later.memout ≡ world.memout
      → later.request ≡ world.request → open_holders k later ≡ open_holders k world → heads_of k later ≡ heads_of k world
      → TakesMessage k world later
  fills c o y rest later e p q r u h heads = record {
    heads = same later heads;
    messages = num (commands_under_way k world) (fills_under_way k world) (length world.memout)
        ((2 * k.caches + 13) * waiting_requests k world) (open_holders k world) (commands_under_way k later) (fills_under_way k later)
        (all_between k.caches (put2 world.fill c o rest)) (length later.memout) ((2 * k.caches + 13) * waiting_requests k later)
        (open_holders k later) (ap (λ (f : ℕ → List (ℕ × ToCache)). all_in k.caches f) p)
        (ap (λ (f : ℕ → ℕ → List (ℕ × FillMessage)). all_between k.caches f) q)
        (let l = inside.fill c o y rest e in fill-less k.caches world.fill c o y rest e l.0 l.1)
        (ap (λ (xs : List (ℕ × ToMemory)). length xs) r)
        (ap (λ (f : ℕ → List (ℕ × Request)). (2 * k.caches + 13) * all_in k.caches f) u) h;
  }
    where
      num : (a b c d h i j n o u v : ℕ) → i ≡ a → j ≡ n → n + 1 ≡ b → o ≡ c → u ≡ d → v ≡ h
          → 2 * i + j + o + u + 2 * v + 1 ≤ 2 * a + b + c + d + 2 * h
      num a b c d h i j n o u v p q r e f g = omega (arith, p, q, r, e, f, g)

  -- MEMORY: one less
  accesses : (y : ℕ × ToMemory) (rest : List (ℕ × ToMemory)) (later : World) → world.memout ≡ y ∷ rest
      → later.command ≡ world.command → later.fill ≡ world.fill → later.memout ≡ rest → later.request ≡ world.request
      → open_holders k later ≡ open_holders k world → heads_of k later ≡ heads_of k world → TakesMessage k world later
  accesses y rest later e p q r u h heads = record {
    heads = same later heads;
    messages = num (commands_under_way k world) (fills_under_way k world) (length world.memout)
        ((2 * k.caches + 13) * waiting_requests k world) (open_holders k world) (commands_under_way k later) (fills_under_way k later)
        (length later.memout) ((2 * k.caches + 13) * waiting_requests k later) (open_holders k later) (length rest)
        (ap (λ (f : ℕ → List (ℕ × ToCache)). all_in k.caches f) p)
        (ap (λ (f : ℕ → ℕ → List (ℕ × FillMessage)). all_between k.caches f) q)
        (ap (λ (xs : List (ℕ × ToMemory)). length xs) r) (ap (λ (xs : List (ℕ × ToMemory)). length xs) e)
        (ap (λ (f : ℕ → List (ℕ × Request)). (2 * k.caches + 13) * all_in k.caches f) u) h;
  }
    where
      num : (a b c d h i j o u v n : ℕ) → i ≡ a → j ≡ b → o ≡ n → c ≡ suc n → u ≡ d → v ≡ h
          → 2 * i + j + o + u + 2 * v + 1 ≤ 2 * a + b + c + d + 2 * h
      num a b c d h i j o u v n p q r e f g = omega (arith, p, q, r, e, f, g)

  -- ISSUE: what a cache does by itself changes no channel; a request has the heads and messages of one operation
  unchanged : (later : World) → heads_of k later ≡ heads_of k world → messages_of k later ≡ messages_of k world
      → Begins k world later
  unchanged later p q = record {
    heads = num (heads_of k later) (heads_of k world) (k.caches + 7) p;
    messages = num (messages_of k later) (messages_of k world) (2 * k.caches + 13) q;
  }
    where
      num : (a b c : ℕ) → a ≡ b → a ≤ b + c
      num a b c e = omega (arith, e)

  asks : (g c w : ℕ) (op : Op) → Begins k world (step_after g (Asks c w op) world)
  asks g c w op = record {
    heads = heads ((k.caches + 7) * waiting_requests k later) ((k.caches + 7) * waiting_requests k world) (pending_groups k world)
        (open_acks k world) (k.caches + 7) (times-more (k.caches + 7) (waiting_requests k later) (waiting_requests k world) requests);
    messages = messages (2 * commands_under_way k world + fills_under_way k world + length world.memout)
        ((2 * k.caches + 13) * waiting_requests k later) ((2 * k.caches + 13) * waiting_requests k world) (open_holders k world)
        (2 * k.caches + 13) (times-more (2 * k.caches + 13) (waiting_requests k later) (waiting_requests k world) requests);
  }
    where
      later : World
      later = step_after g (Asks c w op) world

      requests : waiting_requests k later ≤ waiting_requests k world + 1
      requests = one-more k.caches world.request c (g, request_of op w)

      times-more : (n a b : ℕ) → a ≤ b + 1 → n * a ≤ n * b + n
      times-more n a b l = num (n * a) (n * (b + 1)) (n * b) (mul-le-mul_left n l) (spread n b)
        where
          spread : (n b : ℕ) → n * (b + 1) ≡ n * b + n
          spread n b = omega arith

          num : (i j o : ℕ) → i ≤ j → j ≡ o + n → i ≤ o + n
          num i j o l e = omega (arith, l, e)

      heads : (a b i j n : ℕ) → a ≤ b + n → a + 2 * i + j ≤ b + 2 * i + j + n
      heads a b i j n l = omega (arith, l)

      messages : (i a b j n : ℕ) → a ≤ b + n → i + a + 2 * j ≤ i + b + 2 * j + n
      messages i a b j n l = omega (arith, l)

  -- WHAT A STEP DOES, by what its row says
  abbrev pub Does : ℕ → MachineStep → Type 0
  Does g (LoadHits c t w spot) = Begins k world (step_after g (LoadHits c t w spot) world)
  Does g (StoreHits c t w j f) = Begins k world (step_after g (StoreHits c t w j f) world)
  Does g (Asks c w op) = Begins k world (step_after g (Asks c w op) world)
  Does g (EvictIdles c t) = Begins k world (step_after g (EvictIdles c t) world)
  Does g a = TakesMessage k world (step_after g a world)

  command : (g c : ℕ) (m : ToCache) (rest : List (ℕ × ToCache)) (a : MachineStep) → world.command c ≡ (g, m) ∷ rest
      → (step_after g a world).command ≡ put world.command c rest → (step_after g a world).fill ≡ world.fill
      → (step_after g a world).memout ≡ world.memout → (step_after g a world).request ≡ world.request
      → open_holders k (step_after g a world) ≡ open_holders k world → heads_of k (step_after g a world) ≡ heads_of k world
      → TakesMessage k world (step_after g a world)
  command g c m rest a e p q r u h heads =
      comes c (g, m) rest (step_after g a world) e p
      (num (fills_under_way k (step_after g a world)) (fills_under_way k world)
      (ap (λ (f : ℕ → ℕ → List (ℕ × FillMessage)). all_between k.caches f) q)) r u h heads
    where
      num : (a b : ℕ) → a ≡ b → a ≤ b + 1
      num a b e = omega (arith, e)

  pub does : (g : ℕ) (a : MachineStep) → StepFits k g a world → Does g a
  does g (LoadHits c t w spot) p = unchanged (step_after g (LoadHits c t w spot) world) refl refl
  does g (StoreHits c t w j f) p = unchanged (step_after g (StoreHits c t w j f) world) refl refl
  does g (Asks c w op) p = asks g c w op
  does g (EvictIdles c t) p = unchanged (step_after g (EvictIdles c t) world) refl refl
  does g (InvComes c t rest) p = command g c (Inv t) rest (InvComes c t rest) p refl refl refl refl refl refl
  does g (FlushComes c w t y rest) p = command g c (StWb t y) rest (FlushComes c w t y rest) p.0 refl refl refl refl refl refl
  does g (TransferComes c w t y peer u z rest) p =
      comes c (g, StTr t y peer u z) rest (step_after g (TransferComes c w t y peer u z rest) world) p.0 refl
      (fill-more k.caches world.fill peer c _) refl refl refl refl
  does g (BlockLoads c t w spot y ws rest) p =
      command g c (Blk t w y ws) rest (BlockLoads c t w spot y ws rest) p.0 refl refl refl refl refl refl
  does g (BlockStores c t w j f y ws rest) p =
      command g c (Blk t w y ws) rest (BlockStores c t w j f y ws rest) p.0 refl refl refl refl refl refl
  does g (WakeStores c t w j f rest) p = command g c (StWake t w) rest (WakeStores c t w j f rest) p.0 refl refl refl refl refl refl
  does g (WordComes c t w spot n rest) p = command g c (UcBlk t spot.word n) rest (WordComes c t w spot n rest) p.0 refl refl refl
      refl refl refl
  does g (StoreComes c t w j f rest) p = command g c (UcDone t j) rest (StoreComes c t w j f rest) p.0 refl refl refl refl refl refl
  does g (EvictComes c t w rest) p = command g c (EvictDone t) rest (EvictComes c t w rest) p.0 refl refl refl refl refl refl
  does g (FillLoads c o t w spot y ws rest) p =
      fills c o (g, record { tag = t; way = w; state = y; words = ws }) rest (step_after g (FillLoads c o t w spot y ws rest) world) p.0
      refl refl refl refl refl refl
  does g (FillStores c o t w j f y ws rest) p =
      fills c o (g, record { tag = t; way = w; state = y; words = ws }) rest (step_after g (FillStores c o t w j f y ws rest) world) p.0
      refl refl refl refl refl refl
  does g (MemoryReads t rest) p = accesses (g, Read t) rest (step_after g (MemoryReads t rest) world) p refl refl refl refl refl refl
  does g (MemoryWrites t ws rest) p =
      accesses (g, Write t ws) rest (step_after g (MemoryWrites t ws rest) world) p refl refl refl refl refl refl
  does g (MemoryWritesWord t j f rest) p =
      accesses (g, WriteWord t j f) rest (step_after g (MemoryWritesWord t j f rest) world) p refl refl refl refl refl refl
