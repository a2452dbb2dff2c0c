-- What is held and in progress stays at caches and ways of the configuration.
use Rattle.std.proofs.Common.{◌≡◌, ℕ, ◌<◌, Bool, true, false, refl, arith, subst}
use Rattle.std.specs.Prelude.{Option, Some, None, if◌then◌else◌, ◌==◌}
use Rattle.std.proofs.lemmas.Bool.Decides.{nat_tests}
use Rattle.bk_base.specs.Places.{Shape}
use Rattle.bk_base.specs.Tables.{put}
use Rattle.bk_base.specs.declared.coh.Coh.{Coh}
use Rattle.bk_base.specs.declared.coh.Coh.TheVariants.{M}
use Rattle.bk_machine.specs.Tables.{put2}
use Rattle.bk_machine.specs.Entries.{Entry, Holds, with_state, wiped_in_cache}
use Rattle.bk_machine.specs.Transactions.{InProgress}
use Rattle.bk_machine.specs.World.{World}
use Rattle.bk_machine.specs.Steps.{MachineStep, step_after, LoadHits, StoreHits, Asks, EvictIdles, InvComes, FlushComes, TransferComes, BlockLoads, BlockStores, WakeStores, WordComes, StoreComes, EvictComes, FillLoads, FillStores, MemoryReads, MemoryWrites, MemoryWritesWord}
use Rattle.bk_machine.specs.Actions.{Action, action_after, Takes, Settles, CollectsAck, CollectsAnswer, CollectsBlock, Invalidates, FlushesVictim, FlushesOwn, FlushesOwner, WritesBack, ReadsMemory, WritesWord, GrantsByBlock, GrantsByWake, GrantsByTransfer, AnswersWord, AnswersStore, AnswersEvict, PaysRequester, PaysOwner, Finishes, Idles}
use Rattle.bk_machine.specs.Invariant.{WayInRange, Ranges}
use Rattle.bk_machine.proofs.Allowed.{StepFits}
use Rattle.bk_machine.proofs.Fewer.{wipe-fewer}

put-within : (shape : Shape) (g : ℕ) (entries : ℕ → ℕ → ℕ → Entry) (h : ℕ → ℕ → Entry)
    → ((u c w t : ℕ) → Holds (entries u c w) t → WayInRange shape c w)
    → ((c w t : ℕ) → Holds (h c w) t → WayInRange shape c w) → (u c w t : ℕ) → Holds (put entries g h u c w) t
    → WayInRange shape c w
unfolding put
put-within shape s entries h old new u c v t k = decide (u == s) k
  where
    decide : (b : Bool) → Holds ((if b then h else entries u) c v) t → WayInRange shape c v
    decide true k = new c v t k
    decide false k = old u c v t k

entry-within : (shape : Shape) (c w : ℕ) (h : ℕ → ℕ → Entry) (x : Entry)
    → ((c w t : ℕ) → Holds (h c w) t → WayInRange shape c w)
    → WayInRange shape c w
    → (i j t : ℕ) → Holds (put2 h c w x i j) t → WayInRange shape i j
unfolding put2
entry-within shape c v h x old l i j t k = record {
  cache = lem (λ l. (old i j t l).cache) l.cache;
  way = lew (λ l. (old i j t l).way) l.way;
}
  where
    lem : (Holds (h i j) t → i < shape.caches) → c < shape.caches → i < shape.caches
    lem f l = grind (arith, nat_tests)

    lew : (Holds (h i j) t → j < shape.ways) → v < shape.ways → j < shape.ways
    lew f l = grind (arith, nat_tests)

abbrev BusyWithin : Shape → (ℕ → Option (ℕ × InProgress)) → Type 0
BusyWithin shape busy = (c : ℕ) (x : ℕ × InProgress) → busy c ≡ Some x → WayInRange shape c x.1.way

busy-gone : (shape : Shape) (c : ℕ) (busy : ℕ → Option (ℕ × InProgress)) → BusyWithin shape busy
    → BusyWithin shape (put busy c None)
unfolding put
busy-gone shape c busy old i x e = decide (i == c) e
  where
    decide : (b : Bool) → (if b then None else busy i) ≡ Some x → WayInRange shape i x.1.way
    decide true e = absurd (cc e)
    decide false e = old i x e

busy-put : (shape : Shape) (c : ℕ) (busy : ℕ → Option (ℕ × InProgress)) (y : ℕ × InProgress) → BusyWithin shape busy
    → WayInRange shape c y.1.way
    → BusyWithin shape (put busy c (Some y))
unfolding put
busy-put shape c busy y old l i x e = decide (i == c) refl e
  where
    same : Some y ≡ Some x → y ≡ x
    same e = cc

    is : (i == c) ≡ true → c ≡ i
    is q = grind (arith, nat_tests)

    decide : (b : Bool) → (i == c) ≡ b → (if b then Some y else busy i) ≡ Some x → WayInRange shape i x.1.way
    decide true q e = subst (λ (j : ℕ). WayInRange shape j x.1.way) (is q)
        (subst (λ (z : ℕ × InProgress). WayInRange shape c z.1.way) (same e) l)
    decide false q e = old i x e

module _ (shape : Shape) (world : World) (old : Ranges shape world) where
  weaker : (g c w t : ℕ) (state : Coh) → Holds (world.entries g c w) t → (i j u : ℕ)
      → Holds (put2 (world.entries g) c w (with_state (world.entries g c w) state) i j) u → WayInRange shape i j
  weaker g c w t state l = entry-within shape c w (world.entries g) _ (old.entries g) (old.entries g c w t l)

  dropped : (g c t : ℕ) → (i j u : ℕ) → Holds (wiped_in_cache c t (world.entries g) i j) u → WayInRange shape i j
  dropped g c t i j u l = old.entries g i j u ((wipe-fewer c t (world.entries g)).holds i j u l)

  entered : (g c w t : ℕ) (state : Coh) (b : ℕ × InProgress) → world.busy c ≡ Some b → b.1.way ≡ w → (i j u : ℕ)
      → Holds (put2 (world.entries g) c w (record { tag = t; state = state }) i j) u → WayInRange shape i j
  entered g c w t state b e f =
      entry-within shape c w (world.entries g) _ (old.entries g) (subst (λ (y : ℕ). WayInRange shape c y) f (old.busy c b e))

-- each step keeps the ranges, and each action, which touches neither
pub step_within : (shape : Shape) (g : ℕ) (a : MachineStep) (world : World) → StepFits shape g a world → Ranges shape world
    → Ranges shape (step_after g a world)
step_within shape g (LoadHits c t v k) world a old = record { entries = old.entries; busy = old.busy }
step_within shape g (StoreHits c t v k n) world a old =
    record { entries = put-within shape g world.entries _ old.entries (weaker shape world old g c v t M a.1); busy = old.busy }
step_within shape g (Asks c v op) world a old = record { entries = old.entries; busy = busy-put shape c world.busy _ old.busy a.2 }
step_within shape g (EvictIdles c t) world a old = record { entries = old.entries; busy = old.busy }
step_within shape g (InvComes c t rest) world a old =
    record { entries = put-within shape g world.entries _ old.entries (dropped shape world old g c t); busy = old.busy }
step_within shape g (FlushComes c v t x rest) world a old =
    record { entries = put-within shape g world.entries _ old.entries (weaker shape world old g c v t x a.1); busy = old.busy }
step_within shape g (TransferComes c v t y peer pv x rest) world a old =
    record { entries = put-within shape g world.entries _ old.entries (weaker shape world old g c v t y a.1); busy = old.busy }
step_within shape g (BlockLoads c t v k x ws rest) world a old =
    record {
      entries = put-within shape g world.entries _ old.entries (entered shape world old g c v t x _ a.1 refl);
      busy = busy-gone shape c world.busy old.busy;
    }
step_within shape g (BlockStores c t v k n x ws rest) world a old =
    record {
      entries = put-within shape g world.entries _ old.entries (entered shape world old g c v t M _ a.1 refl);
      busy = busy-gone shape c world.busy old.busy;
    }
step_within shape g (WakeStores c t v k n rest) world a old =
    record {
      entries = put-within shape g world.entries _ old.entries (entered shape world old g c v t M _ a.1 refl);
      busy = busy-gone shape c world.busy old.busy;
    }
step_within shape g (WordComes c t v k n rest) world a old = record { entries = old.entries; busy = busy-gone shape c world.busy old.busy }
step_within shape g (StoreComes c t v k n rest) world a old = record { entries = old.entries; busy = busy-gone shape c world.busy old.busy }
step_within shape g (EvictComes c t v rest) world a old = record { entries = old.entries; busy = busy-gone shape c world.busy old.busy }
step_within shape g (FillLoads c o t v k x ws rest) world a old =
    record {
      entries = put-within shape g world.entries _ old.entries (entered shape world old g c v t x _ a.1 refl);
      busy = busy-gone shape c world.busy old.busy;
    }
step_within shape g (FillStores c o t v k n x ws rest) world a old =
    record {
      entries = put-within shape g world.entries _ old.entries (entered shape world old g c v t M _ a.1 refl);
      busy = busy-gone shape c world.busy old.busy;
    }
step_within shape g (MemoryReads t rest) world a old = record { entries = old.entries; busy = old.busy }
step_within shape g (MemoryWrites t ws rest) world a old = record { entries = old.entries; busy = old.busy }
step_within shape g (MemoryWritesWord t k n rest) world a old = record { entries = old.entries; busy = old.busy }

-- no action changes a cache's entry or an operation in progress
pub action_within : (shape : Shape) (g : ℕ) (a : Action) (world : World) → Ranges shape world → Ranges shape (action_after g a world)
action_within shape g (Takes c q rest) world old = record { entries = old.entries; busy = old.busy }
action_within shape g (Settles c t rest) world old = record { entries = old.entries; busy = old.busy }
action_within shape g (CollectsAck c t rest x) world old = record { entries = old.entries; busy = old.busy }
action_within shape g (CollectsAnswer c t ws rest x) world old = record { entries = old.entries; busy = old.busy }
action_within shape g (CollectsBlock t ws rest x) world old = record { entries = old.entries; busy = old.busy }
action_within shape g (Invalidates f to x) world old = record { entries = old.entries; busy = old.busy }
action_within shape g (FlushesVictim x) world old = record { entries = old.entries; busy = old.busy }
action_within shape g (FlushesOwn v y x) world old = record { entries = old.entries; busy = old.busy }
action_within shape g (FlushesOwner o v y x) world old = record { entries = old.entries; busy = old.busy }
action_within shape g (WritesBack b x) world old = record { entries = old.entries; busy = old.busy }
action_within shape g (ReadsMemory x) world old = record { entries = old.entries; busy = old.busy }
action_within shape g (WritesWord t k n x) world old = record { entries = old.entries; busy = old.busy }
action_within shape g (GrantsByBlock ws y x) world old = record { entries = old.entries; busy = old.busy }
action_within shape g (GrantsByWake t v x) world old = record { entries = old.entries; busy = old.busy }
action_within shape g (GrantsByTransfer o v y z x) world old = record { entries = old.entries; busy = old.busy }
action_within shape g (AnswersWord t k ws x) world old = record { entries = old.entries; busy = old.busy }
action_within shape g (AnswersStore t k n x) world old = record { entries = old.entries; busy = old.busy }
action_within shape g (AnswersEvict t v x) world old = record { entries = old.entries; busy = old.busy }
action_within shape g (PaysRequester d x) world old = record { entries = old.entries; busy = old.busy }
action_within shape g (PaysOwner d x) world old = record { entries = old.entries; busy = old.busy }
action_within shape g (Finishes x) world old = record { entries = old.entries; busy = old.busy }
action_within shape g Idles world old = old
