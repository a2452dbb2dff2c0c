-- The actions of the caches and the memory keep every group good.
use Rattle.std.proofs.Common.{◌≡◌, ℕ, true, false, subst, List, [], ◌∷◌, ◌++◌, inl, inr}
use Rattle.std.specs.Prelude.{Some, None}
use Rattle.bk_base.specs.declared.coh.Coh.{Coh}
use Rattle.bk_machine.specs.Entries.{Entry, Holds}
use Rattle.bk_machine.specs.Messages.{Spot, Op, Load, Store, UcLoad, UcStore, Evict, ToCache, Inv, StWb, StTr, Blk, StWake, UcBlk, UcDone, EvictDone, FillMessage, InvAck, ToMemory, Read, Write, WriteWord}
use Rattle.bk_machine.specs.Words.{write_block, write_word}
use Rattle.bk_machine.specs.Copies.{OneWay}
use Rattle.bk_machine.specs.Invariant.{WaitingCopies}
use Rattle.bk_machine.specs.World.{World, of_group, view}
use Rattle.bk_machine.specs.Steps.{step_after, LoadHits, StoreHits, Asks, EvictIdles, InvComes, FlushComes, TransferComes, BlockLoads, BlockStores, WakeStores, WordComes, StoreComes, EvictComes, FillLoads, FillStores, MemoryReads, MemoryWrites, MemoryWritesWord}
use Rattle.bk_machine.proofs.Allowed.{AskFits}
use Rattle.bk_machine.proofs.View.{of_group-head, option_of_group-some, option_of_group-none}
use Rattle.bk_machine.proofs.Writes.{seen, pushed, left, pushed_other, left_other, some_is, none_is, from_none, to_none, entries-here, entries-other, words-here, words-other, memory-here, memory-other, request-here, request-other, command-here, command-other, response-here, response-other, fill-here, fill-other, busy-here, busy-other, memout-here, memout-other, memin-here, memin-other, history-here, history-other, way_first-seen}
use Rattle.bk_machine.specs.Invariant.{EveryGroup}
use Rattle.bk_machine.proofs.Keeps.{step}
use Rattle.bk_machine.proofs.Inv.{after_inv, inv_comes}
use Rattle.bk_machine.proofs.FlushComes.{after_flush, flush_comes}
use Rattle.bk_machine.proofs.TransferComes.{after_transfer, transfer_comes}
use Rattle.bk_machine.proofs.Issue.{completed, load_hits, evict_idles, asked, asked-good, store_hit, store_hits}
use Rattle.bk_machine.proofs.Wraps.{block_loads, block_stores, wake_stores, fill_loads, fill_stores, word_arrives, store_arrives, evict_arrives}
use Rattle.bk_machine.proofs.BlockComes.{take_command, take_fill}
use Rattle.bk_machine.proofs.Arrive.{loaded, stored}
use Rattle.bk_machine.proofs.Uncached.{finished}
use Rattle.bk_machine.proofs.MemoryComes.{read_comes, write_comes, write_word_comes}
use Rattle.bk_base.specs.States.{is_writable}

asks-placed : (op : Op) (w : ℕ) (h : ℕ → ℕ → Entry) (c : ℕ) → OneWay h → AskFits op w (h c) → WaitingCopies op w (h c)
asks-placed (Load t k) w h c one a = a
asks-placed (Store t k x) w h c one (inl a) =
    λ i l. (one t c i w l a.0, subst (λ (j : ℕ). is_writable (h c j).state ≡ false) (one t c w i a.0 l) a.1)
asks-placed (Store t k x) w h c one (inr a) = λ i l. absurd (a i l)
asks-placed (UcLoad t k) w h c one a = tt
asks-placed (UcStore t k x) w h c one a = tt
asks-placed (Evict t) w h c one a = tt

module _ (g : ℕ) (world : World) (all : EveryGroup world) where
  pub keeps_inv : (c t : ℕ) (rest : List (ℕ × ToCache)) → world.command c ≡ (g, Inv t) ∷ rest
      → EveryGroup (step_after g (InvComes c t rest) world)
  keeps_inv c t rest e = step g world _ (after_inv (view g world) c t (of_group g rest)) all
      (λ p good. inv_comes (view g world) c t (of_group g rest) p good (of_group-head g (world.command c) rest (Inv t) e))
      (response-here g c (pushed g (world.response c) (InvAck t)) (command-here g c (left g rest) (entries-here g _ (seen g world))))
      (λ u n. response-other u c (pushed_other u g (world.response c) (InvAck t) n)
      (command-other u c (left_other u g (world.command c) rest (Inv t) n e) (entries-other u g _ n (seen u world))))

  pub keeps_flush : (c w t : ℕ) (state : Coh) (rest : List (ℕ × ToCache)) → world.command c ≡ (g, StWb t state) ∷ rest
      → Holds (world.entries g c w) t
      → EveryGroup (step_after g (FlushComes c w t state rest) world)
  keeps_flush c w t state rest e j = step g world _ (after_flush (view g world) c w t state (of_group g rest)) all
      (λ p good. flush_comes (view g world) c w t state (of_group g rest) p good
      (of_group-head g (world.command c) rest (StWb t state) e) j)
      (response-here g c (pushed g (world.response c) _) (command-here g c (left g rest) (entries-here g _ (seen g world))))
      (λ u n. response-other u c (pushed_other u g (world.response c) _ n)
      (command-other u c (left_other u g (world.command c) rest (StWb t state) n e) (entries-other u g _ n (seen u world))))

  pub keeps_transfer : (c w t : ℕ) (y : Coh) (peer pv : ℕ) (state : Coh) (rest : List (ℕ × ToCache))
      → world.command c ≡ (g, StTr t y peer pv state) ∷ rest
      → Holds (world.entries g c w) t → EveryGroup (step_after g (TransferComes c w t y peer pv state rest) world)
  keeps_transfer c w t y peer pv state rest e j = step g world _ (after_transfer (view g world) c w t y peer pv state (of_group g rest)) all
      (λ p good. transfer_comes (view g world) c w t y peer pv state (of_group g rest) p good
      (of_group-head g (world.command c) rest (StTr t y peer pv state) e) j)
      (fill-here g peer c (pushed g (world.fill peer c) _) (command-here g c (left g rest) (entries-here g _ (seen g world))))
      (λ u n. fill-other u peer c (pushed_other u g (world.fill peer c) _ n)
      (command-other u c (left_other u g (world.command c) rest (StTr t y peer pv state) n e) (entries-other u g _ n (seen u world))))

  pub keeps_load_hit : (c t w : ℕ) (spot : Spot) → world.busy c ≡ None → Holds (world.entries g c w) t
      → EveryGroup (step_after g (LoadHits c t w spot) world)
  keeps_load_hit c t w spot e l = step g world _ (completed (view g world) c (Load t spot) (spot.of (world.words g c w spot.word))) all
      (λ p good. (p, load_hits p (view g world) good c t w spot l))
      (history-here g (pushed g world.history _) (way_first-seen g c w (seen g world)))
      (λ u n. history-other u (pushed_other u g world.history _ n) (way_first-seen g c w (seen u world)))

  pub keeps_store_hit : (c t w j : ℕ) (change : ℕ → ℕ) → world.busy c ≡ None → Holds (world.entries g c w) t
      → is_writable (world.entries g c w).state ≡ true
      → EveryGroup (step_after g (StoreHits c t w j change) world)
  keeps_store_hit c t w j change e l number = step g world _ (store_hit (view g world) c t w j change) all
      (λ p good. (p, store_hits p (view g world) c t w j change good (option_of_group-none g (world.busy c) e) l number))
      (history-here g (pushed g world.history _) (words-here g _ (entries-here g _ (way_first-seen g c w (seen g world)))))
      (λ u n. history-other u (pushed_other u g world.history _ n)
      (words-other u g _ n (entries-other u g _ n (way_first-seen g c w (seen u world)))))

  pub keeps_ask : (c w : ℕ) (op : Op) → world.busy c ≡ None → AskFits op w (world.entries g c)
      → EveryGroup (step_after g (Asks c w op) world)
  keeps_ask c w op e a = step g world _ (asked (view g world) c op w) all
      (λ p good. (
        p,
        asked-good p (view g world) c w op good (option_of_group-none g (world.busy c) e)
            (asks-placed op w (world.entries g) c good.copies.real_way a),
      ))
      (request-here g c (pushed g (world.request c) _) (busy-here g c (some_is g _) (seen g world)))
      (λ u n. request-other u c (pushed_other u g (world.request c) _ n)
      (busy-other u c (from_none u g _ (world.busy c) n e) (seen u world)))

  pub keeps_evict_idle : (c t : ℕ) → EveryGroup (step_after g (EvictIdles c t) world)
  keeps_evict_idle c t = step g world _ (completed (view g world) c (Evict t) 0) all
      (λ p good. (p, evict_idles p (view g world) good c t))
      (history-here g (pushed g world.history _) (seen g world))
      (λ u n. history-other u (pushed_other u g world.history _ n) (seen u world))

  pub keeps_block_load : (c t w : ℕ) (spot : Spot) (state : Coh) (ws : ℕ → ℕ) (rest : List (ℕ × ToCache))
      → world.command c ≡ (g, Blk t w state ws) ∷ rest
      → world.busy c ≡ Some (g, record { op = Load t spot; way = w })
      → EveryGroup (step_after g (BlockLoads c t w spot state ws rest) world)
  keeps_block_load c t w spot state ws rest e f =
      step g world _ (take_command (loaded (view g world) c t w state ws spot) c (of_group g rest)) all
      (λ p good. block_loads (view g world) c t w p good spot state ws (of_group g rest) (of_group-head g (world.command c) rest _ e)
      (option_of_group-some g (world.busy c) _ f))
      (command-here g c (left g rest)
      (history-here g (pushed g world.history _)
      (response-here g c (pushed g (world.response c) _)
      (busy-here g c (none_is g) (words-here g _ (entries-here g _ (way_first-seen g c w (seen g world))))))))
      (λ u n. command-other u c (left_other u g (world.command c) rest _ n e)
      (history-other u (pushed_other u g world.history _ n)
      (response-other u c (pushed_other u g (world.response c) _ n)
      (busy-other u c (to_none u g _ (world.busy c) n f)
      (words-other u g _ n (entries-other u g _ n (way_first-seen g c w (seen u world))))))))

  pub keeps_block_store : (c t w j : ℕ) (change : ℕ → ℕ) (state : Coh) (ws : ℕ → ℕ) (rest : List (ℕ × ToCache))
      → world.command c ≡ (g, Blk t w state ws) ∷ rest
      → world.busy c ≡ Some (g, record { op = Store t j change; way = w }) → is_writable state ≡ true
      → EveryGroup (step_after g (BlockStores c t w j change state ws rest) world)
  keeps_block_store c t w j change state ws rest e f y =
      step g world _ (take_command (stored (view g world) c t w ws j change) c (of_group g rest)) all
      (λ p good. block_stores (view g world) c t w p good j change state ws (of_group g rest) (of_group-head g (world.command c) rest _ e)
      (option_of_group-some g (world.busy c) _ f) y)
      (command-here g c (left g rest)
      (history-here g (pushed g world.history _)
      (response-here g c (pushed g (world.response c) _)
      (busy-here g c (none_is g) (words-here g _ (entries-here g _ (way_first-seen g c w (seen g world))))))))
      (λ u n. command-other u c (left_other u g (world.command c) rest _ n e)
      (history-other u (pushed_other u g world.history _ n)
      (response-other u c (pushed_other u g (world.response c) _ n)
      (busy-other u c (to_none u g _ (world.busy c) n f)
      (words-other u g _ n (entries-other u g _ n (way_first-seen g c w (seen u world))))))))

  pub keeps_wake : (c t w j : ℕ) (change : ℕ → ℕ) (rest : List (ℕ × ToCache)) → world.command c ≡ (g, StWake t w) ∷ rest
      → world.busy c ≡ Some (g, record { op = Store t j change; way = w })
      → EveryGroup (step_after g (WakeStores c t w j change rest) world)
  keeps_wake c t w j change rest e f =
      step g world _ (take_command (stored (view g world) c t w (world.words g c w) j change) c (of_group g rest)) all
      (λ p good. wake_stores (view g world) c t w p good j change (of_group g rest) (of_group-head g (world.command c) rest _ e)
      (option_of_group-some g (world.busy c) _ f))
      (command-here g c (left g rest)
      (history-here g (pushed g world.history _)
      (response-here g c (pushed g (world.response c) _)
      (busy-here g c (none_is g) (words-here g _ (entries-here g _ (way_first-seen g c w (seen g world))))))))
      (λ u n. command-other u c (left_other u g (world.command c) rest _ n e)
      (history-other u (pushed_other u g world.history _ n)
      (response-other u c (pushed_other u g (world.response c) _ n)
      (busy-other u c (to_none u g _ (world.busy c) n f)
      (words-other u g _ n (entries-other u g _ n (way_first-seen g c w (seen u world))))))))

  pub keeps_word : (c t w : ℕ) (spot : Spot) (number : ℕ) (rest : List (ℕ × ToCache)) → world.command c
      ≡ (g, UcBlk t spot.word number) ∷ rest
      → world.busy c ≡ Some (g, record { op = UcLoad t spot; way = w })
      → EveryGroup (step_after g (WordComes c t w spot number rest) world)
  keeps_word c t w spot number rest e f = step g world _ (finished (view g world) c t (UcLoad t spot) (spot.of number)
      (of_group g rest)) all
      (λ p good. word_arrives (view g world) c t w p good spot number (of_group g rest) (of_group-head g (world.command c) rest _ e)
      (option_of_group-some g (world.busy c) _ f))
      (command-here g c (left g rest)
      (history-here g (pushed g world.history _)
      (response-here g c (pushed g (world.response c) _) (busy-here g c (none_is g) (seen g world)))))
      (λ u n. command-other u c (left_other u g (world.command c) rest _ n e)
      (history-other u (pushed_other u g world.history _ n)
      (response-other u c (pushed_other u g (world.response c) _ n) (busy-other u c (to_none u g _ (world.busy c) n f) (seen u world)))))

  pub keeps_store : (c t w j : ℕ) (change : ℕ → ℕ) (rest : List (ℕ × ToCache)) → world.command c ≡ (g, UcDone t j) ∷ rest
      → world.busy c ≡ Some (g, record { op = UcStore t j change; way = w })
      → EveryGroup (step_after g (StoreComes c t w j change rest) world)
  keeps_store c t w j change rest e f = step g world _ (finished (view g world) c t (UcStore t j change) 0 (of_group g rest)) all
      (λ p good. store_arrives (view g world) c t w p good j change (of_group g rest) (of_group-head g (world.command c) rest _ e)
      (option_of_group-some g (world.busy c) _ f))
      (command-here g c (left g rest)
      (history-here g (pushed g world.history _)
      (response-here g c (pushed g (world.response c) _) (busy-here g c (none_is g) (seen g world)))))
      (λ u n. command-other u c (left_other u g (world.command c) rest _ n e)
      (history-other u (pushed_other u g world.history _ n)
      (response-other u c (pushed_other u g (world.response c) _ n) (busy-other u c (to_none u g _ (world.busy c) n f) (seen u world)))))

  pub keeps_evict : (c t w : ℕ) (rest : List (ℕ × ToCache)) → world.command c ≡ (g, EvictDone t) ∷ rest
      → world.busy c ≡ Some (g, record { op = Evict t; way = w })
      → EveryGroup (step_after g (EvictComes c t w rest) world)
  keeps_evict c t w rest e f = step g world _ (finished (view g world) c t (Evict t) 0 (of_group g rest)) all
      (λ p good. evict_arrives (view g world) c t w p good (of_group g rest) (of_group-head g (world.command c) rest _ e)
      (option_of_group-some g (world.busy c) _ f))
      (command-here g c (left g rest)
      (history-here g (pushed g world.history _)
      (response-here g c (pushed g (world.response c) _) (busy-here g c (none_is g) (seen g world)))))
      (λ u n. command-other u c (left_other u g (world.command c) rest _ n e)
      (history-other u (pushed_other u g world.history _ n)
      (response-other u c (pushed_other u g (world.response c) _ n) (busy-other u c (to_none u g _ (world.busy c) n f) (seen u world)))))

  pub keeps_fill_load : (c o t w : ℕ) (spot : Spot) (state : Coh) (ws : ℕ → ℕ) (rest : List (ℕ × FillMessage))
      → world.fill c o ≡ (g, record { tag = t; way = w; state = state; words = ws }) ∷ rest
      → world.busy c ≡ Some (g, record { op = Load t spot; way = w })
      → EveryGroup (step_after g (FillLoads c o t w spot state ws rest) world)
  keeps_fill_load c o t w spot state ws rest e f =
      step g world _ (take_fill (loaded (view g world) c t w state ws spot) c o (of_group g rest)) all
      (λ p good. fill_loads (view g world) c t w p good spot o state ws (of_group g rest) (of_group-head g (world.fill c o) rest _ e)
      (option_of_group-some g (world.busy c) _ f))
      (fill-here g c o (left g rest)
      (history-here g (pushed g world.history _)
      (response-here g c (pushed g (world.response c) _)
      (busy-here g c (none_is g) (words-here g _ (entries-here g _ (way_first-seen g c w (seen g world))))))))
      (λ u n. fill-other u c o (left_other u g (world.fill c o) rest _ n e)
      (history-other u (pushed_other u g world.history _ n)
      (response-other u c (pushed_other u g (world.response c) _ n)
      (busy-other u c (to_none u g _ (world.busy c) n f)
      (words-other u g _ n (entries-other u g _ n (way_first-seen g c w (seen u world))))))))

  pub keeps_fill_store : (c o t w j : ℕ) (change : ℕ → ℕ) (state : Coh) (ws : ℕ → ℕ) (rest : List (ℕ × FillMessage))
      → world.fill c o ≡ (g, record { tag = t; way = w; state = state; words = ws }) ∷ rest
      → world.busy c ≡ Some (g, record { op = Store t j change; way = w })
      → is_writable state ≡ true → EveryGroup (step_after g (FillStores c o t w j change state ws rest) world)
  keeps_fill_store c o t w j change state ws rest e f y =
      step g world _ (take_fill (stored (view g world) c t w ws j change) c o (of_group g rest)) all
      (λ p good. fill_stores (view g world) c t w p good j change o state ws (of_group g rest) (of_group-head g (world.fill c o) rest _ e)
      (option_of_group-some g (world.busy c) _ f) y)
      (fill-here g c o (left g rest)
      (history-here g (pushed g world.history _)
      (response-here g c (pushed g (world.response c) _)
      (busy-here g c (none_is g) (words-here g _ (entries-here g _ (way_first-seen g c w (seen g world))))))))
      (λ u n. fill-other u c o (left_other u g (world.fill c o) rest _ n e)
      (history-other u (pushed_other u g world.history _ n)
      (response-other u c (pushed_other u g (world.response c) _ n)
      (busy-other u c (to_none u g _ (world.busy c) n f)
      (words-other u g _ n (entries-other u g _ n (way_first-seen g c w (seen u world))))))))

  pub keeps_read : (t : ℕ) (rest : List (ℕ × ToMemory)) → world.memout ≡ (g, Read t) ∷ rest
      → EveryGroup (step_after g (MemoryReads t rest) world)
  keeps_read t rest e =
      step g world _ (record (view g world) {
        memout = of_group g rest;
        memin = of_group g world.memin ++ record { tag = t; words = world.memory g t } ∷ [];
      }) all
      (λ p good. (p, read_comes p (view g world) good t (of_group g rest) (of_group-head g world.memout rest (Read t) e)))
      (memin-here g (pushed g world.memin _) (memout-here g (left g rest) (seen g world)))
      (λ u n. memin-other u (pushed_other u g world.memin _ n)
      (memout-other u (left_other u g world.memout rest (Read t) n e) (seen u world)))

  pub keeps_write : (t : ℕ) (ws : ℕ → ℕ) (rest : List (ℕ × ToMemory)) → world.memout ≡ (g, Write t ws) ∷ rest
      → EveryGroup (step_after g (MemoryWrites t ws rest) world)
  keeps_write t ws rest e =
      step g world _ (record (view g world) { memout = of_group g rest; memory = write_block (world.memory g) t ws }) all
      (λ p good. (p, write_comes p (view g world) good t ws (of_group g rest) (of_group-head g world.memout rest (Write t ws) e)))
      (memory-here g _ (memout-here g (left g rest) (seen g world)))
      (λ u n. memory-other u g _ n (memout-other u (left_other u g world.memout rest (Write t ws) n e) (seen u world)))

  pub keeps_write_word : (t j : ℕ) (change : ℕ → ℕ) (rest : List (ℕ × ToMemory)) → world.memout ≡ (g, WriteWord t j change)
      ∷ rest
      → EveryGroup (step_after g (MemoryWritesWord t j change rest) world)
  keeps_write_word t j change rest e =
      step g world _ (record (view g world) { memout = of_group g rest; memory = write_word (world.memory g) t j change }) all
      (λ p good. (
        p,
        write_word_comes p (view g world) good t j change (of_group g rest)
            (of_group-head g world.memout rest (WriteWord t j change) e),
      ))
      (memory-here g _ (memout-here g (left g rest) (seen g world)))
      (λ u n. memory-other u g _ n (memout-other u (left_other u g world.memout rest (WriteWord t j change) n e) (seen u world)))
