-- The engine writes back, reads memory and writes a word.
use Rattle.std.proofs.Common.{◌≡◌, ℕ, Bool, true, false, ◌&&◌, ◌||◌, refl, arith, List, [], ◌∷◌, ◌++◌, sym, ◌∙◌, subst, ap}
use Rattle.std.specs.Prelude.{Some, if◌then◌else◌, ◌==◌}
use Rattle.std.proofs.lemmas.Bool.Decides.{nat_tests}
use Rattle.bk_base.specs.declared.coh.Coh.{Coh}
use Rattle.bk_machine.specs.Entries.{Holds, is_light}
use Rattle.bk_machine.specs.Messages.{Op, Load, Store, UcLoad, UcStore, Evict, Request, Rd, Wr, UcRd, UcWr, EvictRequest, Read, Write, WriteWord, MemoryBlock, op_tag, request_of, request_tag}
use Rattle.bk_machine.specs.Transactions.{InProgress, Idle, FlushKept, Reading, NotRead, ReadAsked, open_transaction}
use Rattle.bk_machine.specs.Phases.{Flush, NoFlush, FlushSent, FlushDone, Ack, NoInv, InvSent, InvAcked, Open, inv_effect}
use Rattle.bk_machine.specs.World.{GroupState}
use Rattle.bk_machine.specs.Words.{write_block, write_word, latest, effective}
use Rattle.bk_machine.specs.Copies.{Matches}
use Rattle.bk_machine.specs.Values.{AllLight, NoCopy, AtHome, request_at, WrittenValues, MemoryChannels}
use Rattle.bk_machine.specs.Invariant.{Good, flush_state, acks_due}
use Rattle.bk_machine.proofs.Growing.{effective-append, read_count-append, ReadsFor-append}
use Rattle.bk_machine.proofs.Settle.{Values-effective}
use Rattle.bk_machine.proofs.Send.{request-tag}
use Rattle.bk_base.specs.States.{is_dirty}

pub or_is_left : (b y : Bool) → b || y ≡ false → b ≡ false
or_is_left b y e = grind arith

pub no_inv_is : (a : Ack) → acks_due a ≡ 0 → a ≡ NoInv
no_inv_is a e = grind arith

module _ (part : GroupState) (r : ℕ) (b : InProgress) (block : MemoryBlock) (rd : Reading) (wr : Bool) (ws : List ℕ) (fl : Flush)
    (inv : ℕ → Ack)
    (good : Good (Open r b fl inv) (record part { transaction = Some (open_transaction r b (FlushKept block) rd wr ws) })) where
  back-state : flush_state fl Idle
  back-state = lem fl good.transaction.flush
    where
      lem : (fl : Flush) → flush_state fl (FlushKept block) → flush_state fl Idle
      lem NoFlush s = tt
      lem (FlushSent o w t test) s = absurd s
      lem (FlushDone o t ws) s = absurd s

  back-memory : (u j : ℕ) → AtHome (Open r b fl inv) (Some (open_transaction r b Idle rd wr ws)) part.entries u j
      → write_block (effective part.memory part.memout) block.tag block.words u j ≡ latest part.history u j
  back-memory u j home = lem (u == block.tag) refl
    where
      tag_is : (u == block.tag) ≡ true → u ≡ block.tag
      tag_is e = grind (arith, nat_tests)

      join : (test y : Bool) → test ≡ false → y ≡ false → test || y ≡ false
      join test y e f = grind arith

      lem : (y : Bool) → (u == block.tag) ≡ y → (if y then block.words j else effective part.memory part.memout u j)
          ≡ latest part.history u j
      lem true e = good.values.ungranted.kept.0 j ∙ ap (λ (t : ℕ). latest part.history t j) (sym (tag_is e))
      lem false e = good.values.memory u j (record {
        clean = home.clean;
        not_flying = home.not_flying;
        not_kept = join _ _ e home.not_kept;
      })

  back-written : (wr : Bool) (rq : Request) → (wr ≡ true → (request_tag rq == block.tag) ≡ false)
      → WrittenValues wr rq part.entries (latest part.history) (effective part.memory part.memout)
      → WrittenValues wr rq part.entries (latest part.history) (write_block (effective part.memory part.memout) block.tag block.words)
  back-written false rq f q = tt
  back-written true (Rd t w) f q = q
  back-written true (Wr t w) f q = q
  back-written true (UcRd t j) f q = q
  back-written true (UcWr t j change) f q = (
    subst (λ (y : Bool). (if y then block.words j else effective part.memory part.memout t j) ≡ change (latest part.history t j))
        (sym (f refl)) q.0,
    q.1,
  )
  back-written true (EvictRequest t w) f q = q

  back-channels : MemoryChannels (Some (open_transaction r b Idle rd wr ws)) part.memory (latest part.history)
      (part.memout ++ Write block.tag block.words ∷ []) part.memin
  back-channels = record {
    count = omega (arith, good.channels.count, read_count-append part.memout (Write block.tag block.words));
    to = ReadsFor-append _ _ _ part.memout (Write block.tag block.words) good.channels.to tt;
    back = good.channels.back;
  }

  -- The kept block has the latest words and no cache may write it, so effective memory has them once the Write is sent.
  pub write_back_good : Good (Open r b fl inv) (record part {
    memout = part.memout ++ Write block.tag block.words ∷ [];
    transaction = Some (open_transaction r b Idle rd wr ws);
  })
  write_back_good = record {
    commands = good.commands;
    fills = good.fills;
    responses = good.responses;
    requests = good.requests;
    taker = good.taker;
    placed = good.placed;
    transaction =
        record {
          is_cache = refl;
          is_request = refl;
          ungranted = refl;
          flush = back-state;
          acks = good.transaction.acks;
          no_requester_debt = refl;
          no_owner_debt = refl;
          apart = good.transaction.apart;
          kept_apart = λ e. refl;
        };
    pending = good.pending;
    taken_count = good.taken_count;
    copies = good.copies;
    values = Values-effective (effective-append part.memory part.memout _) (record {
      copies = good.values.copies;
      memory = back-memory;
      flying = good.values.flying;
      ungranted =
          record {
            kept = tt;
            read = good.values.ungranted.read;
            written = back-written wr (request_of b.op b.way) good.transaction.kept_apart good.values.ungranted.written;
          };
    });
    channels = back-channels;
    kind = refl;
    answers = good.answers;
  }

-- the operations that read memory
abbrev pub reads_memory : Op → Bool
reads_memory (Load t spot) = true
reads_memory (Store t k change) = true
reads_memory (UcLoad t spot) = true
reads_memory (UcStore t k change) = false
reads_memory (Evict t) = false

pub not_at : (op : Op) (w u j : ℕ) (b : Bool) → reads_memory op ≡ true → (b && request_at (request_of op w) u j) ≡ false
not_at op w u j b e = grind arith

module _ (part : GroupState) (r : ℕ) (b : InProgress) (wr : Bool) (ws : List ℕ) (inv : ℕ → Ack)
    (good : Good (Open r b NoFlush inv) (record part { transaction = Some (open_transaction r b Idle NotRead wr ws) }))
    (kind : reads_memory b.op ≡ true)
    (light : (c w : ℕ) → Holds (part.directory c w) (op_tag b.op) → is_light (part.directory c w).state ≡ true) where
  read-light-op : AllLight part.entries (op_tag b.op)
  read-light-op c w number = lem (inv c) (good.copies.matches c w) (light c w) (λ e. good.copies.standing.1.clean c w e number)
    where
      lem : (a : Ack) → Matches (part.directory c w) (inv_effect (op_tag b.op) a (part.entries c w))
          → (Holds (part.directory c w) (op_tag b.op) → is_light (part.directory c w).state ≡ true)
          → (a ≡ InvSent → is_light (part.entries c w).state ≡ true)
          → is_light (part.entries c w).state ≡ true
      lem NoInv m l f = grind arith
      lem InvSent m l f = f refl
      lem InvAcked m l f = grind arith

  read-light : AllLight part.entries (request_tag (request_of b.op b.way))
  read-light = rw (request-tag b.op b.way) read-light-op

  read-found : (number : ℕ) → effective part.memory part.memout (request_tag (request_of b.op b.way)) number
      ≡ latest part.history (request_tag (request_of b.op b.way)) number
  read-found number = good.values.memory _ number (record {
    clean = λ c w l. weak _ (read-light c w l);
    not_flying = refl;
    not_kept = not_at b.op b.way _ number (wr && true) kind;
  })
    where
      weak : (state : Coh) → is_light state ≡ true → is_dirty state ≡ false
      weak state e = grind arith

  read-channels : MemoryChannels (Some (open_transaction r b Idle ReadAsked wr ws)) part.memory (latest part.history)
      (part.memout ++ Read (request_tag (request_of b.op b.way)) ∷ []) part.memin
  read-channels = record {
    count = omega (arith, good.channels.count, read_count-append part.memout (Read (request_tag (request_of b.op b.way))));
    to = ReadsFor-append _ _ _ part.memout _ good.channels.to (refl, read-found, tt);
    back = good.channels.back;
  }

  -- All copies are light and nothing on its way has a later value, so the words that the Read will find are the latest.
  pub read_good : Good (Open r b NoFlush inv) (record part {
    memout = part.memout ++ Read (request_tag (request_of b.op b.way)) ∷ [];
    transaction = Some (open_transaction r b Idle ReadAsked wr ws);
  })
  read_good = record {
    commands = good.commands;
    fills = good.fills;
    responses = good.responses;
    requests = good.requests;
    taker = good.taker;
    placed = good.placed;
    transaction =
        record {
          is_cache = refl;
          is_request = refl;
          ungranted = refl;
          flush = tt;
          acks = good.transaction.acks;
          no_requester_debt = refl;
          no_owner_debt = refl;
          apart = good.transaction.apart;
          kept_apart = good.transaction.kept_apart;
        };
    pending = good.pending;
    taken_count = good.taken_count;
    copies = good.copies;
    values = Values-effective (effective-append part.memory part.memout _) (record {
      copies = good.values.copies;
      memory = λ u number home. good.values.memory u number (record {
        clean = home.clean;
        not_flying = home.not_flying;
        not_kept = home.not_kept;
      });
      flying = tt;
      ungranted = record { kept = tt; read = read-light; written = good.values.ungranted.written };
    });
    channels = read-channels;
    kind = refl;
    answers = good.answers;
  }

module _ (part : GroupState) (r w t number : ℕ) (change : ℕ → ℕ) (inv : ℕ → Ack)
    (good : Good (Open r (record { op = UcStore t number change; way = w }) NoFlush inv)
    (record part { transaction = Some (open_transaction r (record { op = UcStore t number change; way = w }) Idle NotRead false []) }))
    (none : (c v : ℕ) → Holds (part.directory c v) t → ⊥) where
  word-none : NoCopy part.entries t
  word-none c v l = lem (no_inv_is (inv c) (sym (good.transaction.acks c))) (good.copies.matches c v) (none c v)
    where
      lem : inv c ≡ NoInv → Matches (part.directory c v) (inv_effect t (inv c) (part.entries c v))
          → (Holds (part.directory c v) t → ⊥) → ⊥
      lem e m f = grind arith

  word-memory : (u j : ℕ) → (u == t && j == number) ≡ false → effective part.memory part.memout u j ≡ latest part.history u j
      → write_word (effective part.memory part.memout) t number change u j ≡ latest part.history u j
  word-memory u j e f = grind (arith, nat_tests)

  -- nothing else has the word, so memory had its latest value
  word-here : write_word (effective part.memory part.memout) t number change t number ≡ change (latest part.history t number)
  word-here =
      let home : effective part.memory part.memout t number ≡ latest part.history t number =
      good.values.memory t number (record { clean = λ c v l. absurd (word-none c v l); not_flying = refl; not_kept = refl }) in
      grind (arith, nat_tests, home)

  word-channels : MemoryChannels (Some (open_transaction r (record { op = UcStore t number change; way = w }) Idle NotRead true []))
      part.memory
      (latest part.history) (part.memout ++ WriteWord t number change ∷ []) part.memin
  word-channels = record {
    count = omega (arith, good.channels.count, read_count-append part.memout (WriteWord t number change));
    to = ReadsFor-append _ _ _ part.memout (WriteWord t number change) good.channels.to tt;
    back = good.channels.back;
  }

  -- No cache has the block. Until the store completes the transaction has the word, so memory may be ahead of its latest value.
  pub word_good : Good (Open r (record { op = UcStore t number change; way = w }) NoFlush inv)
      (record part {
        memout = part.memout ++ WriteWord t number change ∷ [];
        transaction = Some (open_transaction r (record { op = UcStore t number change; way = w }) Idle NotRead true []);
      })
  word_good = record {
    commands = good.commands;
    fills = good.fills;
    responses = good.responses;
    requests = good.requests;
    taker = good.taker;
    placed = good.placed;
    transaction =
        record {
          is_cache = refl;
          is_request = refl;
          ungranted = refl;
          flush = tt;
          acks = good.transaction.acks;
          no_requester_debt = refl;
          no_owner_debt = refl;
          apart = λ e. refl;
          kept_apart = λ e. refl;
        };
    pending = good.pending;
    taken_count = good.taken_count;
    copies = good.copies;
    values = Values-effective (effective-append part.memory part.memout _) (record {
      copies = good.values.copies;
      memory = λ u j home.
          word-memory u j home.not_kept (good.values.memory u j (record { clean = home.clean; not_flying = refl; not_kept = refl }));
      flying = tt;
      ungranted = record { kept = tt; read = tt; written = (word-here, word-none) };
    });
    channels = word-channels;
    kind = refl;
    answers = good.answers;
  }
