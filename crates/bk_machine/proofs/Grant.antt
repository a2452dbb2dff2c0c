-- The engine grants.
use Rattle.std.proofs.Common.{◌≡◌, ℕ, ◌≢◌, Bool, true, false, not, ◌&&◌, refl, arith, [], ◌∷◌, ◌++◌, sym, ◌∙◌, subst, ap}
use Rattle.std.specs.Prelude.{Some, None, if◌then◌else◌, ◌==◌}
use Rattle.std.proofs.lemmas.Bool.Decides.{nat_tests}
use Rattle.bk_base.specs.Tables.{put}
use Rattle.bk_base.specs.declared.coh.Coh.{Coh}
use Rattle.bk_base.specs.declared.coh.Coh.TheVariants.{M}
use Rattle.bk_machine.specs.Entries.{Entry, Holds, is_light}
use Rattle.bk_machine.specs.Messages.{Op, Load, Store, UcLoad, UcStore, Evict, Blk, StWake, op_tag}
use Rattle.bk_machine.specs.Transactions.{InProgress, Idle, Reading, Got, open_transaction, granted_transaction, is_asked}
use Rattle.bk_machine.specs.Phases.{NoFlush, Ack, ByBlock, ByWake, Open, Flying, at_cache, inv_command, inv_response, inv_effect}
use Rattle.bk_machine.proofs.Allowed.{fits}
use Rattle.bk_machine.specs.World.{GroupState}
use Rattle.bk_machine.specs.Words.{latest}
use Rattle.bk_machine.specs.Copies.{Matches, OneWay, Alone, OneOwner}
use Rattle.bk_machine.specs.Values.{AllLight, SameWords}
use Rattle.bk_machine.specs.Invariant.{op_suits, Good, WaitingCopies}
use Rattle.bk_machine.proofs.Settle.{channels-none}
use Rattle.bk_machine.proofs.Send.{request-tag}
use Rattle.bk_machine.proofs.Engine.{no_inv_is, reads_memory, not_at}
use Rattle.bk_base.specs.States.{is_readable, is_writable, is_owner_like}

-- a directory with one entry given anew
abbrev pub with_entry : ℕ → ℕ → ℕ → Coh → (ℕ → ℕ → Entry) → ℕ → ℕ → Entry
with_entry r y t state d c w = if c == r && w == y then record { tag = t; state = state } else d c w

module _ (r y t : ℕ) (state : Coh) (d : ℕ → ℕ → Entry)
    (placed : (v : ℕ) → v ≢ y → Holds (d r v) t → ⊥)
    (fit : (c w : ℕ) → c ≢ r → Holds (d c w) t → fits state (d c w).state ≡ true) where
  pub OneWay-entry : OneWay d → OneWay (with_entry r y t state d)
  OneWay-entry one u c w v k l = lem (one u c w v) (placed w) (placed v)
    where
      lem : (Holds (d c w) u → Holds (d c v) u → w ≡ v) → (w ≢ y → Holds (d r w) t → ⊥)
          → (v ≢ y → Holds (d r v) t → ⊥) → w ≡ v
      lem f p q = grind (arith, nat_tests)

  pub Alone-entry : Alone d → Alone (with_entry r y t state d)
  Alone-entry one u c w o v k l n = lem (one u c w o v) (fit c w) (fit o v)
    where
      lem : (Holds (d c w) u → Holds (d o v) u → c ≢ o → is_writable (d c w).state ≡ false)
          → (c ≢ r → Holds (d c w) t → fits state (d c w).state ≡ true)
          → (o ≢ r → Holds (d o v) t → fits state (d o v).state ≡ true)
          → is_writable (with_entry r y t state d c w).state ≡ false
      lem f p q = grind (arith, nat_tests)

  pub OneOwner-entry : OneOwner d → OneOwner (with_entry r y t state d)
  OneOwner-entry one u c w o v k l n e = lem (one u c w o v) (fit c w) (fit o v)
    where
      lem : (Holds (d c w) u → Holds (d o v) u → c ≢ o → is_owner_like (d c w).state ≡ true
          → is_owner_like (d o v).state ≡ false)
          → (c ≢ r → Holds (d c w) t → fits state (d c w).state ≡ true)
          → (o ≢ r → Holds (d o v) t → fits state (d o v).state ≡ true)
          → is_owner_like (with_entry r y t state d o v).state ≡ false
      lem f p q = grind (arith, nat_tests)

-- nothing is on its way: the directory covers the caches
module _ (part : GroupState) (r : ℕ) (b : InProgress) (rd : Reading) (wr : Bool) (inv : ℕ → Ack)
    (good : Good (Open r b NoFlush inv) (record part { transaction = Some (open_transaction r b Idle rd wr []) })) where
  pub quiet-matches : (c w : ℕ) → Matches (part.directory c w) (part.entries c w)
  quiet-matches c w =
      subst (λ (a : Ack). Matches (part.directory c w) (inv_effect (op_tag b.op) a (part.entries c w)))
      (no_inv_is (inv c) (sym (good.transaction.acks c))) (good.copies.matches c w)

  pub quiet-commands : (c : ℕ) → part.command c ≡ []
  quiet-commands c = good.commands c ∙ ap (inv_command (op_tag b.op)) (no_inv_is (inv c) (sym (good.transaction.acks c)))

  pub quiet-responses : (c : ℕ) → part.response c ≡ []
  quiet-responses c = good.responses c ∙ ap (inv_response (op_tag b.op)) (no_inv_is (inv c) (sym (good.transaction.acks c)))

-- the operations that want a block
abbrev pub wants_block : Op → Bool
wants_block (Load t spot) = true
wants_block (Store t k change) = true
wants_block (UcLoad t spot) = false
wants_block (UcStore t k change) = false
wants_block (Evict t) = false

pub wants-reads : (op : Op) → wants_block op ≡ true → reads_memory op ≡ true
wants-reads op e = grind arith

pub placed-op : (op : Op) (w : ℕ) (h : ℕ → Entry) → wants_block op ≡ true → WaitingCopies op w h → (v : ℕ) → v ≢ w
    → Holds (h v) (op_tag op) → ⊥
placed-op (Load t spot) w h e p = λ v n k. p v k
placed-op (Store t j change) w h e p = λ v n k. n (p v k).0
placed-op (UcLoad t spot) w h e p = absurd (cc e)
placed-op (UcStore t k change) w h e p = absurd (cc e)
placed-op (Evict t) w h e p = absurd (cc e)

pub covered-holds : (d h : Entry) (t : ℕ) → Matches d h → Holds d t → Holds h t
covered-holds d h t m k = grind arith

-- the entry that the block replaces is clean
pub light-entry : (d h : Entry) (t : ℕ) → Matches d h → (is_readable d.state ≡ true → d.tag ≢ t → is_light d.state ≡ true)
    → (Holds h t → is_light h.state ≡ true) → is_light h.state ≡ true
light-entry d h t m f g = grind (arith, nat_tests)

-- a block from memory
module _ (part : GroupState) (r : ℕ) (b : InProgress) (ws : ℕ → ℕ) (wr : Bool) (inv : ℕ → Ack) (state : Coh)
    (good : Good (Open r b NoFlush inv) (record part { transaction = Some (open_transaction r b Idle (Got ws) wr []) }))
    (kind : wants_block b.op ≡ true) (suit : op_suits b.op state ≡ true) (is_valid : is_readable state ≡ true)
    (victim : is_readable (part.directory r b.way).state ≡ true → (part.directory r b.way).tag ≢ op_tag b.op
    → is_light (part.directory r b.way).state ≡ true)
    (fit : (c w : ℕ) → c ≢ r → Holds (part.directory c w) (op_tag b.op) → fits state (part.directory c w).state ≡ true) where
  m : (c w : ℕ) → Matches (part.directory c w) (part.entries c w)
  m = quiet-matches part r b (Got ws) wr inv good

  here : (v : ℕ) → v ≢ b.way → Holds (part.directory r v) (op_tag b.op) → ⊥
  here v n number = placed-op b.op b.way (part.entries r) kind (good.placed r b good.taker) v n (covered-holds _ _ _ (m r v) number)

  read : SameWords ws (latest part.history (op_tag b.op)) × AllLight part.entries (op_tag b.op)
  read = subst (λ (t : ℕ). SameWords ws (latest part.history t)
      × AllLight part.entries t) (request-tag b.op b.way) good.values.ungranted.read

  block-commands : (c : ℕ) → put part.command r (part.command r ++ Blk (op_tag b.op) b.way state ws ∷ []) c
      ≡ at_cache c r (Blk (op_tag b.op) b.way state ws)
  unfolding put
  block-commands c = lem (quiet-commands part r b (Got ws) wr inv good c) (quiet-commands part r b (Got ws) wr inv good r)
    where
      lem : part.command c ≡ [] → part.command r ≡ []
          → (if c == r then part.command r ++ Blk (op_tag b.op) b.way state ws ∷ [] else part.command c)
          ≡ at_cache c r (Blk (op_tag b.op) b.way state ws)
      lem e f = grind (arith, nat_tests)

  block-matches : (c w : ℕ)
      → Matches (with_entry r b.way (op_tag b.op) state part.directory c w) (with_entry r b.way (op_tag b.op) state part.entries c w)
  block-matches c w = lem (m c w)
    where
      lem : Matches (part.directory c w) (part.entries c w)
          → Matches (with_entry r b.way (op_tag b.op) state part.directory c w) (with_entry r b.way (op_tag b.op) state part.entries c w)
      lem number = grind (arith, nat_tests)

  -- No other cache may write the block, so the words that were read are the latest, and the debt is the entry that the Blk makes.
  pub block_good : Good (Flying r b (ByBlock state ws)) (record part {
    command = put part.command r (part.command r ++ Blk (op_tag b.op) b.way state ws ∷ []);
    transaction = Some (granted_transaction r b (Got ws) wr
        (Some (record { cache = r; way = b.way; entry = record { tag = op_tag b.op; state = state } })) None);
  })
  block_good = record {
    commands = block-commands;
    fills = good.fills;
    responses = quiet-responses part r b (Got ws) wr inv good;
    requests = good.requests;
    taker = good.taker;
    placed = good.placed;
    transaction = record { granted = refl; no_flush = refl; no_acks = refl; not_asked = refl; debts_apart = tt };
    pending = good.pending;
    taken_count = good.taken_count;
    copies = record {
      matches = block-matches;
      one_way = OneWay-entry r b.way (op_tag b.op) state part.directory here fit good.copies.one_way;
      alone = Alone-entry r b.way (op_tag b.op) state part.directory here fit good.copies.alone;
      one_owner = OneOwner-entry r b.way (op_tag b.op) state part.directory here fit good.copies.one_owner;
      real_way = good.copies.real_way;
      real_alone = good.copies.real_alone;
      standing = record { light = light-entry _ _ _ (m r b.way) victim (read.1 r b.way); is_valid = is_valid };
    };
    values = record {
      copies = good.values.copies;
      memory =
          λ u number home. good.values.memory u number (record {
            clean = home.clean;
            not_flying = refl;
            not_kept = not_at b.op b.way u number (wr && true) (wants-reads b.op kind);
          });
      flying = read.0;
      ungranted = tt;
    };
    channels = channels-none (Some (open_transaction r b Idle (Got ws) wr [])) _ _ _ _ _ _ refl refl good.channels;
    kind = suit;
    answers = good.answers;
  }

-- a wake
module _ (part : GroupState) (r w t number : ℕ) (change : ℕ → ℕ) (rd : Reading) (wr : Bool) (inv : ℕ → Ack)
    (good : Good (Open r (record { op = Store t number change; way = w }) NoFlush inv)
    (record part { transaction = Some (open_transaction r (record { op = Store t number change; way = w }) Idle rd wr []) }))
    (not_asked : is_asked rd ≡ false)
    (own : (v : ℕ) × Holds (part.directory r v) t)
    (others : (c v : ℕ) → c ≢ r → Holds (part.directory c v) t → ⊥) where
  wake-m : (c v : ℕ) → Matches (part.directory c v) (part.entries c v)
  wake-m = quiet-matches part r _ rd wr inv good

  wake-here : (v : ℕ) → v ≢ w → Holds (part.directory r v) t → ⊥
  wake-here v d l = d (good.placed r _ good.taker v (covered-holds _ _ _ (wake-m r v) l)).0

  wake-fit : (c v : ℕ) → c ≢ r → Holds (part.directory c v) t → fits M (part.directory c v).state ≡ true
  wake-fit c v d l = absurd (others c v d l)

  wake-has : Holds (part.entries r w) t
  wake-has = covered-holds _ _ _ (wake-m r w) (subst (λ (v : ℕ). Holds (part.directory r v) t) (lem (own.0 == w) refl) own.1)
    where
      same : (own.0 == w) ≡ true → own.0 ≡ w
      same e = grind (arith, nat_tests)

      differ : (own.0 == w) ≡ false → own.0 ≢ w
      differ e = grind (arith, nat_tests)

      lem : (y : Bool) → (own.0 == w) ≡ y → own.0 ≡ w
      lem true e = same e
      lem false e = absurd (wake-here own.0 (differ e) own.1)

  wake-commands : (c : ℕ) → put part.command r (part.command r ++ StWake t w ∷ []) c ≡ at_cache c r (StWake t w)
  unfolding put
  wake-commands c = lem (quiet-commands part r _ rd wr inv good c) (quiet-commands part r _ rd wr inv good r)
    where
      lem : part.command c ≡ [] → part.command r ≡ [] → (if c == r then part.command r ++ StWake t w ∷ [] else part.command c)
          ≡ at_cache c r (StWake t w)
      lem e f = grind (arith, nat_tests)

  wake-matches : (c v : ℕ) → Matches (with_entry r w t M part.directory c v) (with_entry r w t M part.entries c v)
  wake-matches c v = lem (wake-m c v)
    where
      lem : Matches (part.directory c v) (part.entries c v)
          → Matches (with_entry r w t M part.directory c v) (with_entry r w t M part.entries c v)
      lem number = grind (arith, nat_tests)

  not_reading : (not false && is_asked rd) ≡ false
  not_reading = rw not_asked refl

  -- No other cache has the block and the requester has it at the request's way: its debt of M is the entry that the wake makes.
  pub wake_good : Good (Flying r (record { op = Store t number change; way = w }) ByWake) (record part {
    command = put part.command r (part.command r ++ StWake t w ∷ []);
    transaction =
        Some (granted_transaction r (record { op = Store t number change; way = w }) rd wr
        (Some (record { cache = r; way = w; entry = record { tag = t; state = M } })) None);
  })
  wake_good = record {
    commands = wake-commands;
    fills = good.fills;
    responses = quiet-responses part r _ rd wr inv good;
    requests = good.requests;
    taker = good.taker;
    placed = good.placed;
    transaction = record { granted = refl; no_flush = refl; no_acks = refl; not_asked = not_asked; debts_apart = tt };
    pending = good.pending;
    taken_count = good.taken_count;
    copies = record {
      matches = wake-matches;
      one_way = OneWay-entry r w t M part.directory wake-here wake-fit good.copies.one_way;
      alone = Alone-entry r w t M part.directory wake-here wake-fit good.copies.alone;
      one_owner = OneOwner-entry r w t M part.directory wake-here wake-fit good.copies.one_owner;
      real_way = good.copies.real_way;
      real_alone = good.copies.real_alone;
      standing = wake-has;
    };
    values = record {
      copies = good.values.copies;
      memory = λ u j home. good.values.memory u j (record {
        clean = home.clean;
        not_flying = refl;
        not_kept = not_at (Store t number change) w u j (wr && true) refl;
      });
      flying = tt;
      ungranted = tt;
    };
    channels = channels-none (Some (open_transaction r (record { op = Store t number change; way = w }) Idle rd wr [])) _ _ _ _ _ _
        not_reading
        refl good.channels;
    kind = refl;
    answers = good.answers;
  }
