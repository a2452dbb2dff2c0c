-- The engine grants by a transfer from the owner.
use Rattle.std.proofs.Common.{◌≡◌, ℕ, ◌≢◌, Bool, true, false, not, ◌&&◌, ◌||◌, refl, arith, [], ◌∷◌, ◌++◌, sym, subst}
use Rattle.std.specs.Prelude.{Some, if◌then◌else◌, ◌==◌}
use Rattle.std.proofs.lemmas.Bool.Decides.{nat_tests}
use Rattle.bk_base.specs.Tables.{put}
use Rattle.bk_base.specs.declared.coh.Coh.{Coh}
use Rattle.bk_base.specs.declared.coh.Coh.TheVariants.{M}
use Rattle.bk_machine.specs.Entries.{Entry, Holds, is_light}
use Rattle.bk_machine.specs.Messages.{StTr, op_tag}
use Rattle.bk_machine.specs.Transactions.{InProgress, Idle, Reading, open_transaction, granted_transaction, is_asked}
use Rattle.bk_machine.specs.Phases.{NoFlush, Ack, ByTransfer, Open, Flying, at_cache, flight_effect}
use Rattle.bk_machine.proofs.Allowed.{fits}
use Rattle.bk_machine.specs.Actions.{may_pair}
use Rattle.bk_machine.specs.World.{GroupState}
use Rattle.bk_machine.specs.Copies.{Matches, OneOwner}
use Rattle.bk_machine.specs.Invariant.{op_suits, Good}
use Rattle.bk_machine.proofs.Fewer.{Fewer, OneWay-fewer, Alone-fewer}
use Rattle.bk_machine.proofs.Settle.{channels-none}
use Rattle.bk_machine.proofs.Engine.{not_at}
use Rattle.bk_machine.proofs.Grant.{with_entry, OneWay-entry, Alone-entry, OneOwner-entry, quiet-matches, quiet-commands, quiet-responses, wants_block, wants-reads, placed-op, covered-holds, light-entry}
use Rattle.bk_base.specs.States.{is_readable, is_writable, is_dirty, is_owner_like}

-- no transfer leaves the owner a state that it may write
pub pair-weaker : (z y state : Coh) → may_pair z y state ≡ true → is_writable y ≡ false
pair-weaker z y state e = grind arith

module _ (part : GroupState) (r o ow : ℕ) (b : InProgress) (rd : Reading) (wr : Bool) (inv : ℕ → Ack) (y state : Coh)
    (good : Good (Open r b NoFlush inv) (record part { transaction = Some (open_transaction r b Idle rd wr []) }))
    (kind : wants_block b.op ≡ true) (suit : op_suits b.op state ≡ true) (not_asked : is_asked rd ≡ false)
    (victim : is_readable (part.directory r b.way).state ≡ true → (part.directory r b.way).tag ≢ op_tag b.op
    → is_light (part.directory r b.way).state ≡ true)
    (other : o ≢ r) (has : Holds (part.directory o ow) (op_tag b.op)) (owns : is_owner_like (part.directory o ow).state ≡ true)
    (pair : may_pair (part.directory o ow).state y state ≡ true)
    (alone : state ≡ M → (c w : ℕ) → c ≢ r → c ≢ o → Holds (part.directory c w) (op_tag b.op) → ⊥) where
  abbrev d1 : ℕ → ℕ → Entry
  d1 = with_entry o ow (op_tag b.op) y part.directory

  abbrev d2 : ℕ → ℕ → Entry
  d2 = with_entry r b.way (op_tag b.op) state (with_entry o ow (op_tag b.op) y part.directory)

  m : (c w : ℕ) → Matches (part.directory c w) (part.entries c w)
  m = quiet-matches part r b rd wr inv good

  not_writable : is_writable y ≡ false
  not_writable = pair-weaker (part.directory o ow).state y state pair

  x_valid : is_readable state ≡ true
  x_valid = lem (part.directory o ow).state pair
    where
      lem : (z : Coh) → may_pair z y state ≡ true → is_readable state ≡ true
      lem z e = grind arith

  fewer : Fewer (with_entry o ow (op_tag b.op) y part.directory) part.directory
  fewer = record {
    holds = λ c w u k. holds c w u k has;
    writes = λ c w u k e. writes c w u e not_writable;
  }
    where
      holds : (c w u : ℕ) → Holds (with_entry o ow (op_tag b.op) y part.directory c w) u → Holds (part.directory o ow) (op_tag b.op)
          → Holds (part.directory c w) u
      holds c w u k l = grind (arith, nat_tests)

      writes : (c w u : ℕ) → is_writable (part.directory c w).state ≡ false → is_writable y ≡ false
          → is_writable (with_entry o ow (op_tag b.op) y part.directory c w).state ≡ false
      writes c w u e f = grind (arith, nat_tests)

  owner1 : OneOwner (with_entry o ow (op_tag b.op) y part.directory)
  owner1 u c w i v k l n e =
      lem (good.copies.one_owner u c w i v) (good.copies.one_owner u o ow i v) (good.copies.one_owner u o ow c w) has owns
    where
      lem : (Holds (part.directory c w) u → Holds (part.directory i v) u → c ≢ i → is_owner_like (part.directory c w).state ≡ true
          → is_owner_like (part.directory i v).state ≡ false)
          → (Holds (part.directory o ow) u → Holds (part.directory i v) u → o ≢ i
          → is_owner_like (part.directory o ow).state ≡ true
          → is_owner_like (part.directory i v).state ≡ false)
          → (Holds (part.directory o ow) u → Holds (part.directory c w) u → o ≢ c
          → is_owner_like (part.directory o ow).state ≡ true
          → is_owner_like (part.directory c w).state ≡ false)
          → Holds (part.directory o ow) (op_tag b.op) → is_owner_like (part.directory o ow).state ≡ true
          → is_owner_like (with_entry o ow (op_tag b.op) y part.directory i v).state ≡ false
      lem f h q a s = grind (arith, nat_tests)

  here : (v : ℕ) → v ≢ b.way → Holds (with_entry o ow (op_tag b.op) y part.directory r v) (op_tag b.op) → ⊥
  here v n k = placed-op b.op b.way (part.entries r) kind (good.placed r b good.taker) v n
      (covered-holds _ _ _ (m r v) (fewer.holds r v (op_tag b.op) k))

  -- what the pair leaves to the others: nothing, or S
  fit : (c w : ℕ) → c ≢ r → Holds (with_entry o ow (op_tag b.op) y part.directory c w) (op_tag b.op)
      → fits state (with_entry o ow (op_tag b.op) y part.directory c w).state ≡ true
  fit c w n k = lem (c == o) refl
    where
      at_owner : c ≡ o → (Holds (part.directory o ow) (op_tag b.op) → Holds (part.directory o w) (op_tag b.op) → ow ≡ w)
          → Holds (part.directory c w) (op_tag b.op)
          → fits state (with_entry o ow (op_tag b.op) y part.directory c w).state ≡ true
      at_owner e one l = pairs (part.directory o ow).state pair
          (one has (subst (λ (i : ℕ). Holds (part.directory i w) (op_tag b.op)) e l))
        where
          pairs : (z : Coh) → may_pair z y state ≡ true → ow ≡ w
              → fits state (with_entry o ow (op_tag b.op) y part.directory c w).state ≡ true
          pairs z p q = grind (arith, nat_tests)

      not_owner : c ≢ o → is_owner_like (part.directory c w).state ≡ false → (state ≡ M → ⊥)
          → fits state (with_entry o ow (op_tag b.op) y part.directory c w).state ≡ true
      not_owner d e f = pairs (part.directory o ow).state pair
        where
          pairs : (z : Coh) → may_pair z y state ≡ true
              → fits state (with_entry o ow (op_tag b.op) y part.directory c w).state ≡ true
          pairs z p = grind (arith, nat_tests)

      is : (c == o) ≡ true → c ≡ o
      is e = grind (arith, nat_tests)

      differs : (c == o) ≡ false → c ≢ o
      differs e = grind (arith, nat_tests)

      lem : (z : Bool) → (c == o) ≡ z → fits state (with_entry o ow (op_tag b.op) y part.directory c w).state ≡ true
      lem true e = at_owner (is e) (good.copies.one_way (op_tag b.op) o ow w) (fewer.holds c w (op_tag b.op) k)
      lem false e =
          let l : Holds (part.directory c w) (op_tag b.op) = fewer.holds c w (op_tag b.op) k in
          not_owner (differs e) (good.copies.one_owner (op_tag b.op) o ow c w has l (λ q. differs e (sym q)) owns)
          (λ q. alone q c w n (differs e) l)

  transfer-commands : (c : ℕ) → put part.command o (part.command o ++ StTr (op_tag b.op) y r b.way state ∷ []) c
      ≡ at_cache c o (StTr (op_tag b.op) y r b.way state)
  unfolding put
  transfer-commands c = lem (quiet-commands part r b rd wr inv good c) (quiet-commands part r b rd wr inv good o)
    where
      lem : part.command c ≡ [] → part.command o ≡ []
          → (if c == o then part.command o ++ StTr (op_tag b.op) y r b.way state ∷ [] else part.command c)
          ≡ at_cache c o (StTr (op_tag b.op) y r b.way state)
      lem e f = grind (arith, nat_tests)

  transfer-matches : (c w : ℕ)
      → Matches (with_entry r b.way (op_tag b.op) state (with_entry o ow (op_tag b.op) y part.directory) c w)
      (flight_effect (ByTransfer o ow y state) r b c w (part.entries c w))
  transfer-matches c w = lem (m c w) has
    where
      lem : Matches (part.directory c w) (part.entries c w) → Holds (part.directory o ow) (op_tag b.op)
          → Matches (with_entry r b.way (op_tag b.op) state (with_entry o ow (op_tag b.op) y part.directory) c w)
          (flight_effect (ByTransfer o ow y state) r b c w (part.entries c w))
      lem k l = grind (arith, nat_tests)

  own-light : Holds (part.entries r b.way) (op_tag b.op) → is_light (part.entries r b.way).state ≡ true
  own-light k = lem (m r b.way) k (good.copies.one_owner (op_tag b.op) o ow r b.way has)
    where
      lem : Matches (part.directory r b.way) (part.entries r b.way) → Holds (part.entries r b.way) (op_tag b.op)
          → (Holds (part.directory r b.way) (op_tag b.op) → o ≢ r → is_owner_like (part.directory o ow).state ≡ true
          → is_owner_like (part.directory r b.way).state ≡ false) → is_light (part.entries r b.way).state ≡ true
      lem k l f = grind arith

  stays : (is_dirty y || is_dirty state) ≡ false → is_light (part.entries o ow).state ≡ true
  stays e = lem (m o ow)
    where
      lem : Matches (part.directory o ow) (part.entries o ow) → is_light (part.entries o ow).state ≡ true
      lem k = grind arith

  not_reading : (not false && is_asked rd) ≡ false
  not_reading = rw not_asked refl

  -- The owner's copy has the latest words, and the two debts are the entries that the transfer leaves at the owner and at the requester.
  pub transfer_good : Good (Flying r b (ByTransfer o ow y state)) (record part {
    command = put part.command o (part.command o ++ StTr (op_tag b.op) y r b.way state ∷ []);
    transaction =
        Some (granted_transaction r b rd wr (Some (record { cache = r; way = b.way; entry = record { tag = op_tag b.op; state = state } }))
        (Some (record { cache = o; way = ow; entry = record { tag = op_tag b.op; state = y } })));
  })
  transfer_good = record {
    commands = transfer-commands;
    fills = good.fills;
    responses = quiet-responses part r b rd wr inv good;
    requests = good.requests;
    taker = good.taker;
    placed = good.placed;
    transaction = record { granted = refl; no_flush = refl; no_acks = refl; not_asked = not_asked; debts_apart = λ e. other (sym e) };
    pending = good.pending;
    taken_count = good.taken_count;
    copies = record {
      matches = transfer-matches;
      one_way = OneWay-entry r b.way (op_tag b.op) state (with_entry o ow (op_tag b.op) y part.directory) here fit
          (OneWay-fewer fewer good.copies.one_way);
      alone = Alone-entry r b.way (op_tag b.op) state (with_entry o ow (op_tag b.op) y part.directory) here fit
          (Alone-fewer fewer good.copies.alone);
      one_owner = OneOwner-entry r b.way (op_tag b.op) state (with_entry o ow (op_tag b.op) y part.directory) here fit owner1;
      real_way = good.copies.real_way;
      real_alone = good.copies.real_alone;
      standing = record {
        light = light-entry _ _ _ (m r b.way) victim own-light;
        is_valid = x_valid;
        has = covered-holds _ _ _ (m o ow) has;
        other = λ e. other (sym e);
        weaker = not_writable;
        stays_dirty = stays;
      };
    };
    values = record {
      copies = good.values.copies;
      memory =
          λ u k home. good.values.memory u k (record {
            clean = home.clean;
            not_flying = refl;
            not_kept = not_at b.op b.way u k (wr && true) (wants-reads b.op kind);
          });
      flying = tt;
      ungranted = tt;
    };
    channels = channels-none (Some (open_transaction r b Idle rd wr [])) _ _ _ _ _ _ not_reading refl good.channels;
    kind = suit;
    answers = good.answers;
  }
