-- The engine sends a flush.
use Rattle.std.proofs.Common.{◌≡◌, ℕ, ◌⊎◌, Bool, true, false, ◌&&◌, refl, arith, List, [], ◌∷◌, ◌++◌, subst, ap, inl, inr}
use Rattle.std.specs.Prelude.{Some, if◌then◌else◌, ◌==◌}
use Rattle.std.proofs.lemmas.Bool.Decides.{nat_tests}
use Rattle.bk_base.specs.Tables.{put}
use Rattle.bk_machine.specs.Tables.{put2}
use Rattle.bk_machine.specs.Entries.{Entry, Holds, with_state, is_light}
use Rattle.bk_machine.specs.Messages.{Op, Load, Store, UcLoad, UcStore, Evict, StWb, op_tag, request_of, request_tag}
use Rattle.bk_machine.specs.Transactions.{InProgress, Idle, FlushAsked, Reading, open_transaction}
use Rattle.bk_machine.specs.Phases.{NoFlush, FlushSent, Ack, NoInv, InvSent, InvAcked, Open, commands_of, expected_entry, flush_effect, flush_command, inv_command, inv_effect}
use Rattle.bk_machine.specs.World.{GroupState}
use Rattle.bk_machine.specs.Copies.{Matches, OneOwner}
use Rattle.bk_machine.specs.Values.{NoCopy, WrittenValues}
use Rattle.bk_machine.specs.Invariant.{Good}
use Rattle.bk_machine.proofs.Fewer.{Fewer, OneWay-fewer, Alone-fewer, weaker-fewer}
use Rattle.bk_machine.proofs.Send.{request-tag}
use Rattle.bk_base.specs.declared.coh.Coh.{Coh}
use Rattle.bk_base.specs.States.{is_readable, is_writable, is_owner_like}

written-none : (wr : Bool) (op : Op) (w : ℕ) (h : ℕ → ℕ → Entry) (v a : ℕ → ℕ → ℕ) → wr ≡ true
    → WrittenValues wr (request_of op w) h v a
    → NoCopy h (op_tag op)
written-none false op w h v a e q = absurd (cc e)
written-none true (Load t spot) w h v a e q = absurd q
written-none true (Store t k change) w h v a e q = absurd q
written-none true (UcLoad t spot) w h v a e q = absurd q
written-none true (UcStore t k change) w h v a e q = q.1
written-none true (Evict t) w h v a e q = absurd q

OneOwner-weaker : (c w : ℕ) (state : Coh) (d : ℕ → ℕ → Entry) → is_owner_like state ≡ false
    → is_readable (d c w).state ≡ true → OneOwner d
    → OneOwner (put2 d c w (with_state (d c w) state))
unfolding put2
OneOwner-weaker c w x d e l one u i v o y k k2 n f = grind (arith, nat_tests, one u i v o y)

module _ (part : GroupState) (r o ow u : ℕ) (state : Coh) (b : InProgress) (rd : Reading) (wr : Bool) (ws : List ℕ) (inv : ℕ → Ack)
    (good : Good (Open r b NoFlush inv) (record part { transaction = Some (open_transaction r b Idle rd wr ws) }))
    (has : Holds (part.directory o ow) u) (weak : is_light state ≡ true) (no_owner : is_owner_like state ≡ false)
    (whose : (u ≡ op_tag b.op)
    ⊎ (o ≡ r)) where
  quiet : inv o ≡ NoInv
  quiet = lem (inv o) refl whose
    where
      lem : (a : Ack) → inv o ≡ a → (u ≡ op_tag b.op) ⊎ (o ≡ r) → a ≡ NoInv
      lem NoInv e s = refl
      lem InvSent e (inl s) =
          absurd (good.copies.standing.1.gone o ow (λ q. absurd (cc (e, q))) (subst (λ (t : ℕ). Holds (part.directory o ow) t) s has))
      lem InvSent e (inr s) = absurd (cc (e, ap inv s, good.copies.standing.1.not_own))
      lem InvAcked e (inl s) =
          absurd (good.copies.standing.1.gone o ow (λ q. absurd (cc (e, q))) (subst (λ (t : ℕ). Holds (part.directory o ow) t) s has))
      lem InvAcked e (inr s) = absurd (cc (e, ap inv s, good.copies.standing.1.not_own))

  aims : Holds (part.entries o ow) u
  aims = lem (good.copies.matches o ow) quiet
    where
      lem : Matches (part.directory o ow) (inv_effect (op_tag b.op) (inv o) (part.entries o ow)) → inv o ≡ NoInv
          → Holds (part.entries o ow) u
      lem m e = grind arith

  flush-commands : (c : ℕ) → put part.command o (part.command o ++ StWb u state ∷ []) c
      ≡ commands_of (Open r b (FlushSent o ow u state) inv) c
  unfolding put
  flush-commands c = lem (good.commands c) (good.commands o) quiet
    where
      lem : part.command c ≡ inv_command (op_tag b.op) (inv c) → part.command o ≡ inv_command (op_tag b.op) (inv o)
          → inv o ≡ NoInv
          → (if c == o then part.command o ++ StWb u state ∷ [] else part.command c) ≡ flush_command (FlushSent o ow u state) c
          ++ inv_command (op_tag b.op) (inv c)
      lem e f q = grind (arith, nat_tests)

  flush-matches : (c w : ℕ)
      → Matches (put2 part.directory o ow (with_state (part.directory o ow) state) c w)
      (expected_entry (Open r b (FlushSent o ow u state) inv) c w (part.entries c w))
  unfolding put2
  flush-matches c w = lem (good.copies.matches c w) quiet
    where
      lem : Matches (part.directory c w) (inv_effect (op_tag b.op) (inv c) (part.entries c w)) → inv o ≡ NoInv
          → Matches (if c == o && w == ow then with_state (part.directory o ow) state
          else part.directory c w) (inv_effect (op_tag b.op) (inv c) (if c == o && w == ow then with_state (part.entries c w) state
          else part.entries c w))
      lem m e = grind (arith, nat_tests)

  fewer : Fewer (put2 part.directory o ow (with_state (part.directory o ow) state)) part.directory
  fewer = weaker-fewer o ow state part.directory (writes state weak no_owner) has.is_valid
    where
      writes : (state : Coh) → is_light state ≡ true → is_owner_like state ≡ false → is_writable state ≡ false
      writes state e f = grind arith

  flush-clean : (c w : ℕ) → inv c ≡ InvSent → Holds (part.entries c w) (op_tag b.op)
      → is_light (flush_effect (FlushSent o ow u state) c w (part.entries c w)).state ≡ true
  flush-clean c w e k = lem (good.copies.standing.1.clean c w e k) quiet
    where
      lem : is_light (part.entries c w).state ≡ true → inv o ≡ NoInv
          → is_light (flush_effect (FlushSent o ow u state) c w (part.entries c w)).state ≡ true
      lem f q = grind (arith, nat_tests)

  flush-behind : (c : ℕ) → inv c ≡ InvAcked → flush_command (FlushSent o ow u state) c ≡ []
  flush-behind c e = lem quiet
    where
      lem : inv o ≡ NoInv → flush_command (FlushSent o ow u state) c ≡ []
      lem q = grind (arith, nat_tests)

  flush-apart : wr ≡ true → (request_tag (request_of b.op b.way) == u) ≡ false
  flush-apart e = lem (request_tag (request_of b.op b.way)) (request-tag b.op b.way)
      (λ s. written-none wr b.op b.way part.entries _ _ e good.values.ungranted.written o ow
      (subst (λ (t : ℕ). Holds (part.entries o ow) t) s aims))
    where
      lem : (t : ℕ) → t ≡ op_tag b.op → (u ≡ op_tag b.op → ⊥) → (t == u) ≡ false
      lem t e n = grind (arith, nat_tests)

  -- The directory's entry takes the state now and the cache's when the StWb comes: with that counted in, the two still match.
  pub flush_good : Good (Open r b (FlushSent o ow u state) inv)
      (record part {
        directory = put2 part.directory o ow (with_state (part.directory o ow) state);
        command = put part.command o (part.command o ++ StWb u state ∷ []);
        transaction = Some (open_transaction r b FlushAsked rd wr ws);
      })
  flush_good = record {
    commands = flush-commands;
    fills = good.fills;
    responses = good.responses;
    requests = good.requests;
    taker = good.taker;
    placed = good.placed;
    transaction =
        record {
          is_cache = refl;
          is_request = refl;
          ungranted = refl;
          flush = tt;
          acks = good.transaction.acks;
          no_requester_debt = refl;
          no_owner_debt = refl;
          apart = flush-apart;
          kept_apart = λ e. refl;
        };
    pending = good.pending;
    taken_count = good.taken_count;
    copies = record {
      matches = flush-matches;
      one_way = OneWay-fewer fewer good.copies.one_way;
      alone = Alone-fewer fewer good.copies.alone;
      one_owner = OneOwner-weaker o ow state part.directory no_owner has.is_valid good.copies.one_owner;
      real_way = good.copies.real_way;
      real_alone = good.copies.real_alone;
      standing = (
        (aims, weak),
        record {
          not_own = good.copies.standing.1.not_own;
          gone = λ c w n k. good.copies.standing.1.gone c w n (fewer.holds c w (op_tag b.op) k);
          clean = flush-clean;
          behind = flush-behind;
        },
      );
    };
    values = record {
      copies = good.values.copies;
      memory = λ v k home. good.values.memory v k (record { clean = home.clean; not_flying = refl; not_kept = home.not_kept });
      flying = tt;
      ungranted = record { kept = tt; read = good.values.ungranted.read; written = good.values.ungranted.written };
    };
    channels = record { count = good.channels.count; to = good.channels.to; back = good.channels.back };
    kind = refl;
    answers = good.answers;
  }
