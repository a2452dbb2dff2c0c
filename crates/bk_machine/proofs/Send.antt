-- The engine invalidates, and flushes.
use Rattle.std.proofs.Common.{◌≡◌, ℕ, ◌+◌, ◌≤◌, ◌≢◌, Bool, true, refl, arith, List, [], ◌∷◌, ◌++◌, sym, ◌∙◌, subst, ap}
use Rattle.std.specs.Prelude.{Some, if◌then◌else◌, ◌==◌}
use Rattle.std.proofs.lemmas.Bool.Decides.{nat_tests}
use Rattle.bk_machine.specs.Entries.{Entry, Holds, wiped_entry, times, wiped_in_caches, is_light}
use Rattle.bk_machine.specs.Messages.{Op, Load, Store, UcLoad, UcStore, Evict, ToCache, Inv, op_tag, request_of, request_tag}
use Rattle.bk_machine.specs.Transactions.{InProgress, WriteBack, Reading, open_transaction}
use Rattle.bk_machine.specs.Phases.{Flush, Ack, NoInv, InvSent, InvAcked, Open, commands_of, responses_of, expected_entry, flush_effect, flush_command, flush_response, inv_command, inv_response, inv_effect}
use Rattle.bk_machine.specs.World.{GroupState}
use Rattle.bk_machine.specs.Copies.{Matches, OneOwner}
use Rattle.bk_machine.specs.Invariant.{Good, acks_due}
use Rattle.bk_machine.proofs.Fewer.{Fewer, OneWay-fewer, Alone-fewer}
use Rattle.bk_base.specs.States.{is_writable, is_owner_like}

pub times-append : (c : ℕ) (xs ys : List ℕ) → times c (xs ++ ys) ≡ times c xs + times c ys
times-append c [] ys = omega arith
times-append c (x ∷ xs) ys = omega (arith, times-append c xs ys)

no_inv : (a : Ack) → (a ≢ NoInv → ⊥) → a ≡ NoInv
no_inv NoInv f = refl
no_inv InvSent f = absurd (f (λ e. absurd (cc e)))
no_inv InvAcked f = absurd (f (λ e. absurd (cc e)))

pub request-tag : (op : Op) (w : ℕ) → request_tag (request_of op w) ≡ op_tag op
request-tag (Load t spot) w = refl
request-tag (Store t k change) w = refl
request-tag (UcLoad t spot) w = refl
request-tag (UcStore t k change) w = refl
request-tag (Evict t) w = refl

abbrev pub inv_to : List ℕ → ℕ → (ℕ → List ToCache) → ℕ → List ToCache
inv_to to t command c = if times c to == 1 then command c ++ Inv t ∷ [] else command c

abbrev pub sent_to : List ℕ → (ℕ → Ack) → ℕ → Ack
sent_to to inv c = if times c to == 1 then InvSent else inv c

wiped_all-same : (to : List ℕ) (t : ℕ) (directory : ℕ → ℕ → Entry) (c w u : ℕ)
    → Holds (wiped_in_caches to t directory c w) u
    → wiped_in_caches to t directory c w ≡ directory c w
wiped_all-same to t directory c w u k = grind arith

wiped_all-fewer : (to : List ℕ) (t : ℕ) (directory : ℕ → ℕ → Entry) → Fewer (wiped_in_caches to t directory) directory
wiped_all-fewer to t directory = record {
  holds = λ c w u k. subst (λ (h : Entry). Holds h u) (wiped_all-same to t directory c w u k) k;
  writes = λ c w u k e. ap (λ (h : Entry). is_writable h.state) (wiped_all-same to t directory c w u k) ∙ e;
}

OneOwner-wiped : (to : List ℕ) (t : ℕ) (directory : ℕ → ℕ → Entry) → OneOwner directory
    → OneOwner (wiped_in_caches to t directory)
OneOwner-wiped to t directory one u c w o v k l n e =
    let a : wiped_in_caches to t directory c w ≡ directory c w = wiped_all-same to t directory c w u k in
    let b : wiped_in_caches to t directory o v ≡ directory o v = wiped_all-same to t directory o v u l in
    ap (λ (h : Entry). is_owner_like h.state) b
    ∙ one u c w o v (subst (λ (h : Entry). Holds h u) a k) (subst (λ (h : Entry). Holds h u) b l) n
    (sym (ap (λ (h : Entry). is_owner_like h.state) a) ∙ e)

module _ (part : GroupState) (r : ℕ) (b : InProgress) (wb : WriteBack) (rd : Reading) (wr : Bool) (ws : List ℕ) (fl : Flush) (inv : ℕ
    → Ack) (to : List ℕ)
    (good : Good (Open r b fl inv) (record part { transaction = Some (open_transaction r b wb rd wr ws) }))
    (not_own : times r to ≡ 0)
    (once : (c : ℕ) → times c to ≤ 1)
    (sharer : (c : ℕ) → times c to ≡ 1 → (w : ℕ) × Holds (part.directory c w) (op_tag b.op))
    (light : (c w : ℕ) → times c to ≡ 1 → Holds (part.directory c w) (op_tag b.op)
    → is_light (part.directory c w).state ≡ true) where
  no_inv_yet : (c : ℕ) → times c to ≡ 1 → inv c ≡ NoInv
  no_inv_yet c entry = no_inv (inv c) (λ n. good.copies.standing.1.gone c (sharer c entry).0 n (sharer c entry).1)

  sent-commands : (c : ℕ) → inv_to to (op_tag b.op) part.command c ≡ commands_of (Open r b fl (sent_to to inv)) c
  sent-commands c = lem (no_inv_yet c) (good.commands c)
    where
      lem : (times c to ≡ 1 → inv c ≡ NoInv) → part.command c ≡ flush_command fl c ++ inv_command (op_tag b.op) (inv c)
          → inv_to to (op_tag b.op) part.command c ≡ commands_of (Open r b fl (sent_to to inv)) c
      lem f entry = grind (arith, nat_tests)

  sent-responses : (c : ℕ) → part.response c ≡ responses_of (Open r b fl (sent_to to inv)) c
  sent-responses c = lem (no_inv_yet c) (good.responses c)
    where
      lem : (times c to ≡ 1 → inv c ≡ NoInv) → part.response c ≡ flush_response fl c ++ inv_response (op_tag b.op) (inv c)
          → part.response c ≡ responses_of (Open r b fl (sent_to to inv)) c
      lem f entry = grind (arith, nat_tests)

  sent-due : (c : ℕ) → times c (ws ++ to) ≡ acks_due (sent_to to inv c)
  sent-due c = lem (no_inv_yet c) (once c) (good.transaction.acks c) (times-append c ws to)
    where
      lem : (times c to ≡ 1 → inv c ≡ NoInv) → times c to ≤ 1 → times c ws ≡ acks_due (inv c)
          → times c (ws ++ to) ≡ times c ws + times c to
          → times c (ws ++ to) ≡ acks_due (sent_to to inv c)
      lem f entry k l = grind (arith, nat_tests)

  sent-matches : (c w : ℕ)
      → Matches (wiped_in_caches to (op_tag b.op) part.directory c w)
      (expected_entry (Open r b fl (sent_to to inv)) c w (part.entries c w))
  sent-matches c w = lem (no_inv_yet c) (good.copies.matches c w)
    where
      lem : (times c to ≡ 1 → inv c ≡ NoInv)
          → Matches (part.directory c w) (inv_effect (op_tag b.op) (inv c) (flush_effect fl c w (part.entries c w)))
          → Matches (wiped_in_caches to (op_tag b.op) part.directory c w)
          (inv_effect (op_tag b.op) (sent_to to inv c) (flush_effect fl c w (part.entries c w)))
      lem f m = at (flush_effect fl c w (part.entries c w)) (part.directory c w) m
        where
          at : (entry d : Entry) → Matches d (inv_effect (op_tag b.op) (inv c) entry)
              → Matches (if times c to == 1 then wiped_entry (op_tag b.op) d else d) (inv_effect (op_tag b.op) (sent_to to inv c) entry)
          at entry d m = grind (arith, nat_tests)

  sent-gone : (c w : ℕ) → sent_to to inv c ≢ NoInv
      → Holds (wiped_in_caches to (op_tag b.op) part.directory c w) (op_tag b.op) → ⊥
  sent-gone c w n k = lem (good.copies.standing.1.gone c w)
    where
      lem : (inv c ≢ NoInv → Holds (part.directory c w) (op_tag b.op) → ⊥) → ⊥
      lem f = grind (arith, nat_tests)

  sent-clean : (c w : ℕ) → sent_to to inv c ≡ InvSent → Holds (part.entries c w) (op_tag b.op)
      → is_light (flush_effect fl c w (part.entries c w)).state ≡ true
  sent-clean c w entry k = lem (no_inv_yet c) (good.copies.matches c w) (light c w) (good.copies.standing.1.clean c w)
    where
      lem : (times c to ≡ 1 → inv c ≡ NoInv)
          → Matches (part.directory c w) (inv_effect (op_tag b.op) (inv c) (flush_effect fl c w (part.entries c w)))
          → (times c to ≡ 1 → Holds (part.directory c w) (op_tag b.op) → is_light (part.directory c w).state ≡ true)
          → (inv c ≡ InvSent → Holds (part.entries c w) (op_tag b.op)
          → is_light (flush_effect fl c w (part.entries c w)).state ≡ true)
          → is_light (flush_effect fl c w (part.entries c w)).state ≡ true
      lem f m l old = grind (arith, nat_tests)

  -- Each cache in the list had the block in a light state and no Inv: the directory's entry goes now, the cache's when the Inv comes.
  pub invalidate_good : Good (Open r b fl (sent_to to inv)) (record part {
    directory = wiped_in_caches to (op_tag b.op) part.directory;
    command = inv_to to (op_tag b.op) part.command;
    transaction = Some (open_transaction r b wb rd wr (ws ++ to));
  })
  invalidate_good = record {
    commands = sent-commands;
    fills = good.fills;
    responses = sent-responses;
    requests = good.requests;
    taker = good.taker;
    placed = good.placed;
    transaction =
        record {
          is_cache = refl;
          is_request = refl;
          ungranted = refl;
          flush = good.transaction.flush;
          acks = sent-due;
          no_requester_debt = refl;
          no_owner_debt = refl;
          apart = good.transaction.apart;
          kept_apart = good.transaction.kept_apart;
        };
    pending = good.pending;
    taken_count = good.taken_count;
    copies = record {
      matches = sent-matches;
      one_way = OneWay-fewer (wiped_all-fewer to (op_tag b.op) part.directory) good.copies.one_way;
      alone = Alone-fewer (wiped_all-fewer to (op_tag b.op) part.directory) good.copies.alone;
      one_owner = OneOwner-wiped to (op_tag b.op) part.directory good.copies.one_owner;
      real_way = good.copies.real_way;
      real_alone = good.copies.real_alone;
      standing = (
        good.copies.standing.0,
        record {
          not_own = own (good.copies.standing.1.not_own);
          gone = sent-gone;
          clean = sent-clean;
          behind = λ c entry. behind c entry (good.copies.standing.1.behind c);
        },
      );
    };
    values = record {
      copies = good.values.copies;
      memory = λ u k home. good.values.memory u k (record { clean = home.clean; not_flying = home.not_flying; not_kept = home.not_kept });
      flying = good.values.flying;
      ungranted = record { kept = good.values.ungranted.kept; read = good.values.ungranted.read; written = good.values.ungranted.written };
    };
    channels = record { count = good.channels.count; to = good.channels.to; back = good.channels.back };
    kind = refl;
    answers = good.answers;
  }
    where
      own : inv r ≡ NoInv → sent_to to inv r ≡ NoInv
      own entry = grind (arith, nat_tests)

      behind : (c : ℕ) → sent_to to inv c ≡ InvAcked → (inv c ≡ InvAcked → flush_command fl c ≡ [])
          → flush_command fl c ≡ []
      behind c entry f = grind (arith, nat_tests)
