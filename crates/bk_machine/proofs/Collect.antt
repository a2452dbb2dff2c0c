-- The engine takes the head of a response channel, or a block from memory.
use Rattle.std.proofs.Common.{◌≡◌, ℕ, ◌+◌, ◌<◌, Bool, true, false, ◌||◌, refl, arith, List, [], ◌∷◌, subst}
use Rattle.std.specs.Prelude.{Option, Some, None, if◌then◌else◌, ◌==◌}
use Rattle.std.proofs.lemmas.Bool.Decides.{nat_tests}
use Rattle.bk_base.specs.Tables.{put}
use Rattle.bk_machine.specs.Messages.{Response, MemoryBlock, op_tag, request_of, request_tag}
use Rattle.bk_machine.specs.Transactions.{InProgress, WriteBack, Idle, FlushAsked, FlushKept, Reading, ReadAsked, Got, open_transaction, remove_one, write_back_after}
use Rattle.bk_machine.specs.Entries.{times}
use Rattle.bk_machine.specs.Phases.{Flush, NoFlush, FlushDone, Ack, NoInv, InvAcked, Open, commands_of, responses_of, expected_entry, flush_response, inv_response}
use Rattle.bk_machine.specs.World.{GroupState}
use Rattle.bk_machine.specs.Words.{latest}
use Rattle.bk_machine.specs.Copies.{Matches, Invalidating}
use Rattle.bk_machine.specs.Values.{FlushValues, flush_away, kept_away, KeptValues, MemoryChannels}
use Rattle.bk_machine.specs.Invariant.{Good, flush_state, acks_due}
use Rattle.bk_machine.proofs.Unchanged.{copies-at}
use Rattle.bk_machine.proofs.Engine.{or_is_left}

first_is : (i c number n : ℕ) → (c == number) ≡ true → n + (if i == c then 1 else 0) ≡ (if i == number then 1 else 0) + n
first_is i c number n e = grind (arith, nat_tests)

count_later : (i c n : ℕ) (ys xs : List ℕ) → (c == n) ≡ false → 0 < times c (n ∷ xs)
    → (0 < times c xs → times i ys + (if i == c then 1 else 0) ≡ times i xs)
    → times i (n ∷ ys) + (if i == c then 1 else 0) ≡ times i (n ∷ xs)
count_later i c n ys xs e h f =
    let k0 : 0 < 0 + times c xs = subst (λ (y : Bool). 0 < (if y then 1 else 0) + times c xs) e h in
    let k : 0 < times c xs = omega arith in
    omega (arith, f k)

pub count-remove_one : (i c : ℕ) (xs : List ℕ) → 0 < times c xs
    → times i (remove_one c xs) + (if i == c then 1 else 0) ≡ times i xs
count-remove_one i c [] h = absurd (omega arith)
count-remove_one i c (x ∷ xs) h = step (c == x) refl (count-remove_one i c xs)
  where
    step : (y : Bool) → (c == x) ≡ y → (0 < times c xs → times i (remove_one c xs) + (if i == c then 1 else 0) ≡ times i xs)
        → times i (if y then xs else x ∷ remove_one c xs) + (if i == c then 1 else 0) ≡ times i (x ∷ xs)
    step true e f = first_is i c x _ e
    step false e f = count_later i c x (remove_one c xs) xs e h f

-- the acknowledgement of cache c
module _ (part : GroupState) (r c : ℕ) (b : InProgress) (wb : WriteBack) (rd : Reading) (wr : Bool) (ws : List ℕ)
    (fl : Flush) (inv : ℕ
    → Ack) (rest : List Response)
    (good : Good (Open r b fl inv) (record part { transaction = Some (open_transaction r b wb rd wr ws) })) (acked : inv c ≡ InvAcked)
    (quiet : flush_response fl c ≡ []) (last : rest ≡ []) where
  ack-commands : (i : ℕ) → part.command i ≡ commands_of (Open r b fl (put inv c NoInv)) i
  unfolding put
  ack-commands i = grind (arith, nat_tests, good.commands i)

  ack-responses : (i : ℕ) → put part.response c rest i ≡ responses_of (Open r b fl (put inv c NoInv)) i
  unfolding put
  ack-responses i = grind (arith, nat_tests, good.responses i)

  ack-due : (i : ℕ) → times i (remove_one c ws) + (if i == c then 1 else 0) ≡ times i ws → times i ws ≡ acks_due (inv i)
      → times i (remove_one c ws) ≡ acks_due (put inv c NoInv i)
  unfolding put
  ack-due i e f = grind (arith, nat_tests)

  some : 0 < times c ws
  some = lem (inv c) acked (good.transaction.acks c)
    where
      lem : (a : Ack) → a ≡ InvAcked → times c ws ≡ acks_due a → 0 < times c ws
      lem a e f = grind arith

  ack-matches : (i w : ℕ) → Matches (part.directory i w) (expected_entry (Open r b fl inv) i w (part.entries i w))
      → Matches (part.directory i w) (expected_entry (Open r b fl (put inv c NoInv)) i w (part.entries i w))
  unfolding put
  ack-matches i w m = grind (arith, nat_tests)

  ack-going : Invalidating r (op_tag b.op) fl inv part.directory part.entries
      → Invalidating r (op_tag b.op) fl (put inv c NoInv) part.directory part.entries
  unfolding put
  ack-going a = record {
    not_own = grind (arith, nat_tests);
    gone = λ i w n k. a.gone i w (grind (arith, nat_tests)) k;
    clean = λ i w e k. a.clean i w (grind (arith, nat_tests)) k;
    behind = λ i e. a.behind i (grind (arith, nat_tests));
  }

  -- The cache's one ack has come: it isn't waited for any more, and its invalidation is over.
  pub ack_good : Good (Open r b fl (put inv c NoInv)) (record part {
    response = put part.response c rest;
    transaction = Some (open_transaction r b wb rd wr (remove_one c ws));
  })
  ack_good = record {
    commands = ack-commands;
    fills = good.fills;
    responses = ack-responses;
    requests = good.requests;
    taker = good.taker;
    placed = good.placed;
    transaction =
        record {
          is_cache = refl;
          is_request = refl;
          ungranted = refl;
          flush = good.transaction.flush;
          acks = λ i. ack-due i (count-remove_one i c ws some) (good.transaction.acks i);
          no_requester_debt = refl;
          no_owner_debt = refl;
          apart = good.transaction.apart;
          kept_apart = good.transaction.kept_apart;
        };
    pending = good.pending;
    taken_count = good.taken_count;
    copies = copies-at
        (λ i v. ack-matches i v (good.copies.matches i v))
        (good.copies.standing.0, ack-going good.copies.standing.1) good.copies;
    values = record {
      copies = good.values.copies;
      memory = λ u k home. good.values.memory u k (record { clean = home.clean; not_flying = home.not_flying; not_kept = home.not_kept });
      flying = good.values.flying;
      ungranted = record { kept = good.values.ungranted.kept; read = good.values.ungranted.read; written = good.values.ungranted.written };
    };
    channels = record { count = good.channels.count; to = good.channels.to; back = good.channels.back };
    kind = refl;
    answers = good.answers;
  }

module _ (part : GroupState) (r c t : ℕ) (b : InProgress) (wb : WriteBack) (rd : Reading) (wr : Bool) (ws : List ℕ)
    (words : Option (ℕ → ℕ))
    (inv : ℕ → Ack) (rest : List Response)
    (good : Good (Open r b (FlushDone c t words) inv) (record part { transaction = Some (open_transaction r b wb rd wr ws) })) (last : rest
    ≡ inv_response (op_tag b.op) (inv c)) where
  back-responses : (i : ℕ) → put part.response c rest i ≡ responses_of (Open r b NoFlush inv) i
  unfolding put
  back-responses i = grind (arith, nat_tests, good.responses i)

  back-state : (words : Option (ℕ → ℕ)) → flush_state NoFlush (write_back_after t words)
  back-state None = tt
  back-state (Some test) = tt

  back-kept : (u : ℕ) → kept_away wb u ≡ false
  back-kept u = lem wb good.transaction.flush
    where
      lem : (wb : WriteBack) → flush_state (FlushDone c t words) wb → kept_away wb u ≡ false
      lem Idle s = absurd s
      lem FlushAsked s = refl
      lem (FlushKept test) s = absurd s

  back-away : (words : Option (ℕ → ℕ)) (u : ℕ) → kept_away (write_back_after t words) u ≡ false
      → flush_away (FlushDone c t words) u ≡ false
  back-away None u e = refl
  back-away (Some test) u e = e

  or_left : (test y z : Bool) → test || y ≡ false → z ≡ false → z || y ≡ false
  or_left test y z e f = grind arith

  back-values : (words : Option (ℕ → ℕ)) → FlushValues (FlushDone c t words) part.entries (latest part.history)
      → KeptValues (write_back_after t words) part.entries (latest part.history)
  back-values None q = tt
  back-values (Some test) q = q

  back-apart : (words : Option (ℕ → ℕ)) → (wr ≡ true → (request_tag (request_of b.op b.way) == t) ≡ false) → wr ≡ true
      → kept_away (write_back_after t words) (request_tag (request_of b.op b.way)) ≡ false
  back-apart None f e = refl
  back-apart (Some test) f e = f e

  -- The flush is over: what its answer brought is kept by the engine now, as the message had it before.
  pub back_good : Good (Open r b NoFlush inv) (record part {
    response = put part.response c rest;
    transaction = Some (open_transaction r b (write_back_after t words) rd wr ws);
  })
  back_good = record {
    commands = good.commands;
    fills = good.fills;
    responses = back-responses;
    requests = good.requests;
    taker = good.taker;
    placed = good.placed;
    transaction =
        record {
          is_cache = refl;
          is_request = refl;
          ungranted = refl;
          flush = back-state words;
          acks = good.transaction.acks;
          no_requester_debt = refl;
          no_owner_debt = refl;
          apart = λ e. refl;
          kept_apart = back-apart words good.transaction.apart;
        };
    pending = good.pending;
    taken_count = good.taken_count;
    copies = copies-at
        good.copies.matches (
          tt,
          record {
            not_own = good.copies.standing.1.not_own;
            gone = good.copies.standing.1.gone;
            clean = good.copies.standing.1.clean;
            behind = λ i e. refl;
          },
        ) good.copies;
    values = record {
      copies = good.values.copies;
      memory = λ u k home. good.values.memory u k (record {
        clean = home.clean;
        not_flying = back-away words u (or_is_left _ _ home.not_kept);
        not_kept = or_left _ _ _ home.not_kept (back-kept u);
      });
      flying = tt;
      ungranted = record {
        kept = back-values words good.values.flying;
        read = good.values.ungranted.read;
        written = good.values.ungranted.written;
      };
    };
    channels = record { count = good.channels.count; to = good.channels.to; back = good.channels.back };
    kind = refl;
    answers = good.answers;
  }

-- the block that was read
module _ (part : GroupState) (r t : ℕ) (b : InProgress) (wb : WriteBack) (wr : Bool) (ws : List ℕ) (xs : ℕ
    → ℕ) (fl : Flush) (inv : ℕ
    → Ack) (rest : List MemoryBlock)
    (good : Good (Open r b fl inv) (record part {
      transaction = Some (open_transaction r b wb ReadAsked wr ws);
      memin = record { tag = t; words = xs } ∷ rest;
    })) where
  got-channels : (v : ℕ → ℕ → ℕ)
      → MemoryChannels (Some (open_transaction r b wb ReadAsked wr ws)) part.memory v part.memout
      (record { tag = t; words = xs } ∷ rest)
      → MemoryChannels (Some (open_transaction r b wb (Got xs) wr ws)) part.memory v part.memout rest
  got-channels v c = record { count = omega (arith, c.count); to = c.to; back = c.back.2 }

  -- The one Block on its way has the latest words, so what the engine has now are the latest too.
  pub got_good : Good (Open r b fl inv) (record part { transaction = Some (open_transaction r b wb (Got xs) wr ws); memin = rest })
  got_good = record {
    commands = good.commands;
    fills = good.fills;
    responses = good.responses;
    requests = good.requests;
    taker = good.taker;
    placed = good.placed;
    transaction =
        record {
          is_cache = refl;
          is_request = refl;
          ungranted = refl;
          flush = good.transaction.flush;
          acks = good.transaction.acks;
          no_requester_debt = refl;
          no_owner_debt = refl;
          apart = good.transaction.apart;
          kept_apart = good.transaction.kept_apart;
        };
    pending = good.pending;
    taken_count = good.taken_count;
    copies = good.copies;
    values = record {
      copies = good.values.copies;
      memory = λ u k home. good.values.memory u k (record { clean = home.clean; not_flying = home.not_flying; not_kept = home.not_kept });
      flying = good.values.flying;
      ungranted = record {
        kept = good.values.ungranted.kept;
        read = (good.channels.back.1, good.values.ungranted.read);
        written = good.values.ungranted.written;
      };
    };
    channels = got-channels (latest part.history) good.channels;
    kind = refl;
    answers = good.answers;
  }
