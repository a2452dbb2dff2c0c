-- A request is taken; a group is settled.
use Rattle.std.proofs.Common.{◌≡◌, ℕ, ◌+◌, Bool, true, false, not, refl, arith, List, [], ◌∷◌, sym, ◌∙◌, ap}
use Rattle.std.specs.Prelude.{Option, Some, None, ◌==◌}
use Rattle.std.proofs.lemmas.Bool.Decides.{nat_tests}
use Rattle.bk_base.specs.Tables.{put}
use Rattle.bk_machine.specs.Messages.{Request, Response, request_of}
use Rattle.bk_machine.specs.Transactions.{InProgress, Idle, NotRead, open_transaction}
use Rattle.bk_machine.specs.Phases.{NoFlush, NoInv, Phase, Free, Open, Settling, is_taken, requests_of}
use Rattle.bk_machine.specs.World.{GroupState}
use Rattle.bk_machine.specs.Invariant.{Good, is_free}
use Rattle.bk_machine.proofs.Unchanged.{copies-at}
use Rattle.bk_machine.proofs.Settle.{channels-none}

module _ (part : GroupState) (c : ℕ) (b : InProgress) (rest : List Request) (good : Good Free (record part { transaction = None }))
    (busy : part.busy c ≡ Some b) (last : rest ≡ []) where
  taken-requests : (i : ℕ) → put part.request c rest i ≡ requests_of (i == c) (part.busy i)
  unfolding put
  taken-requests i = grind (arith, nat_tests, good.requests i)

  -- The request leaves its channel, and the phase opens with nothing under way. Entries and words stay.
  pub take_good : Good (Open c b NoFlush (λ i. NoInv)) (record part {
    request = put part.request c rest;
    transaction = Some (open_transaction c b Idle NotRead false []);
    pending = true;
    taken_count = part.taken_count + 1;
  })
  take_good = record {
    commands = good.commands;
    fills = good.fills;
    responses = good.responses;
    requests = taken-requests;
    taker = busy;
    placed = good.placed;
    transaction =
        record {
          is_cache = refl;
          is_request = refl;
          ungranted = refl;
          flush = tt;
          acks = λ i. refl;
          no_requester_debt = refl;
          no_owner_debt = refl;
          apart = λ e. refl;
          kept_apart = λ e. refl;
        };
    pending = refl;
    taken_count = omega (arith, good.taken_count);
    copies = copies-at
        good.copies.matches
        (tt, record { not_own = refl; gone = λ i w n k. n refl; clean = λ i w e k. absurd (cc e); behind = λ i e. refl }) good.copies;
    values = record {
      copies = good.values.copies;
      memory = λ u k home. good.values.memory u k (record { clean = home.clean; not_flying = refl; not_kept = refl });
      flying = tt;
      ungranted = record { kept = tt; read = tt; written = tt };
    };
    channels = channels-none None (Some (open_transaction c b Idle NotRead false [])) _ _ _ _ _ refl refl good.channels;
    kind = refl;
    answers = good.answers;
  }

module _ (part : GroupState) (c t : ℕ) (rest : List Response) (good : Good (Settling c t) (record part { transaction = None }))
    (last : rest ≡ []) where
  settled-responses : (i : ℕ) → put part.response c rest i ≡ []
  unfolding put
  settled-responses i = grind (arith, nat_tests, good.responses i)

  -- The CohAck leaves its channel, and the group has no request any more. Entries and words stay.
  pub settle_good : Good Free (record part {
    response = put part.response c rest;
    transaction = None;
    pending = false;
    settled_count = part.settled_count + 1;
  })
  settle_good = record {
    commands = good.commands;
    fills = good.fills;
    responses = settled-responses;
    requests = good.requests;
    taker = tt;
    placed = good.placed;
    transaction = tt;
    pending = refl;
    taken_count = omega (arith, good.taken_count);
    copies = copies-at good.copies.matches tt good.copies;
    values = record {
      copies = good.values.copies;
      memory = λ u k home. good.values.memory u k (record { clean = home.clean; not_flying = refl; not_kept = refl });
      flying = tt;
      ungranted = tt;
    };
    channels = good.channels;
    kind = refl;
    answers = good.answers;
  }

-- the head of a request channel, where the group is not pending
pub take_head : (p : Phase) (part : GroupState) (c : ℕ) (q : Request) (rest : List Request) → Good p part → part.pending ≡ false
    → part.request c ≡ q ∷ rest
    → (p ≡ Free) × (rest ≡ []) × ((b : InProgress) × (part.busy c ≡ Some b) × (q ≡ request_of b.op b.way))
take_head p part c q rest good e k = (free p (good.pending), last (part.busy c) refl, busy (part.busy c) refl)
  where
    free : (p : Phase) → part.pending ≡ not (is_free p) → p ≡ Free
    free p f = grind arith

    asked : (o : Option InProgress) → part.busy c ≡ o → requests_of (is_taken p c) o ≡ q ∷ rest
    asked o f = sym (ap (requests_of (is_taken p c)) f) ∙ sym (good.requests c) ∙ k

    last : (o : Option InProgress) → part.busy c ≡ o → rest ≡ []
    last o f = ending (is_taken p c) o (asked o f)
      where
        ending : (y : Bool) (o : Option InProgress) → requests_of y o ≡ q ∷ rest → rest ≡ []
        ending y o f = grind arith

    busy : (o : Option InProgress) → part.busy c ≡ o → (b : InProgress) × (part.busy c ≡ Some b) × (q ≡ request_of b.op b.way)
    busy o f = found (is_taken p c) o f (asked o f)
      where
        found : (y : Bool) (o : Option InProgress) → part.busy c ≡ o → requests_of y o ≡ q ∷ rest
            → (b : InProgress) × (part.busy c ≡ Some b) × (q ≡ request_of b.op b.way)
        found y None f e = absurd (cc e)
        found true (Some b) f e = absurd (cc e)
        found false (Some b) f e = (b, f, cc)
