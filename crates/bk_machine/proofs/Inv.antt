-- An invalidation comes to its cache.
use Rattle.std.proofs.Common.{◌≡◌, ℕ, refl, arith, List, [], ◌∷◌, ◌++◌, sym, ◌∙◌}
use Rattle.std.proofs.lemmas.Bool.Decides.{nat_tests}
use Rattle.bk_base.specs.Tables.{put}
use Rattle.bk_machine.specs.Messages.{ToCache, Inv, InvAck, op_tag}
use Rattle.bk_machine.specs.Transactions.{InProgress, paid_directory}
use Rattle.bk_machine.specs.Phases.{Flush, Ack, InvSent, InvAcked, Flight, Phase, Free, Open, Flying, Settling, commands_of, responses_of, flush_command, inv_command, flight_command}
use Rattle.bk_machine.specs.World.{GroupState}
use Rattle.bk_machine.specs.Entries.{wiped_in_cache}
use Rattle.bk_machine.specs.Invariant.{Good, acks_due}
use Rattle.bk_machine.proofs.Growing.{TransactionAt-moves}
use Rattle.bk_machine.proofs.Fewer.{Fewer, wipe-lighter, wipe-fewer, OneWay-fewer, Alone-fewer, WaitingCopies-fewer, FlushValues-fewer, OpenValues-fewer}
use Rattle.bk_machine.proofs.Copies.{inv-matches, inv-aims, inv-going, inv-clean}

abbrev pub after_inv : GroupState → ℕ → ℕ → List ToCache → GroupState
after_inv part c t rest = record part {
  entries = wiped_in_cache c t part.entries;
  command = put part.command c rest;
  response = put part.response c (part.response c ++ InvAck t ∷ []);
}

-- what a channel that begins with an invalidation says of the phase
pub record InvHead (c t u : ℕ) (rest : List ToCache) (fl : Flush) (a : Ack) : Type 0 where
  pub sent : a ≡ InvSent
  pub quiet : flush_command fl c ≡ []
  pub tag : t ≡ u
  pub last : rest ≡ []

inv_head : (c t u : ℕ) (rest : List ToCache) (fl : Flush) (a : Ack) → flush_command fl c ++ inv_command u a ≡ Inv t ∷ rest
    → InvHead c t u rest fl a
inv_head c t u rest fl a e = grind arith

module _ (part : GroupState) (r c t : ℕ) (b : InProgress) (fl : Flush) (inv : ℕ → Ack) (rest : List ToCache)
    (good : Good (Open r b fl inv) part) (head : InvHead c t (op_tag b.op) rest fl (inv c)) where
  inv-commands : (i : ℕ) → put part.command c rest i ≡ commands_of (Open r b fl (put inv c InvAcked)) i
  unfolding put
  inv-commands i = grind (arith, nat_tests, good.commands i)

  inv-responses : (i : ℕ) → put part.response c (part.response c ++ InvAck t ∷ []) i
      ≡ responses_of (Open r b fl (put inv c InvAcked)) i
  unfolding put
  inv-responses i = grind (arith, nat_tests, good.responses)

  inv-due : (i : ℕ) → acks_due (inv i) ≡ acks_due (put inv c InvAcked i)
  unfolding put
  inv-due i = grind (arith, nat_tests)

  fewer : Fewer (wiped_in_cache c t part.entries) part.entries
  fewer = wipe-fewer c t part.entries

  -- The copy that is dropped was light, so nothing is lost; the InvAck takes the place of the Inv.
  pub inv-good : Good (Open r b fl (put inv c InvAcked)) (after_inv part c t rest)
  inv-good = record {
    commands = inv-commands;
    fills = good.fills;
    responses = inv-responses;
    requests = good.requests;
    taker = good.taker;
    placed = λ i x e. WaitingCopies-fewer fewer x.op x.way i (good.placed i x e);
    transaction = TransactionAt-moves r b fl fl inv (put inv c InvAcked) (λ x p. p) (λ u. refl) inv-due part.transaction good.transaction;
    pending = good.pending;
    taken_count = good.taken_count;
    copies = record {
      matches = λ i w. inv-matches r c t b fl inv (paid_directory part.transaction part.directory) part.entries head.sent head.quiet
          head.tag i w (good.copies.matches i w);
      one_way = good.copies.one_way;
      alone = good.copies.alone;
      one_owner = good.copies.one_owner;
      real_way = OneWay-fewer fewer good.copies.real_way;
      real_alone = Alone-fewer fewer good.copies.real_alone;
      standing = (
        inv-aims r c t b fl inv (paid_directory part.transaction part.directory) part.entries head.sent head.quiet head.tag
            good.copies.standing.0,
        inv-going r c t b fl inv (paid_directory part.transaction part.directory) part.entries head.sent head.quiet head.tag
            good.copies.standing.1,
      );
    };
    values = record {
      copies = λ u i w k l. good.values.copies u i w k (fewer.holds i w u l);
      memory = λ u k home. good.values.memory u k (record {
        clean = inv-clean r c t b fl inv (paid_directory part.transaction part.directory) part.entries head.sent head.quiet head.tag
            good.copies.standing.1 u home.clean;
        not_flying = home.not_flying;
        not_kept = home.not_kept;
      });
      flying = FlushValues-fewer fewer fl _ good.values.flying;
      ungranted = OpenValues-fewer fewer (wipe-lighter c t part.entries) part.transaction _ _ good.values.ungranted;
    };
    channels = good.channels;
    kind = refl;
    answers = good.answers;
  }

-- an invalidation comes: all stays good
pub inv_comes : (part : GroupState) (c t : ℕ) (rest : List ToCache) (p : Phase) → Good p part → part.command c ≡ Inv t ∷ rest
    → (q : Phase) × Good q (after_inv part c t rest)
inv_comes part c t rest Free good e = absurd (cc (good.commands c))
inv_comes part c t rest (Open r b fl inv) good e = (
  Open r b fl (put inv c InvAcked),
  inv-good part r c t b fl inv rest good (inv_head c t (op_tag b.op) rest fl (inv c) (sym (good.commands c) ∙ e)),
)
inv_comes part c t rest (Flying r b f) good e = absurd (no_flying f r b c t rest (sym (good.commands c) ∙ e))
  where
    no_flying : (f : Flight) (r : ℕ) (b : InProgress) (c t : ℕ) (rest : List ToCache)
        → flight_command f r b c ≡ Inv t ∷ rest → ⊥
    no_flying f r b c t rest e = grind arith
inv_comes part c t rest (Settling r u) good e = absurd (cc (good.commands c))
