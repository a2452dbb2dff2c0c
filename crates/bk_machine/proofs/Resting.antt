-- A quiet machine that serves no request rests: no group is pending and no cache waits.
use Rattle.std.proofs.Common.{◌≡◌, ℕ, false, not, refl, arith, [], sym, ◌∙◌, subst, ap}
use Rattle.std.specs.Prelude.{Option, Some, None}
use Rattle.std.proofs.lemmas.Bool.Decides.{nat_tests}
use Rattle.bk_machine.specs.Messages.{StTr, Blk, StWake, UcBlk, CohAck, op_tag, op_word}
use Rattle.bk_machine.specs.Transactions.{InProgress, Transaction}
use Rattle.bk_machine.specs.Phases.{Flight, ByBlock, ByWake, ByTransfer, ByFill, ByWord, ByDone, Phase, Free, Open, Flying, Settling, commands_of, fills_of, responses_of, is_taken, requests_of, at_cache, flight_command, flight_fill, uncached_done}
use Rattle.bk_machine.specs.Invariant.{TransactionAt, is_free}
use Rattle.bk_machine.specs.World.{World, of_group, option_of_group}
use Rattle.bk_machine.specs.Claims.{Quiet, Rested}
use Rattle.bk_machine.proofs.View.{option_of_group-here}
use Rattle.bk_machine.specs.Invariant.{EveryGroup}

-- of a phase with nothing on its way
at_rest : (p : Phase) → ((c : ℕ) → commands_of p c ≡ []) → ((c o : ℕ) → fills_of p c o ≡ [])
    → ((c : ℕ) → responses_of p c ≡ [])
    → TransactionAt p None
    → p ≡ Free
at_rest Free a b d t = refl
at_rest (Open r b fl inv) a f d t = absurd t
at_rest (Flying r b f) a e d t = absurd (moving f a (e r))
  where
    moving : (f : Flight) → ((c : ℕ) → flight_command f r b c ≡ []) → ((o : ℕ) → flight_fill f r b r o ≡ []) → ⊥
    moving (ByBlock x ws) k l = none (k r)
      where
        none : at_cache r r (Blk (op_tag b.op) b.way x ws) ≡ [] → ⊥
        none k = grind (arith, nat_tests)
    moving ByWake k l = none (k r)
      where
        none : at_cache r r (StWake (op_tag b.op) b.way) ≡ [] → ⊥
        none k = grind (arith, nat_tests)
    moving (ByTransfer o ow y x) k l = none (k o)
      where
        none : at_cache o o (StTr (op_tag b.op) y r b.way x) ≡ [] → ⊥
        none k = grind (arith, nat_tests)
    moving (ByFill o x ws) k l = none (l o)
      where
        none : flight_fill (ByFill o x ws) r b r o ≡ [] → ⊥
        none k = grind (arith, nat_tests)
    moving (ByWord n) k l = none (k r)
      where
        none : at_cache r r (UcBlk (op_tag b.op) (op_word b.op) n) ≡ [] → ⊥
        none k = grind (arith, nat_tests)
    moving ByDone k l = none (k r)
      where
        none : at_cache r r (uncached_done b.op) ≡ [] → ⊥
        none k = grind (arith, nat_tests)
at_rest (Settling r t) a b d e = absurd (none (d r))
  where
    none : at_cache r r (CohAck t) ≡ [] → ⊥
    none k = grind (arith, nat_tests)

idle : (o : Option InProgress) → requests_of false o ≡ [] → o ≡ None
idle o e = grind arith

of-every-group : {X : Type 0} (x : Option (ℕ × X)) → ((g : ℕ) → option_of_group g x ≡ None) → x ≡ None
of-every-group None f = refl
of-every-group {X} (Some x) f = absurd (none (option_of_group-here x.0 x.1) (f x.0))
  where
    none : option_of_group x.0 (Some (x.0, x.1)) ≡ Some x.1 → option_of_group x.0 (Some x) ≡ None → ⊥
    none a b = cc

pub quiet_rests : (world : World) → EveryGroup world → Quiet world → Rested world
quiet_rests world all q = record {
  not_pending = λ g. good_pending g;
  idle = λ c. of-every-group (world.busy c) (λ g. idle (option_of_group g (world.busy c)) (sym (asked g c)));
}
  where
    free : (g : ℕ) → (all g).0 ≡ Free
    free g = at_rest (all g).0 (λ c. sym ((all g).1.commands c) ∙ ap (of_group g) (q.commands c)) (λ c o. sym ((all g).1.fills c o)
        ∙ ap (of_group g) (q.fills c o))
        (λ c. sym ((all g).1.responses c) ∙ ap (of_group g) (q.responses c))
        (subst (λ (transaction : Option Transaction). TransactionAt (all g).0 transaction) (ap (option_of_group g) q.no_transaction)
        (all g).1.transaction)

    good_pending : (g : ℕ) → world.pending g ≡ false
    good_pending g = (all g).1.pending ∙ ap (λ (p : Phase). not (is_free p)) (free g)

    asked : (g c : ℕ) → [] ≡ requests_of false (option_of_group g (world.busy c))
    asked g c = sym (ap (of_group g) (q.requests c)) ∙ (all g).1.requests c
        ∙ ap (λ (p : Phase). requests_of (is_taken p c) (option_of_group g (world.busy c))) (free g)
