-- What the head of a response channel, or of the memory's, says of the transaction.
use Rattle.std.proofs.Common.{◌≡◌, ℕ, suc, ◌+◌, Bool, true, false, ◌&&◌, not, refl, arith, List, [], ◌∷◌, ◌++◌, length, sym, ◌∙◌, subst, ap}
use Rattle.std.specs.Prelude.{Option, Some, None, if◌then◌else◌}
use Rattle.std.proofs.lemmas.Bool.Decides.{nat_tests}
use Rattle.bk_machine.specs.Entries.{times}
use Rattle.bk_machine.specs.Messages.{Response, InvAck, CohAck, MemoryBlock, answer_of, op_tag}
use Rattle.bk_machine.specs.Transactions.{InProgress, Transaction, WriteBack, Idle, FlushAsked, FlushKept, Reading, ReadAsked, is_asked}
use Rattle.bk_machine.specs.World.{World, of_group, option_of_group}
use Rattle.bk_machine.specs.Phases.{Flush, NoFlush, FlushSent, FlushDone, Ack, InvAcked, Phase, Free, Open, Flying, Settling, responses_of, flush_response, inv_response, at_cache}
use Rattle.bk_machine.specs.Values.{read_count, is_reading}
use Rattle.bk_machine.specs.Invariant.{TransactionAt, OpenTransaction, EveryGroup, acks_due, flush_state}
use Rattle.bk_machine.specs.Claims.{ServesUngranted, Collectable}
use Rattle.bk_machine.proofs.View.{of_group-head}
use Rattle.bk_machine.proofs.Foreign.{option_of_group-back}

-- the transaction of a group at an open phase
at-open : (r : ℕ) (b : InProgress) (fl : Flush) (inv : ℕ → Ack) (o : Option Transaction) → TransactionAt (Open r b fl inv) o
    → (x : Transaction) × (o ≡ Some x) × OpenTransaction r b fl inv x
at-open r b fl inv None t = absurd t
at-open r b fl inv (Some x) t = (x, refl, t)

-- an InvAck: an invalidation of the cache is acknowledged
ack-phase : (p : Phase) (c t : ℕ) (rest : List Response) (o : Option Transaction) → responses_of p c ≡ InvAck t ∷ rest
    → TransactionAt p o
    → (x : Transaction) × (o ≡ Some x) × (x.granted ≡ false) × (times c x.waiting ≡ 1)
ack-phase Free c t rest o e a = absurd (cc e)
ack-phase (Open r b fl inv) c t rest o e a = at (at-open r b fl inv o a)
  where
    acked : (fl : Flush) (y : Ack) → flush_response fl c ++ inv_response (op_tag b.op) y ≡ InvAck t ∷ rest → y ≡ InvAcked
    acked fl y e = grind (arith, nat_tests)

    at : (x : Transaction) × (o ≡ Some x) × OpenTransaction r b fl inv x → (x : Transaction) × (o ≡ Some x)
        × (x.granted ≡ false)
        × (times c x.waiting ≡ 1)
    at (x, q, open_at) = (x, q, open_at.ungranted, open_at.acks c ∙ ap acks_due (acked fl (inv c) e))
ack-phase (Flying r b f) c t rest o e a = absurd (cc e)
ack-phase (Settling r u) c t rest o e a = absurd (none e)
  where
    none : at_cache c r (CohAck u) ≡ InvAck t ∷ rest → ⊥
    none e = grind arith

-- a Wb or NullWb: a flush is answered
asked-if : (fl : Flush) (y : WriteBack) (c t : ℕ) (words : Option (ℕ → ℕ)) → fl ≡ FlushDone c t words → flush_state fl y
    → y ≡ FlushAsked
asked-if fl Idle c t words e s = absurd (subst (λ (f : Flush). flush_state f Idle) e s)
asked-if fl FlushAsked c t words e s = refl
asked-if fl (FlushKept b) c t words e s = absurd (subst (λ (f : Flush). flush_state f (FlushKept b)) e s)

-- A Wb or NullWb is on its way only at an open phase whose flush is answered, and there the record says that a flush is asked.
answer-phase : (p : Phase) (c t : ℕ) (words : Option (ℕ → ℕ)) (rest : List Response) (o : Option Transaction)
    → responses_of p c ≡ answer_of t words ∷ rest
    → TransactionAt p o
    → (x : Transaction) × (o ≡ Some x) × (x.granted ≡ false) × (x.write_back ≡ FlushAsked)
answer-phase Free c t words rest o e a = absurd (none e)
  where
    none : [] ≡ answer_of t words ∷ rest → ⊥
    none e = cc
answer-phase (Open r b fl inv) c t words rest o e a = at (at-open r b fl inv o a)
  where
    done : (fl : Flush) (y : Ack) (words : Option (ℕ → ℕ)) → flush_response fl c ++ inv_response (op_tag b.op) y
        ≡ answer_of t words ∷ rest
        → (u : ℕ) × (v : Option (ℕ → ℕ)) × (fl ≡ FlushDone c u v)
    done NoFlush y words e = absurd (none y words e)
      where
        none : (y : Ack) (words : Option (ℕ → ℕ)) → inv_response (op_tag b.op) y ≡ answer_of t words ∷ rest → ⊥
        none y words e = grind arith
    done (FlushSent q w u x) y words e = absurd (none y words e)
      where
        none : (y : Ack) (words : Option (ℕ → ℕ)) → inv_response (op_tag b.op) y ≡ answer_of t words ∷ rest → ⊥
        none y words e = grind arith
    done (FlushDone q u v) y words e = (u, v, ap (λ (i : ℕ). FlushDone i u v) (same y v words e))
      where
        same : (y : Ack) (v words : Option (ℕ → ℕ)) → at_cache c q (answer_of u v) ++ inv_response (op_tag b.op) y
            ≡ answer_of t words ∷ rest → q ≡ c
        same y v words e = grind (arith, nat_tests)

    at : (x : Transaction) × (o ≡ Some x) × OpenTransaction r b fl inv x → (x : Transaction) × (o ≡ Some x)
        × (x.granted ≡ false)
        × (x.write_back ≡ FlushAsked)
    at (x, q, open_at) =
        let d = done fl (inv c) words e in
        (x, q, open_at.ungranted, asked-if fl x.write_back c d.0 d.1 d.2 open_at.flush)
answer-phase (Flying r b f) c t words rest o e a = absurd (none e)
  where
    none : [] ≡ answer_of t words ∷ rest → ⊥
    none e = cc
answer-phase (Settling r u) c t words rest o e a = absurd (none words e)
  where
    none : (words : Option (ℕ → ℕ)) → at_cache c r (CohAck u) ≡ answer_of t words ∷ rest → ⊥
    none words e = grind arith

-- a Block: a read is asked
is-read : (x : Reading) → is_asked x ≡ true → x ≡ ReadAsked
is-read x e = grind arith

reading-some : (o : Option Transaction) (n number : ℕ) → n + suc number ≡ (if is_reading o then 1 else 0)
    → (x : Transaction) × (o ≡ Some x) × (x.granted ≡ false) × (x.reading ≡ ReadAsked)
reading-some None n number e = absurd (none n number e)
  where
    none : (n number : ℕ) → ◌≡◌ {A = ℕ} (n + suc number) 0 → ⊥
    none n number e = grind arith
reading-some (Some x) n number e = (
  x,
  refl,
  (both (not x.granted) x.granted refl).0,
  is-read x.reading (both (not x.granted) x.granted refl).1,
)
  where
    both : (b test : Bool) → b ≡ not x.granted → (x.granted ≡ false) × (is_asked x.reading ≡ true)
    both b test q = lem x.granted (is_asked x.reading) e
      where
        lem : (test a : Bool) → n + suc number ≡ (if not test && a then 1 else 0) → (test ≡ false) × (a ≡ true)
        lem test a e = grind arith

module _ (world : World) (all : EveryGroup world) where
  back : {P : Transaction → Type 0} (u : ℕ)
      → ((x : Transaction) × (option_of_group u world.transaction ≡ Some x) × (x.granted ≡ false) × P x)
      → ServesUngranted world u P
  back u (x, e, g, p) = record { transaction = x; is = option_of_group-back u world.transaction x e; ungranted = g; so = p }

  pub collectable : Collectable world
  collectable = record {
    ack =
        λ u c t rest e. back u
        (ack-phase (all u).0 c t (of_group u rest) (option_of_group u world.transaction) (sym ((all u).1.responses c)
        ∙ of_group-head u (world.response c) rest (InvAck t) e) (all u).1.transaction);
    answer =
        λ u c t words rest e.
        back u (answer-phase (all u).0 c t words (of_group u rest) (option_of_group u world.transaction) (sym ((all u).1.responses c)
        ∙ of_group-head u (world.response c) rest (answer_of t words) e) (all u).1.transaction);
    block = λ u b rest e.
        back u (reading-some (option_of_group u world.transaction) (read_count (of_group u world.memout)) (length (of_group u rest))
        (subst (λ (bs : List MemoryBlock). read_count (of_group u world.memout) + length bs
        ≡ (if is_reading (option_of_group u world.transaction) then 1 else 0)) (of_group-head u world.memin rest b e)
        (all u).1.channels.count));
  }
