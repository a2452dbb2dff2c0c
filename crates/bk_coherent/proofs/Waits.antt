-- What the engine waits for while it serves a request: where no command and no read of memory is under way, it has come.
use Rattle.std.proofs.Common.{◌≡◌, ℕ, ◌+◌, Bool, true, false, cond, eqb, refl, sym, ap, ◌∙◌, subst, arith, not, ◌&&◌, List, [], ◌∷◌, ◌++◌, length, Some}
use Rattle.std.proofs.lemmas.Bool.Decides.{nat_tests}
use Rattle.bk_base.specs.Counting.{is_nil}
use Rattle.bk_base.specs.Places.{Shape}
use Rattle.bk_machine.specs.Entries.{times}
use Rattle.bk_machine.specs.Values.{read_count, is_reading}
use Rattle.bk_machine.specs.Invariant.{Invariant, TransactionAt, flush_state, acks_due}
use Rattle.bk_machine.specs.Messages.{StWb, InvAck, answer_of, op_tag}
use Rattle.bk_machine.specs.Phases.{Flush, NoFlush, FlushSent, FlushDone, Ack, NoInv, InvSent, InvAcked, Phase, Free, Open, Flying, Settling, at_cache, flush_command, inv_command, flush_response, inv_response, commands_of, responses_of}
use Rattle.bk_machine.specs.Transactions.{Transaction, FlushAsked, is_asked}
use Rattle.bk_machine.specs.World.{World, of_group, option_of_group}
use Rattle.bk_machine.proofs.View.{option_of_group-here}

both : (b : Bool) → b ≡ true → b ≡ false → ⊥
both b e f = cc

more : {X : Type 0} (xs : List X) (y : X) → is_nil (xs ++ y ∷ []) ≡ false
more [] y = refl
more (x ∷ xs) y = refl

more-first : {X : Type 0} (xs ys : List X) → is_nil xs ≡ false → is_nil (xs ++ ys) ≡ false
more-first [] ys e = absurd (cc)
more-first (x ∷ xs) ys e = refl

none : {X : Type 0} (xs : List X) → is_nil xs ≡ false → xs ≡ [] → ⊥
none [] e f = cc
none (x ∷ xs) e f = cc

at-own : {X : Type 0} (o : ℕ) (x : X) → is_nil (at_cache o o x) ≡ false
at-own o x = ap (λ (b : Bool). is_nil (cond b (x ∷ []) [])) (same o)
  where
    same : (o : ℕ) → eqb o o ≡ true
    same o = grind (arith, nat_tests)

-- BY PHASE

ack-at : (fl : Flush) (t c : ℕ) (cs : List ℕ) (a : Ack) → times c (c ∷ cs) ≡ acks_due a
    → flush_command fl c ++ inv_command t a ≡ []
    → is_nil (flush_response fl c ++ inv_response t a) ≡ false
ack-at fl t c cs NoInv e q = absurd (lem e)
  where
    lem : times c (c ∷ cs) ≡ 0 → ⊥
    lem e = grind (arith, nat_tests)
ack-at fl t c cs InvSent e q = absurd (none _ (more (flush_command fl c) _) q)
ack-at fl t c cs InvAcked e q = more (flush_response fl c) (InvAck t)

ack-of : (p : Phase) (x : Transaction) (c : ℕ) (cs : List ℕ) → TransactionAt p (Some x) → x.granted ≡ false
    → x.waiting ≡ c ∷ cs
    → commands_of p c ≡ []
    → is_nil (responses_of p c) ≡ false
ack-of Free x c cs t g e q = absurd (both x.granted t.granted g)
ack-of (Open r b fl inv) x c cs t g e q = ack-at fl (op_tag b.op) c cs (inv c) (ap (times c) (sym e) ∙ t.acks c) q
ack-of (Flying r b f) x c cs t g e q = absurd (both x.granted t.granted g)
ack-of (Settling r u) x c cs t g e q = absurd (both x.granted t.granted g)

answer-at : (fl : Flush) (t : ℕ) (inv : ℕ → Ack) → flush_state fl FlushAsked
    → ((c : ℕ) → flush_command fl c ++ inv_command t (inv c) ≡ [])
    → (c : ℕ) × (is_nil (flush_response fl c ++ inv_response t (inv c)) ≡ false)
answer-at NoFlush t inv f q = absurd f
answer-at (FlushSent o w u x) t inv f q =
    absurd (none (at_cache o o (StWb u x) ++ inv_command t (inv o)) (more-first (at_cache o o (StWb u x)) _ (at-own o (StWb u x))) (q o))
answer-at (FlushDone o u ws) t inv f q = (o, more-first (at_cache o o (answer_of u ws)) _ (at-own o (answer_of u ws)))

answer-of : (p : Phase) (x : Transaction) → TransactionAt p (Some x) → x.granted ≡ false → x.write_back ≡ FlushAsked
    → ((c : ℕ) → commands_of p c ≡ [])
    → (c : ℕ) × (is_nil (responses_of p c) ≡ false)
answer-of Free x t g e q = absurd (both x.granted t.granted g)
answer-of (Open r b fl inv) x t g e q = answer-at fl (op_tag b.op) inv (subst (flush_state fl) e t.flush) q
answer-of (Flying r b f) x t g e q = absurd (both x.granted t.granted g)
answer-of (Settling r u) x t g e q = absurd (both x.granted t.granted g)

-- IN THE MACHINE

-- what a group has of a channel is in the channel
some-of : {X : Type 0} (g : ℕ) (xs : List (ℕ × X)) (ys : List X) → of_group g xs ≡ ys → is_nil ys ≡ false
    → is_nil xs ≡ false
some-of g [] ys e f = absurd (none ys f (sym e))
some-of g (x ∷ xs) ys e f = refl

module _ (k : Shape) (world : World) (g : ℕ) (x : Transaction) (inv : Invariant k world) (is : world.transaction ≡ Some (g, x))
    (ungranted : x.granted ≡ false)
    (commands : (c : ℕ) → world.command c ≡ []) where
  abbrev phase : Phase
  phase = (inv.groups g).0

  own : option_of_group g world.transaction ≡ Some x
  own = ap (option_of_group g) is ∙ option_of_group-here g x

  stands : TransactionAt phase (Some x)
  stands = subst (TransactionAt phase) own (inv.groups g).1.transaction

  quiet : (c : ℕ) → commands_of phase c ≡ []
  quiet c = sym ((inv.groups g).1.commands c) ∙ ap (of_group g) (commands c)

  pub ack-comes : (c : ℕ) (cs : List ℕ) → x.waiting ≡ c ∷ cs → is_nil (world.response c) ≡ false
  ack-comes c cs e = some-of g (world.response c) (responses_of phase c) ((inv.groups g).1.responses c)
      (ack-of phase x c cs stands ungranted e (quiet c))

  pub answer-comes : x.write_back ≡ FlushAsked → (c : ℕ) × (is_nil (world.response c) ≡ false)
  answer-comes e =
      let a = answer-of phase x stands ungranted e quiet in
      (a.0, some-of g (world.response a.0) (responses_of phase a.0) ((inv.groups g).1.responses a.0) a.1)

  pub block-comes : is_asked x.reading ≡ true → world.memout ≡ [] → is_nil world.memin ≡ false
  block-comes a e = go world.memin refl
    where
      go : (bs : List _) → world.memin ≡ bs → is_nil bs ≡ false
      go [] f = absurd (lem x.granted ungranted (is_asked x.reading) a
          (sym (ap (λ o. read_count (of_group g o) + length (of_group g world.memin)) e) ∙ (inv.groups g).1.channels.count
          ∙ ap (λ o. cond (is_reading o) 1 0) own))
        where
          lem : (p : Bool) → p ≡ false → (q : Bool) → q ≡ true → 0 + length (of_group g world.memin)
              ≡ cond (not p && q) 1 0 → ⊥
          lem p i q j h = grind arith
      go (b ∷ bs) f = refl
