-- What an instruction leaves due: nothing more, and less by what it sends. Flushes and invalidations.
use Rattle.std.proofs.Common.{◌≡◌, ℕ, ◌+◌, ◌*◌, ◌≤◌, ◌==◌, Bool, true, false, refl, sym, ap, ◌∙◌, arith}
use Rattle.std.specs.Prelude.{bit_and, if◌then◌else◌}
use Rattle.std.proofs.lemmas.Bool.{eqb-true}
use Rattle.std.proofs.lemmas.Bool.Decides.{nat_tests}
use Rattle.bk_base.specs.declared.coh.Coh.{Coh}
use Rattle.bk_base.specs.declared.coh.Coh.TheVariants.{I, S, E, F, M, O}
use Rattle.bk_isa.specs.declared.form.Form.TheVariants.{Stwb}
use Rattle.bk_isa.specs.declared.operand.TheConstants.{WHOSE_OWN, WHOSE_OWNER, WITH_OWNER}
use Rattle.bk_know.specs.declared.sets.Sets.{Sets}
use Rattle.bk_know.specs.declared.values.TheConstants.{STAGE_HELD, STAGE_CLOSING, OWN_I, OWN_I_S, OWNER_NONE, OTHERS_YES, VICTIM_LIGHT, VICTIM_HEAVY, WB_IDLE, WB_ASKED}
use Rattle.bk_know.specs.Sets.{subset, any_empty}
use Rattle.bk_flow.specs.Flow.{lacks, flush, only_state, invalidate, is_shared}
use Rattle.bk_check.specs.Obligations.{may_flush, may_flush_own, may_flush_victim}
use Rattle.bk_order.proofs.Filled.{filled}
use Rattle.bk_order.proofs.Subsets.{chain}
use Rattle.bk_engine.specs.Sends.{HasStates}
use Rattle.bk_bound.proofs.Due.{victim_due, own_due, owner_due, flushes_due, answer_due, block_due, answers_due, heads_due, write_due, access_due, sends_due, messages_due, Lower, heads-down, messages-down, number-down, closing-due, held-due}

-- What is due after an instruction, in r, of what was due before it: no more heads, and less messages by as many as it sends.
pub record Falls (r sets : Sets) (sent : ℕ) : Type 0 where
  pub heads : heads_due r ≤ heads_due sets
  pub messages : messages_due r + sent ≤ messages_due sets

pub no-more : (i j : ℕ) → i ≤ j → i + 0 ≤ j
no-more i j l = omega (arith, l)

pub lower-falls : (r sets : Sets) → Lower r sets → Falls r sets 0
lower-falls r sets l = record {
  heads = heads-down r sets l;
  messages = no-more (messages_due r) (messages_due sets) (messages-down r sets l);
}

-- A request is held before and after.
held-falls : (r sets : Sets) (sent : ℕ) → r.stage ≡ STAGE_HELD → sets.stage ≡ STAGE_HELD → answers_due r ≤ answers_due sets
    → sends_due r + sent ≤ sends_due sets → Falls r sets sent
held-falls r sets sent later now answers sends = record {
  heads = fewer (heads_due r) (heads_due sets) (answers_due r) (answers_due sets) 0 (held-due r.stage (answers_due r) later)
      (held-due sets.stage (answers_due sets) now) (no-more (answers_due r) (answers_due sets) answers);
  messages = less (messages_due r) (messages_due sets) (sends_due r) (sends_due sets) sent (held-due r.stage (sends_due r) later)
      (held-due sets.stage (sends_due sets) now) sends;
}
  where
    fewer : (a b i j c : ℕ) → a ≡ i → b ≡ j → i + c ≤ j → a ≤ b
    fewer a b i j c p q l = omega (arith, p, q, l)

    less : (a b i j c : ℕ) → a ≡ i → b ≡ j → i + c ≤ j → a + c ≤ b
    less a b i j c p q l = omega (arith, p, q, l)

-- None is held after it.
pub none-falls : (r sets : Sets) → heads_due r ≡ 0 → messages_due r ≡ 0 → Falls r sets 0
none-falls r sets p q = record {
  heads = none (heads_due r) (heads_due sets) p;
  messages = no-more (messages_due r) (messages_due sets) (none (messages_due r) (messages_due sets) q);
}
  where
    none : (i j : ℕ) → i ≡ 0 → i ≤ j
    none i j e = omega (arith, e)

-- A grant closes the request, and is a command.
pub grant-falls : (r sets : Sets) → r.stage ≡ STAGE_CLOSING → sets.stage ≡ STAGE_HELD → Falls r sets 2
grant-falls r sets later now = record {
  heads = none (heads_due r) (heads_due sets) (closing-due r.stage (answers_due r) later);
  messages = granted (messages_due r) (messages_due sets) (3 * flushes_due sets) (write_due sets.wb) (access_due sets.mem)
      (closing-due r.stage (sends_due r) later) (held-due sets.stage (sends_due sets) now);
}
  where
    none : (i j : ℕ) → i ≡ 0 → i ≤ j
    none i j e = omega (arith, e)

    granted : (i j a b c : ℕ) → i ≡ 0 → j ≡ a + b + c + 2 → i + 2 ≤ j
    granted i j a b c p q = omega (arith, p, q)

-- A message to memory is one less.
pub memory-falls : (r sets : Sets) → r.stage ≡ STAGE_HELD → sets.stage ≡ STAGE_HELD → flushes_due r ≡ flushes_due sets
    → answer_due r.wb + block_due r.mem ≤ answer_due sets.wb + block_due sets.mem
    → write_due r.wb + access_due r.mem + 1 ≤ write_due sets.wb + access_due sets.mem → Falls r sets 1
memory-falls r sets later now same p q =
    held-falls r sets 1 later now
    (answers (flushes_due r) (flushes_due sets) (answer_due r.wb) (answer_due sets.wb) (block_due r.mem) (block_due sets.mem) same p)
    (sends (flushes_due r) (flushes_due sets) (write_due r.wb) (write_due sets.wb) (access_due r.mem) (access_due sets.mem) same q)
  where
    answers : (a b c d i j : ℕ) → a ≡ b → c + i ≤ d + j → a + c + i ≤ b + d + j
    answers a b c d i j e l = omega (arith, e, l)

    sends : (a b c d i j : ℕ) → a ≡ b → c + i + 1 ≤ d + j → 3 * a + c + i + 2 + 1 ≤ 3 * b + d + j + 2
    sends a b c d i j e l = omega (arith, e, l)

-- FLUSHES: one is due less; it is a command, and its answer and its Write are due from now on

flush-falls : (r sets : Sets) → r.stage ≡ STAGE_HELD → sets.stage ≡ STAGE_HELD → flushes_due r + 1 ≤ flushes_due sets
    → r.wb ≡ WB_ASKED → sets.wb ≡ WB_IDLE → r.mem ≡ sets.mem → Falls r sets 2
flush-falls r sets later now l p q e =
    held-falls r sets 2 later now
    (answers (flushes_due r) (flushes_due sets) (answer_due r.wb) (answer_due sets.wb) (block_due r.mem) (block_due sets.mem) l
    (ap answer_due p) (ap block_due e))
    (sends (flushes_due r) (flushes_due sets) (write_due r.wb) (write_due sets.wb) (access_due r.mem) (access_due sets.mem) l
    (ap write_due p) (ap access_due e))
  where
    answers : (a b c d i j : ℕ) → a + 1 ≤ b → c ≡ 1 → i ≡ j → a + c + i ≤ b + d + j
    answers a b c d i j l p q = omega (arith, l, p, q)

    sends : (a b c d i j : ℕ) → a + 1 ≤ b → c ≡ 1 → i ≡ j → 3 * a + c + i + 2 + 2 ≤ 3 * b + d + j + 2
    sends a b c d i j l p q = omega (arith, l, p, q)

-- a set with a value that has none of another set isn't below that
not-below : (set c : ℕ) → (set == 0) ≡ false → lacks set c ≡ true → subset set c ≡ false
not-below set c some l = go (subset set c) refl
  where
    clash : bit_and set c ≡ set → bit_and set c ≡ 0 → (set == 0) ≡ false → ⊥
    clash p q some = grind (arith, nat_tests)

    go : (b : Bool) → subset set c ≡ b → b ≡ false
    go true i = absurd (clash (eqb-true (bit_and set c) set i) (eqb-true (bit_and set c) 0 l) some)
    go false i = refl

own-one : (p q : Bool) → p ≡ false → 0 + 1 ≤ (if p then 0 else if q then 1 else 2)
own-one true q e = absurd (cc)
own-one false true e = omega arith
own-one false false e = omega arith

own-two : (p q : Bool) → q ≡ false → (p ≡ true → q ≡ true) → 1 + 1 ≤ (if p then 0 else if q then 1 else 2)
own-two true q e both = absurd (let h = both refl in cc)
own-two false true e both = absurd (cc)
own-two false false e both = omega arith

-- of the own copy
own-falls : (own : ℕ) (y : Coh) (sets : Sets) → sets.own ≡ own → HasStates (Stwb WHOSE_OWN y) → (own == 0) ≡ false
    → may_flush_own y sets ≡ true → own_due (only_state y) + 1 ≤ own_due own
own-falls own I sets e states some may =
    own-one (subset own OWN_I) (subset own OWN_I_S) (not-below own OWN_I some (ap (λ (j : ℕ). lacks j OWN_I) (sym e) ∙ may))
own-falls own S sets e states some may =
    own-two (subset own OWN_I) (subset own OWN_I_S) (not-below own OWN_I_S some (ap (λ (j : ℕ). lacks j OWN_I_S) (sym e) ∙ may))
    (λ i. chain own OWN_I OWN_I_S i refl)
own-falls own E sets e states some may = absurd (cc)
own-falls own F sets e states some may = absurd (cc)
own-falls own M sets e states some may = absurd (cc)
own-falls own O sets e states some may = absurd (cc)

-- of the owner, and of a victim, which is heavy
owner-one : (b : Bool) → b ≡ false → 1 ≤ (if b then 0 else 1)
owner-one true e = absurd (cc)
owner-one false e = omega arith

heavy-if : (y : Coh) (sets : Sets) → may_flush_victim y sets ≡ true → (sets.victim == VICTIM_HEAVY) ≡ true
heavy-if I sets e = e
heavy-if S sets e = absurd (cc)
heavy-if E sets e = absurd (cc)
heavy-if F sets e = absurd (cc)
heavy-if M sets e = absurd (cc)
heavy-if O sets e = absurd (cc)

victim-one : (victim : ℕ) → (victim == VICTIM_HEAVY) ≡ true → 1 ≤ victim_due victim
victim-one victim e = one (victim_due victim) (ap victim_due (eqb-true victim VICTIM_HEAVY e))
  where
    one : (i : ℕ) → i ≡ 1 → 1 ≤ i
    one i e = omega (arith, e)

pub stwb-falls : (who : ℕ) (y : Coh) (sets : Sets) → HasStates (Stwb who y) → any_empty sets ≡ false → sets.stage ≡ STAGE_HELD
    → sets.wb ≡ WB_IDLE → may_flush who y sets ≡ true → Falls (flush who y sets) sets 2
stwb-falls who y sets states some now idle may = go (who == WHOSE_OWN) (who == WHOSE_OWNER) may
  where
    of-own : may_flush_own y sets ≡ true → flushes_due (record sets { own = only_state y; wb = WB_ASKED }) + 1 ≤ flushes_due sets
    of-own may =
        num (victim_due sets.victim) (own_due (only_state y)) (own_due sets.own) (owner_due sets.owner)
        (own-falls sets.own y sets refl states (filled sets some).own may)
      where
        num : (a b c d : ℕ) → b + 1 ≤ c → a + b + d + 1 ≤ a + c + d
        num a b c d l = omega (arith, l)

    of-owner : lacks sets.owner OWNER_NONE ≡ true → victim_due sets.victim + own_due sets.own + 0 + 1 ≤ flushes_due sets
    of-owner may =
        num (victim_due sets.victim) (own_due sets.own) (owner_due sets.owner)
        (owner-one (subset sets.owner OWNER_NONE) (not-below sets.owner OWNER_NONE (filled sets some).owner may))
      where
        num : (a b c : ℕ) → 1 ≤ c → a + b + 0 + 1 ≤ a + b + c
        num a b c l = omega (arith, l)

    of-victim : may_flush_victim y sets ≡ true → 0 + own_due sets.own + owner_due sets.owner + 1 ≤ flushes_due sets
    of-victim may =
        num (victim_due sets.victim) (own_due sets.own) (owner_due sets.owner) (victim-one sets.victim (heavy-if y sets may))
      where
        num : (a b c : ℕ) → 1 ≤ a → 0 + b + c + 1 ≤ a + b + c
        num a b c l = omega (arith, l)

    go : (b c : Bool)
        → (if b then may_flush_own y sets else if c then lacks sets.owner OWNER_NONE else may_flush_victim y sets) ≡ true
        → Falls (
        if b then record sets { own = only_state y; wb = WB_ASKED }
        else if c then record sets { owner = OWNER_NONE; wb = WB_ASKED; others = if is_shared y then OTHERS_YES else sets.others }
        else record sets { victim = VICTIM_LIGHT; wb = WB_ASKED }
        ) sets 2
    go true c may = flush-falls _ sets now now (of-own may) refl idle refl
    go false true may = flush-falls _ sets now now (of-owner may) refl idle refl
    go false false may = flush-falls _ sets now now (of-victim may) refl idle refl

-- INVALIDATIONS: the owner may go, and with it its flush

pub inv-falls : (a : ℕ) (sets : Sets) → Falls (invalidate a sets) sets 0
inv-falls a sets = record {
  heads = number-down (lacks sets.stage STAGE_HELD) (lacks sets.stage STAGE_HELD) (answers_due (invalidate a sets)) (answers_due sets)
      (λ i. i) (answers (flushes_due (invalidate a sets)) (flushes_due sets) (answer_due sets.wb) (block_due sets.mem) flushes);
  messages = no-more (messages_due (invalidate a sets)) (messages_due sets)
      (number-down (lacks sets.stage STAGE_HELD) (lacks sets.stage STAGE_HELD) (sends_due (invalidate a sets)) (sends_due sets) (λ i. i)
      (sends (flushes_due (invalidate a sets)) (flushes_due sets) (write_due sets.wb) (access_due sets.mem) flushes));
}
  where
    owner : (b : Bool) → owner_due (if b then OWNER_NONE else sets.owner) ≤ owner_due sets.owner
    owner true = omega arith
    owner false = omega arith

    flushes : flushes_due (invalidate a sets) ≤ flushes_due sets
    flushes =
        num (victim_due sets.victim) (own_due sets.own) (owner_due (if a == WITH_OWNER then OWNER_NONE else sets.owner))
        (owner_due sets.owner) (owner (a == WITH_OWNER))
      where
        num : (a b c d : ℕ) → c ≤ d → a + b + c ≤ a + b + d
        num a b c d l = omega (arith, l)

    answers : (a b c d : ℕ) → a ≤ b → a + c + d ≤ b + c + d
    answers a b c d l = omega (arith, l)

    sends : (a b c d : ℕ) → a ≤ b → 3 * a + c + d + 2 ≤ 3 * b + c + d + 2
    sends a b c d l = omega (arith, l)
