-- What is due after a head is popped: one head less by each answer and each block that was awaited. A request begins with five heads and
-- fifteen messages.
use Rattle.std.proofs.Common.{◌≡◌, ℕ, ◌+◌, ◌*◌, ◌≤◌, Bool, true, false, refl, sym, ap, ◌∙◌, subst, arith}
use Rattle.std.specs.Prelude.{if◌then◌else◌}
use Rattle.bk_know.specs.declared.sets.Sets.{Sets}
use Rattle.bk_know.specs.declared.values.TheConstants.{STAGE_HELD, HEAD_REQUEST, HEAD_INV_ACK, HEAD_COH_ACK, HEAD_WB, HEAD_NULL_WB, HEAD_BLOCK, ACKS_ANY, WB_IDLE, WB_ASKED, WB_DIRTY, MEM_ASKED, MEM_GOT}
use Rattle.bk_know.specs.Sets.{union}
use Rattle.bk_flow.specs.Flow.{lacks, pop, empty_head, nothing, awake}
use Rattle.bk_order.proofs.Subsets.{itself, or-both, empty}
use Rattle.bk_bound.proofs.Due.{flushes_due, answer_due, block_due, answers_due, heads_due, write_due, access_due, sends_due, messages_due, Lower, lower-itself, alike, heads-down, messages-down, held-due}

-- what is due after a head is popped, and how many heads at least it takes
pub record Popped (r sets : Sets) (taken : ℕ) : Type 0 where
  pub heads : heads_due r + taken ≤ heads_due sets
  pub messages : messages_due r ≤ messages_due sets

-- `pop` is a union, here of one mask alone
lower-nothing : (r sets : Sets) → Lower r sets → Lower (union nothing r) sets
lower-nothing r sets l = record {
  stage = or-both 0 r.stage sets.stage (empty sets.stage) l.stage;
  own = or-both 0 r.own sets.own (empty sets.own) l.own;
  owner = or-both 0 r.owner sets.owner (empty sets.owner) l.owner;
  victim = or-both 0 r.victim sets.victim (empty sets.victim) l.victim;
  wb = or-both 0 r.wb sets.wb (empty sets.wb) l.wb;
  mem = or-both 0 r.mem sets.mem (empty sets.mem) l.mem;
}

lower-popped : (r p sets : Sets) (n : ℕ) → Lower r p → Popped p sets n → Popped r sets n
lower-popped r p sets n l popped = record {
  heads = num (heads_due r) (heads_due p) (heads_due sets) (heads-down r p l) popped.heads;
  messages = both (messages_due r) (messages_due p) (messages_due sets) (messages-down r p l) popped.messages;
}
  where
    num : (a b c : ℕ) → a ≤ b → b + n ≤ c → a + n ≤ c
    num a b c p q = omega (arith, p, q)

    both : (a b c : ℕ) → a ≤ b → b ≤ c → a ≤ c
    both a b c p q = omega (arith, p, q)

same-popped : (r sets : Sets) → Lower r sets → Popped r sets 0
same-popped r sets l = record { heads = num (heads_due r) (heads_due sets) (heads-down r sets l); messages = messages-down r sets l }
  where
    num : (a b : ℕ) → a ≤ b → a + 0 ≤ b
    num a b p = omega (arith, p)

-- the mask with its one head in the field
with-head : (sets : Sets) (h : ℕ) → sets.head ≡ h → sets ≡ record sets { head = h }
with-head sets h e = λ i. record sets { head = e i }

pops-as : (sets : Sets) (h n : ℕ) → sets.head ≡ h → Popped (pop (record sets { head = h })) sets n → Popped (pop sets) sets n
pops-as sets h n e p = subst (λ (q : Sets). Popped (pop q) sets n) (sym (with-head sets h e)) p

pub pop-ack : (sets : Sets) → sets.head ≡ HEAD_INV_ACK → Popped (pop sets) sets 0
pop-ack sets e =
    let r = empty_head (record sets { head = HEAD_INV_ACK; acks = ACKS_ANY }) in
    pops-as sets HEAD_INV_ACK 0 e (same-popped _ sets
    (lower-nothing r sets (alike r sets refl (itself sets.own) (itself sets.owner) (itself sets.victim) refl refl)))

-- the stages that an exact mask has: a request is held and not granted, or there is none such, and so it stays where the engine wakes
pub data OneStage (stage : ℕ) : Type 0 where
  Unheld : lacks stage STAGE_HELD ≡ true → lacks (awake stage) STAGE_HELD ≡ true → OneStage stage
  IsHeld : stage ≡ STAGE_HELD → OneStage stage

pub pop-settles : (sets : Sets) → sets.head ≡ HEAD_COH_ACK → OneStage sets.stage → Popped (pop sets) sets 0
pop-settles sets e (Unheld before after) =
    pops-as sets HEAD_COH_ACK 0 e (lower-popped _ r sets 0 (lower-nothing r r (lower-itself r)) (record {
      heads = none (heads_due r) (heads_due sets) (zero-by _ (answers_due r) after);
      messages = few (messages_due r) (messages_due sets) (zero-by _ (sends_due r) after);
    }))
  where
    r : Sets
    r = empty_head (record sets { head = HEAD_COH_ACK; stage = awake sets.stage })

    zero-by : (b : Bool) (i : ℕ) → b ≡ true → (if b then 0 else i) ≡ 0
    zero-by true i e = refl
    zero-by false i e = absurd (cc)

    none : (i j : ℕ) → i ≡ 0 → i + 0 ≤ j
    none i j e = omega (arith, e)

    few : (i j : ℕ) → i ≡ 0 → i ≤ j
    few i j e = omega (arith, e)
pop-settles sets e (IsHeld i) =
    let r = empty_head (record sets { head = HEAD_COH_ACK; stage = awake sets.stage }) in
    pops-as sets HEAD_COH_ACK 0 e (same-popped _ sets
    (lower-nothing r sets (alike r sets (ap awake i ∙ sym i) (itself sets.own) (itself sets.owner) (itself sets.victim) refl refl)))

-- an answer that is awaited
answer-popped : (r sets : Sets) → r.stage ≡ STAGE_HELD → sets.stage ≡ STAGE_HELD → flushes_due r ≡ flushes_due sets
    → answer_due r.wb + block_due r.mem + 1 ≤ answer_due sets.wb + block_due sets.mem
    → write_due r.wb + access_due r.mem ≤ write_due sets.wb + access_due sets.mem → Popped r sets 1
answer-popped r sets later now same p q = record {
  heads = heads (heads_due r) (heads_due sets) (flushes_due r) (flushes_due sets) (answer_due r.wb) (answer_due sets.wb)
      (block_due r.mem) (block_due sets.mem) (held-due r.stage (answers_due r) later) (held-due sets.stage (answers_due sets) now) same p;
  messages = messages (messages_due r) (messages_due sets) (flushes_due r) (flushes_due sets) (write_due r.wb) (write_due sets.wb)
      (access_due r.mem) (access_due sets.mem) (held-due r.stage (sends_due r) later) (held-due sets.stage (sends_due sets) now) same q;
}
  where
    heads : (y z a b c d i j : ℕ) → y ≡ a + c + i → z ≡ b + d + j → a ≡ b → c + i + 1 ≤ d + j → y + 1 ≤ z
    heads y z a b c d i j u v e p = omega (arith, u, v, e, p)

    messages : (y z a b c d i j : ℕ) → y ≡ 3 * a + c + i + 2 → z ≡ 3 * b + d + j + 2 → a ≡ b → c + i ≤ d + j → y ≤ z
    messages y z a b c d i j u v e p = omega (arith, u, v, e, p)

one-less : (i : ℕ) → 0 + i + 1 ≤ 1 + i
one-less i = omega arith

pub pop-write : (sets : Sets) → sets.head ≡ HEAD_WB → sets.stage ≡ STAGE_HELD → sets.wb ≡ WB_ASKED → Popped (pop sets) sets 1
pop-write sets e held asked =
    pops-as sets HEAD_WB 1 e (lower-popped _ r sets 1 (lower-nothing r r (lower-itself r)) (answer-popped r sets held held refl
    (subst (λ (v : ℕ). 0 + block_due sets.mem + 1 ≤ answer_due v + block_due sets.mem) (sym asked) (one-less (block_due sets.mem)))
    (subst (λ (v : ℕ). 1 + access_due sets.mem ≤ write_due v + access_due sets.mem) (sym asked) (omega arith))))
  where
    r : Sets
    r = empty_head (record sets { head = HEAD_WB; wb = WB_DIRTY })

pub pop-null : (sets : Sets) → sets.head ≡ HEAD_NULL_WB → sets.stage ≡ STAGE_HELD → sets.wb ≡ WB_ASKED
    → Popped (pop sets) sets 1
pop-null sets e held asked =
    pops-as sets HEAD_NULL_WB 1 e (lower-popped _ r sets 1 (lower-nothing r r (lower-itself r)) (answer-popped r sets held held refl
    (subst (λ (v : ℕ). 0 + block_due sets.mem + 1 ≤ answer_due v + block_due sets.mem) (sym asked) (one-less (block_due sets.mem)))
    (subst (λ (v : ℕ). 0 + access_due sets.mem ≤ write_due v + access_due sets.mem) (sym asked) (less (access_due sets.mem)))))
  where
    r : Sets
    r = empty_head (record sets { head = HEAD_NULL_WB; wb = WB_IDLE })

    less : (i : ℕ) → 0 + i ≤ 1 + i
    less i = omega arith

pub pop-block : (sets : Sets) → sets.head ≡ HEAD_BLOCK → sets.stage ≡ STAGE_HELD → sets.mem ≡ MEM_ASKED
    → Popped (pop sets) sets 1
pop-block sets e held asked =
    pops-as sets HEAD_BLOCK 1 e (lower-popped _ r sets 1 (lower-nothing r r (lower-itself r)) (answer-popped r sets held held refl
    (subst (λ (v : ℕ). answer_due sets.wb + 0 + 1 ≤ answer_due sets.wb + block_due v) (sym asked) (one (answer_due sets.wb)))
    (subst (λ (v : ℕ). write_due sets.wb + 0 ≤ write_due sets.wb + access_due v) (sym asked) (same (write_due sets.wb)))))
  where
    r : Sets
    r = empty_head (record sets { head = HEAD_BLOCK; mem = MEM_GOT })

    one : (i : ℕ) → i + 0 + 1 ≤ i + 1
    one i = omega arith

    same : (i : ℕ) → i + 0 ≤ i + 0
    same i = omega arith

pub pop-request : (sets : Sets) → sets.head ≡ HEAD_REQUEST → (heads_due (pop sets) ≡ 5) × (messages_due (pop sets) ≡ 15)
pop-request sets e =
    subst (λ (q : Sets). (heads_due (pop q) ≡ 5) × (messages_due (pop q) ≡ 15)) (sym (with-head sets HEAD_REQUEST e)) (refl, refl)
