-- What is still due for a request that is held, as a mask tells it: flushes, heads and messages. The lower a mask, the less is due.
use Rattle.std.proofs.Common.{◌≡◌, ℕ, ◌+◌, ◌*◌, ◌≤◌, Bool, true, false, refl, ap, ◌∙◌, subst, arith}
use Rattle.std.proofs.lemmas.Bool.{eqb-true}
use Rattle.std.specs.Prelude.{if◌then◌else◌}
use Rattle.bk_know.specs.declared.sets.Sets.{Sets}
use Rattle.bk_know.specs.declared.values.TheConstants.{STAGE_HELD, STAGE_CLOSING, OWN_I, OWN_I_S, OWNER_NONE, VICTIM_LIGHT, WB_IDLE, WB_ASKED, MEM_IDLE, MEM_ASKED}
use Rattle.bk_know.specs.Sets.{subset}
use Rattle.bk_flow.specs.Flow.{lacks}
use Rattle.bk_order.specs.Below.{Part}
use Rattle.bk_order.specs.Fits.{Fits, is_closing}
use Rattle.bk_order.proofs.Subsets.{itself, chain, lacks-down}

-- FLUSHES: one of a heavy victim, two of the requester's own copy (to S, then to I), one of the owner

abbrev pub victim_due : ℕ → ℕ
victim_due set = if subset set VICTIM_LIGHT then 0 else 1

abbrev pub own_due : ℕ → ℕ
own_due set = if subset set OWN_I then 0 else if subset set OWN_I_S then 1 else 2

abbrev pub owner_due : ℕ → ℕ
owner_due set = if subset set OWNER_NONE then 0 else 1

abbrev pub flushes_due : Sets → ℕ
flushes_due sets = victim_due sets.victim + own_due sets.own + owner_due sets.owner

-- HEADS: an answer to each flush, also to the one that is asked; and a block. Acks are no matter of the mask.

abbrev pub answer_due : ℕ → ℕ
answer_due wb = if lacks wb WB_ASKED then 0 else 1

abbrev pub block_due : ℕ → ℕ
block_due mem = if lacks mem (MEM_IDLE + MEM_ASKED) then 0 else 1

abbrev pub answers_due : Sets → ℕ
answers_due sets = flushes_due sets + answer_due sets.wb + block_due sets.mem

-- nothing is due but while a request is held
abbrev pub heads_due : Sets → ℕ
heads_due sets = if lacks sets.stage STAGE_HELD then 0 else answers_due sets

-- MESSAGES: for each flush its StWb, which counts 2 as each command, and a Write; the Write of the flush that is asked or kept; a Read or
-- WriteWord; and the grant, which counts 2

abbrev pub write_due : ℕ → ℕ
write_due wb = if subset wb WB_IDLE then 0 else 1

abbrev pub access_due : ℕ → ℕ
access_due mem = if lacks mem MEM_IDLE then 0 else 1

abbrev pub sends_due : Sets → ℕ
sends_due sets = 3 * flushes_due sets + write_due sets.wb + access_due sets.mem + 2

abbrev pub messages_due : Sets → ℕ
messages_due sets = if lacks sets.stage STAGE_HELD then 0 else sends_due sets

-- THE ORDER

-- the fields that count are below those of another mask
pub record Lower (sets wider : Sets) : Type 0 where
  pub stage : subset sets.stage wider.stage ≡ true
  pub own : subset sets.own wider.own ≡ true
  pub owner : subset sets.owner wider.owner ≡ true
  pub victim : subset sets.victim wider.victim ≡ true
  pub wb : subset sets.wb wider.wb ≡ true
  pub mem : subset sets.mem wider.mem ≡ true

pub lower-itself : (sets : Sets) → Lower sets sets
lower-itself sets = record {
  stage = itself sets.stage;
  own = itself sets.own;
  owner = itself sets.owner;
  victim = itself sets.victim;
  wb = itself sets.wb;
  mem = itself sets.mem;
}

pub lower-chain : (a b p : Sets) → Lower a b → Lower b p → Lower a p
lower-chain a b p below above = record {
  stage = chain a.stage b.stage p.stage below.stage above.stage;
  own = chain a.own b.own p.own below.own above.own;
  owner = chain a.owner b.owner p.owner below.owner above.owner;
  victim = chain a.victim b.victim p.victim below.victim above.victim;
  wb = chain a.wb b.wb p.wb below.wb above.wb;
  mem = chain a.mem b.mem p.mem below.mem above.mem;
}

-- a mask that has the same stage, wb and mem as another
pub alike : (a b : Sets) → a.stage ≡ b.stage → subset a.own b.own ≡ true → subset a.owner b.owner ≡ true
    → subset a.victim b.victim ≡ true → a.wb ≡ b.wb → a.mem ≡ b.mem → Lower a b
alike a b stage own owner victim wb mem = record {
  stage = ap (λ (i : ℕ). subset i b.stage) stage ∙ itself b.stage;
  own = own;
  owner = owner;
  victim = victim;
  wb = ap (λ (i : ℕ). subset i b.wb) wb ∙ itself b.wb;
  mem = ap (λ (i : ℕ). subset i b.mem) mem ∙ itself b.mem;
}

-- where a test passes of the lower set if it does of the upper one, its number is no greater
pub number-down : (lower upper : Bool) (i j : ℕ) → (upper ≡ true → lower ≡ true) → i ≤ j
    → (if lower then 0 else i) ≤ (if upper then 0 else j)
number-down true true i j down l = omega arith
number-down true false i j down l = omega arith
number-down false true i j down l = absurd (let h = down refl in cc)
number-down false false i j down l = l

own-by : (p q a b : Bool) → (a ≡ true → p ≡ true) → (b ≡ true → q ≡ true) → (a ≡ true → b ≡ true)
    → (if p then 0 else if q then 1 else 2) ≤ (if a then 0 else if b then 1 else 2)
own-by true q a b first second both = omega arith
own-by false q true b first second both = absurd (let h = first refl in cc)
own-by false true false true first second both = omega arith
own-by false true false false first second both = omega arith
own-by false false false true first second both = absurd (let h = second refl in cc)
own-by false false false false first second both = omega arith

own-down : (a b : ℕ) → subset a b ≡ true → own_due a ≤ own_due b
own-down a b e =
    own-by (subset a OWN_I) (subset a OWN_I_S) (subset b OWN_I) (subset b OWN_I_S) (λ i. chain a b OWN_I e i) (λ i. chain a b OWN_I_S e i)
    (λ i. chain b OWN_I OWN_I_S i refl)

sum-up : (a b c d i j : ℕ) → a ≤ b → c ≤ d → i ≤ j → a + c + i ≤ b + d + j
sum-up a b c d i j p q r = omega (arith, p, q, r)

flushes-down : (a b : Sets) → Lower a b → flushes_due a ≤ flushes_due b
flushes-down a b l =
    sum-up (victim_due a.victim) (victim_due b.victim) (own_due a.own) (own_due b.own) (owner_due a.owner) (owner_due b.owner)
    (number-down (subset a.victim VICTIM_LIGHT) (subset b.victim VICTIM_LIGHT) 1 1 (λ i. chain a.victim b.victim VICTIM_LIGHT l.victim i)
    (omega arith))
    (own-down a.own b.own l.own)
    (number-down (subset a.owner OWNER_NONE) (subset b.owner OWNER_NONE) 1 1 (λ i. chain a.owner b.owner OWNER_NONE l.owner i)
    (omega arith))

answers-down : (a b : Sets) → Lower a b → answers_due a ≤ answers_due b
answers-down a b l =
    sum-up (flushes_due a) (flushes_due b) (answer_due a.wb) (answer_due b.wb) (block_due a.mem) (block_due b.mem) (flushes-down a b l)
    (number-down (lacks a.wb WB_ASKED) (lacks b.wb WB_ASKED) 1 1 (λ i. lacks-down a.wb b.wb WB_ASKED l.wb i) (omega arith))
    (number-down (lacks a.mem (MEM_IDLE + MEM_ASKED)) (lacks b.mem (MEM_IDLE + MEM_ASKED)) 1 1
    (λ i. lacks-down a.mem b.mem (MEM_IDLE + MEM_ASKED) l.mem i) (omega arith))

sends-down : (a b : Sets) → Lower a b → sends_due a ≤ sends_due b
sends-down a b l =
    sum (flushes_due a) (flushes_due b) (write_due a.wb) (write_due b.wb) (access_due a.mem) (access_due b.mem) (flushes-down a b l)
    (number-down (subset a.wb WB_IDLE) (subset b.wb WB_IDLE) 1 1 (λ i. chain a.wb b.wb WB_IDLE l.wb i) (omega arith))
    (number-down (lacks a.mem MEM_IDLE) (lacks b.mem MEM_IDLE) 1 1 (λ i. lacks-down a.mem b.mem MEM_IDLE l.mem i) (omega arith))
  where
    sum : (a b c d i j : ℕ) → a ≤ b → c ≤ d → i ≤ j → 3 * a + c + i + 2 ≤ 3 * b + d + j + 2
    sum a b c d i j p q r = omega (arith, p, q, r)

pub heads-down : (a b : Sets) → Lower a b → heads_due a ≤ heads_due b
heads-down a b l =
    number-down (lacks a.stage STAGE_HELD) (lacks b.stage STAGE_HELD) (answers_due a) (answers_due b)
    (λ i. lacks-down a.stage b.stage STAGE_HELD l.stage i) (answers-down a b l)

pub messages-down : (a b : Sets) → Lower a b → messages_due a ≤ messages_due b
messages-down a b l =
    number-down (lacks a.stage STAGE_HELD) (lacks b.stage STAGE_HELD) (sends_due a) (sends_due b)
    (λ i. lacks-down a.stage b.stage STAGE_HELD l.stage i) (sends-down a b l)

-- EXACT MASKS: one that fits another has no more due

below-lower : (e sets : Sets) → Fits e sets → is_closing e ≡ false → Lower e sets
below-lower e sets fits shut = record {
  stage = fits.stage;
  own = fits.own;
  owner = subst (λ (b : Bool). Part b e.owner sets.owner) shut fits.owner;
  victim = subst (λ (b : Bool). Part b e.victim sets.victim) shut fits.victim;
  wb = fits.wb;
  mem = fits.mem;
}

-- what is due by its stage: nothing in Closing, all in Held
pub closing-due : (stage i : ℕ) → stage ≡ STAGE_CLOSING → (if lacks stage STAGE_HELD then 0 else i) ≡ 0
closing-due stage i e = ap (λ (j : ℕ). if lacks j STAGE_HELD then 0 else i) e

pub held-due : (stage i : ℕ) → stage ≡ STAGE_HELD → (if lacks stage STAGE_HELD then 0 else i) ≡ i
held-due stage i e = ap (λ (j : ℕ). if lacks j STAGE_HELD then 0 else i) e

pub fits-due : (e sets : Sets) → Fits e sets → (heads_due e ≤ heads_due sets) × (messages_due e ≤ messages_due sets)
fits-due e sets fits = go (is_closing e) refl
  where
    none : (i j : ℕ) → i ≡ 0 → i ≤ j
    none i j e = omega (arith, e)

    go : (b : Bool) → is_closing e ≡ b → (heads_due e ≤ heads_due sets) × (messages_due e ≤ messages_due sets)
    go true i =
        let stage = eqb-true e.stage STAGE_CLOSING i in (
          none (heads_due e) (heads_due sets) (closing-due e.stage (answers_due e) stage),
          none (messages_due e) (messages_due sets) (closing-due e.stage (sends_due e) stage),
        )
    go false i = let l = below-lower e sets fits i in (heads-down e sets l, messages-down e sets l)
