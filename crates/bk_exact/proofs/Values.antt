-- What a field of the exact mask says, where it passes a test.
use Rattle.std.proofs.Common.{◌≡◌, ◌≢◌, ℕ, ◌^◌, ◌==◌, ◌⊎◌, inl, inr, Bool, true, false, refl, sym, ap, ◌∙◌, arith, List, [], ◌∷◌, length, Option, Some, None}
use Rattle.std.specs.Prelude.{nat_lt, if◌then◌else◌}
use Rattle.std.proofs.lemmas.Bool.Decides.{nat_tests}
use Rattle.bk_base.specs.declared.coh.Coh.{Coh}
use Rattle.bk_base.specs.declared.coh.Coh.TheVariants.{I, S, E, F, M, O}
use Rattle.bk_base.specs.States.{is_writable}
use Rattle.bk_base.specs.Counting.{is_nil}
use Rattle.bk_know.specs.Sets.{only, subset}
use Rattle.bk_flow.specs.Flow.{lacks, only_debt, only_down}
use Rattle.bk_know.specs.declared.values.TheConstants.{HEAD_NONE, SUMM_SUM, STAGE_IDLE, STAGE_HELD, STAGE_CLOSING, DREQ_PAID, DREQ_S, DREQ_E, DREQ_F, DREQ_M, DREQ_O, DOWN_PAID, OWN_I, OWN_I_S, OWN_I_S_F, OWN_S_F_O, OWNER_NONE, OWNER_F, OWNER_NONE_F, VICTIM_LIGHT, VICTIM_HEAVY, ACKS_ZERO, WB_IDLE, WB_DIRTY, MEM_IDLE, MEM_ASKED, MEM_GOT, MEM_WRITTEN, KIND_WR, KIND_UC_RD, KIND_UC_WR, KIND_EVICT}
use Rattle.bk_engine.specs.Reads.{number_of, own_number, owner_number, is_heavy}
use Rattle.bk_machine.specs.Entries.{is_light}
use Rattle.bk_machine.specs.Messages.{MemoryBlock}
use Rattle.bk_machine.specs.Actions.{NoGranted}
use Rattle.bk_machine.specs.Transactions.{WriteBack, Idle, FlushAsked, FlushKept, Reading, NotRead, ReadAsked, Got, Debt, Transaction, is_asked}
use Rattle.bk_engine.specs.declared.parts.RequestKind.{RequestKind}
use Rattle.bk_engine.specs.declared.parts.RequestKind.TheVariants as kinds
use Rattle.bk_engine.specs.Heads.{kind_number, head_value}
use Rattle.std.proofs.lemmas.Bool.{cases_eq, eqb-true}
use Rattle.std.specs.Int.{bit_at}
use Rattle.std.proofs.lemmas.Nat.Bits.{bit_at-pow_same, bit_at-pow_other}
use Rattle.bk_engine.specs.declared.parts.Head.{Head}
use Rattle.bk_exact.specs.Told.{Deferred}
use Rattle.bk_exact.specs.Exact.{stage_of, write_back_value, reading_value, requester_debt_value, owner_debt_value}

-- OWN, OWNER AND VICTIM: what a state is where the set of its number passes a test
pub own-valid : (y : Coh) → lacks (only (own_number y)) OWN_I ≡ true → y ≢ I
own-valid y e = grind arith

pub own-light : (y : Coh) → subset (only (own_number y)) OWN_I_S_F ≡ true → is_light y ≡ true
own-light y e = grind arith

pub own-past_S : (y : Coh) → lacks (only (own_number y)) OWN_I_S ≡ true → (y ≢ I) × (y ≢ S)
own-past_S y e = (grind arith, grind arith)

pub own-none : (y : Coh) → (only (own_number y) == OWN_I) ≡ true → y ≡ I
own-none y e = grind arith

pub own-shared : (y : Coh) → subset (only (own_number y)) OWN_S_F_O ≡ true → (y ≡ S) ⊎ ((y ≡ F) ⊎ (y ≡ O))
own-shared y e = grind arith

-- an owner's state is never S
pub owner-forward : (z : Coh) → z ≢ S → subset (only (owner_number z)) OWNER_NONE_F ≡ true → (z ≡ I) ⊎ (z ≡ F)
owner-forward z o e = grind arith

pub owner-there : (z : Coh) → lacks (only (owner_number z)) OWNER_NONE ≡ true → z ≢ I
owner-there z e = grind arith

pub owner-none : (z : Coh) → z ≢ S → (only (owner_number z) == OWNER_NONE) ≡ true → z ≡ I
owner-none z o e = grind arith

pub owner-in_F : (z : Coh) → (only (owner_number z) == OWNER_F) ≡ true → z ≡ F
owner-in_F z e = grind arith

pub victim-light : (y : Coh) → (only (number_of (is_heavy y)) == VICTIM_LIGHT) ≡ true → is_light y ≡ true
victim-light y e = grind arith

pub victim-heavy : (y : Coh) → (only (number_of (is_heavy y)) == VICTIM_HEAVY) ≡ true → is_light y ≡ false
victim-heavy y e = grind arith

-- what a number or a list is where it counts as none
pub number-none : (n : ℕ) → (only (number_of (nat_lt 0 n)) == ACKS_ZERO) ≡ true → n ≡ 0
number-none n e = grind (arith, nat_tests)

pub length-none : {X : Type 0} (xs : List X) → length xs ≡ 0 → xs ≡ []
length-none [] e = refl
length-none (x ∷ xs) e = absurd (cc)

pub nil-none : {X : Type 0} (xs : List X) → is_nil xs ≡ true → xs ≡ []
nil-none [] e = refl
nil-none (x ∷ xs) e = absurd (cc)

-- WRITE-BACK, MEMORY AND DEBTS

-- what the write-back and the reading are where their value passes a test
pub wb-idle : (b : WriteBack) → (write_back_value b == WB_IDLE) ≡ true → b ≡ Idle
wb-idle b e = grind arith

pub wb-dirty : (b : WriteBack) → (write_back_value b == WB_DIRTY) ≡ true → (q : MemoryBlock) × (b ≡ FlushKept q)
wb-dirty Idle e = absurd (cc)
wb-dirty FlushAsked e = absurd (cc)
wb-dirty (FlushKept q) e = (q, refl)

pub mem-idle : (b : Bool) (r : Reading) → ((if b then MEM_WRITTEN else reading_value r) == MEM_IDLE) ≡ true
    → (b ≡ false) × (r ≡ NotRead)
mem-idle b r e = (grind arith, grind arith)

pub mem-got : (b : Bool) (r : Reading) → ((if b then MEM_WRITTEN else reading_value r) == MEM_GOT) ≡ true
    → (ws : ℕ → ℕ) × (r ≡ Got ws)
mem-got b NotRead e = absurd (grind arith)
mem-got b ReadAsked e = absurd (grind arith)
mem-got b (Got ws) e = (ws, refl)

pub mem-written : (b : Bool) (r : Reading) → ((if b then MEM_WRITTEN else reading_value r) == MEM_WRITTEN) ≡ true → b ≡ true
mem-written b r e = grind arith

-- a word is written for a request that reads nothing
pub mem-unasked : (b : Bool) (r : Reading) → (b ≡ true → r ≡ NotRead)
    → lacks (if b then MEM_WRITTEN else reading_value r) MEM_ASKED ≡ true
    → is_asked r ≡ false
mem-unasked true r w e = ap is_asked (w refl)
mem-unasked false r w e = grind arith

-- the state that a debt's value stands for
abbrev debt_state : ℕ → Coh
debt_state n = if n == DREQ_S then S else if n == DREQ_E then E else if n == DREQ_F then F else if n == DREQ_M then M else if n == DREQ_O
    then O else I

debt-again : (y : Coh) → debt_state (only_debt y) ≡ y
debt-again I = refl
debt-again S = refl
debt-again E = refl
debt-again F = refl
debt-again M = refl
debt-again O = refl

-- the requester's debt is one of this state
pub dreq-is : (o : Option Debt) (y : Coh) → (requester_debt_value o == only_debt y) ≡ true
    → (debt : Debt) × (o ≡ Some debt) × (debt.entry.state ≡ y)
dreq-is None y e = absurd (grind arith)
dreq-is (Some debt) y e = (
  debt,
  refl,
  sym (debt-again debt.entry.state) ∙ ap debt_state (eqb-true (only_debt debt.entry.state) (only_debt y) e)
      ∙ debt-again y,
)

pub dreq-paid : (o : Option Debt) → (requester_debt_value o == DREQ_PAID) ≡ true → o ≡ None
dreq-paid None e = refl
dreq-paid (Some d) e = grind arith

-- an owner's debt is never in E or M, so its value names its state
pub down-same : (state y : Coh) → is_writable state ≡ false → (only_down state == only_down y) ≡ true → state ≡ y
down-same state y w e = grind arith

pub down-is : (o : Option Debt) (y : Coh) → ((debt : Debt) → o ≡ Some debt → is_writable debt.entry.state ≡ false)
    → (owner_debt_value o == only_down y) ≡ true
    → (debt : Debt) × (o ≡ Some debt) × (debt.entry.state ≡ y)
down-is None y w e = absurd (grind arith)
down-is (Some debt) y w e = (debt, refl, down-same debt.entry.state y (w debt refl) e)

pub down-paid : (o : Option Debt) → (owner_debt_value o == DOWN_PAID) ≡ true → o ≡ None
down-paid None e = refl
down-paid (Some d) e = grind arith

-- THE KIND

pub kind-uc_wr : (q : RequestKind) → (only (kind_number q) == KIND_UC_WR) ≡ true → q ≡ kinds.UcWr
kind-uc_wr q e = grind arith

pub kind-uc_rd : (q : RequestKind) → (only (kind_number q) == KIND_UC_RD) ≡ true → q ≡ kinds.UcRd
kind-uc_rd q e = grind arith

pub kind-evict : (q : RequestKind) → (only (kind_number q) == KIND_EVICT) ≡ true → q ≡ kinds.Evict
kind-evict q e = grind arith

pub kind-wr : (q : RequestKind) → (only (kind_number q) == KIND_WR) ≡ true → q ≡ kinds.Wr
kind-wr q e = grind arith

-- THE STAGE

pub stage-held : (x : Option (ℕ × Transaction)) (d : Option Deferred) → (stage_of x d == STAGE_HELD) ≡ true
    → (y : ℕ × Transaction) × (x ≡ Some y) × (y.1.granted ≡ false)
stage-held None None e = absurd (cc)
stage-held None (Some d) e = absurd (cc)
stage-held (Some y) d e = (y, refl, grind arith)

pub stage-closing : (x : Option (ℕ × Transaction)) (d : Option Deferred) → (stage_of x d == STAGE_CLOSING) ≡ true
    → (y : ℕ × Transaction) × (x ≡ Some y) × (y.1.granted ≡ true)
stage-closing None None e = absurd (cc)
stage-closing None (Some d) e = absurd (cc)
stage-closing (Some y) d e = (y, refl, grind arith)

pub stage-not_closing : (x : Option (ℕ × Transaction)) (d : Option Deferred) → lacks (stage_of x d) STAGE_CLOSING ≡ true
    → NoGranted x
stage-not_closing None d e = tt
stage-not_closing (Some y) d e = grind arith

pub stage-idle : (x : Option (ℕ × Transaction)) (d : Option Deferred) → (stage_of x d == STAGE_IDLE) ≡ true
    → (x ≡ None) × (d ≡ None)
stage-idle None None e = (refl, refl)
stage-idle None (Some d) e = absurd (cc)
stage-idle (Some y) d e = (grind arith, grind arith)

-- ONE VALUE ALONE

-- a set of one value that is another set of one value has the same value
pub only-is : (j w : ℕ) → (only w == 2 ^ j) ≡ true → w ≡ j
only-is j w e =
    elim (cases_eq w j) [
      | inl i ↦ i
      | inr ne ↦
          let z = bit_at-pow_other w j (λ i. ne (sym i)) in
          let o = bit_at-pow_same j in
          let q : 2 ^ w ≡ 2 ^ j = eqb-true (2 ^ w) (2 ^ j) e in
          absurd (zero-one (sym z ∙ ap (λ (n : ℕ). bit_at n j) q ∙ o))
    ]
  where
    zero-one : ◌≡◌ {A = ℕ} 0 1 → ⊥
    zero-one i = grind arith

pub head-none : (o : Option Head) → (only (head_value o) == HEAD_NONE) ≡ true → o ≡ None
head-none None e = refl
head-none (Some head) e = absurd (grind arith)

pub summ-sum : (w : ℕ) → (only w == SUMM_SUM) ≡ true → w ≡ 2
summ-sum w e = only-is 2 w e
