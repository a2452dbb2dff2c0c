-- The marks of four words: one set or cleared, and the first that is set, word by word.
use Rattle.std.proofs.Common.{◌≡◌, ◌≢◌, ℕ, ◌+◌, ◌-◌, ◌*◌, ◌/◌, ◌%◌, ◌<◌, ◌≤◌, List, cond, eqb, length, get_or, set, ap, sym, subst, ◌∙◌, inl, inr, arith, get_or-set_same, get_or-set_other}
use Rattle.std.specs.Prelude.{replicate}
use Rattle.std.specs.Int.{bit_at}
use Rattle.std.proofs.lemmas.Bool.{cases_eq, cases_lt}
use Rattle.std.proofs.lemmas.Bool.Decides.{nat_tests}
use Rattle.std.proofs.lemmas.List.{get_or-replicate}
use Rattle.std.proofs.lemmas.Nat.Bits.{bit_at-zero}
use Rattle.bk_base.specs.Tables.{put}
use Rattle.bk_system.specs.Bits.{IsFirstBit, mark_at}
use Rattle.bk_system.proofs.Queues.{put_other}

-- no mark of four words is set that are 0
pub mark-zero : (c : ℕ) → c < 256 → mark_at (replicate 4 0) c ≡ 0
mark-zero c l =
    let word : c / 64 < 4 = omega arith in
    ap (λ (n : ℕ). bit_at n (c % 64)) (get_or-replicate 4 (c / 64) 0 0 word) ∙ bit_at-zero (c % 64)

-- ONE CHANGED

-- within a word places are told apart by what is left of them
same-rest : (c place : ℕ) → c / 64 ≡ place / 64 → eqb (c % 64) (place % 64) ≡ eqb c place
same-rest c place e = grind (arith, nat_tests)

-- a mark of the word that was written
mark-here : (marks : List ℕ) (word place v c : ℕ) → length marks ≡ 4 → place < 256 → c / 64 ≡ place / 64
    → ((i : ℕ) → i < 64 → bit_at word i ≡ put (bit_at (get_or marks (place / 64) 0)) (place % 64) v i)
    → mark_at (set marks (place / 64) word) c ≡ put (mark_at marks) place v c
unfolding put
mark-here marks word place v c four l e now =
    let there : place / 64 < length marks = omega arith in
    let small : c % 64 < 64 = omega arith in
    ap (λ (i : ℕ). bit_at (get_or (set marks (place / 64) word) i 0) (c % 64)) e
    ∙ ap (λ (n : ℕ). bit_at n (c % 64)) (get_or-set_same marks (place / 64) word 0 there)
    ∙ now (c % 64) small
    ∙ ap (λ b. cond b v (bit_at (get_or marks (place / 64) 0) (c % 64))) (same-rest c place e)
    ∙ ap (λ (i : ℕ). cond (eqb c place) v (bit_at (get_or marks i 0) (c % 64))) (sym e)

pub mark-changed : (marks : List ℕ) (word place v : ℕ) → length marks ≡ 4 → place < 256
    → ((i : ℕ) → i < 64 → bit_at word i ≡ put (bit_at (get_or marks (place / 64) 0)) (place % 64) v i)
    → (c : ℕ) → mark_at (set marks (place / 64) word) c ≡ put (mark_at marks) place v c
mark-changed marks word place v four l now c =
    elim (cases_eq (c / 64) (place / 64)) [
      | inl same ↦ mark-here marks word place v c four l same now
      | inr differ ↦
          let other : c ≢ place = λ e. differ (ap (λ (i : ℕ). i / 64) e) in
          ap (λ (n : ℕ). bit_at n (c % 64)) (get_or-set_other marks (place / 64) (c / 64) word 0 differ)
          ∙ sym (put_other (mark_at marks) place v c other)
    ]

-- THE FIRST

-- no place from a start on and before an end is marked
abbrev pub NoneTo : List ℕ → ℕ → ℕ → Type 0
NoneTo marks from to = (c : ℕ) → from ≤ c → c < to → mark_at marks c ≡ 0

-- c is the least place from a start on, of those of four words, that is marked
pub record IsFirstMark (marks : List ℕ) (from c : ℕ) : Type 0 where
  pub low : from ≤ c
  pub within : c < 256
  pub is_set : mark_at marks c ≡ 1
  pub before : NoneTo marks from c

-- a place of a word
mark-in : (marks : List ℕ) (word i : ℕ) → i < 64 → mark_at marks (word * 64 + i) ≡ bit_at (get_or marks word 0) i
mark-in marks word i l =
    let place : (word * 64 + i) / 64 ≡ word = omega arith in
    let rest : (word * 64 + i) % 64 ≡ i = omega arith in
    ap (λ (n : ℕ). bit_at (get_or marks n 0) ((word * 64 + i) % 64)) place ∙ ap (bit_at (get_or marks word 0)) rest

-- what holds of a word's bits from one on holds of its places
module _ (marks : List ℕ) (from word start : ℕ) (none : NoneTo marks from (word * 64 + start)) where
  none-in : (end : ℕ) → end ≤ 64 → ((i : ℕ) → start ≤ i → i < end → bit_at (get_or marks word 0) i ≡ 0)
      → NoneTo marks from (word * 64 + end)
  none-in end few h c low l =
      elim (cases_lt c (word * 64 + start)) [
        | inl before ↦ none c low before
        | inr here ↦
            let is : word * 64 + (c - word * 64) ≡ c = omega arith in
            let small : c - word * 64 < end = omega arith in
            let late : start ≤ c - word * 64 = omega arith in
            subst (λ (place : ℕ). mark_at marks place ≡ 0) is
            (mark-in marks word (c - word * 64) (omega arith) ∙ h (c - word * 64) late small)
      ]

  -- a word without a bit from the start on
  pub none-past : ((i : ℕ) → start ≤ i → bit_at (get_or marks word 0) i ≡ 0) → NoneTo marks from ((word + 1) * 64 + 0)
  none-past h c low l = none-in 64 (omega arith) (λ i late small. h i late) c low (omega arith)

  -- the first bit of a word
  pub first-in : (bit : ℕ) → from ≤ word * 64 + start → word < 4 → IsFirstBit (get_or marks word 0) start bit
      → IsFirstMark marks from (word * 64 + bit)
  first-in bit low few first = record {
    low = omega (arith, first.low);
    within = omega (arith, first.within);
    is_set = mark-in marks word bit first.within ∙ first.is_set;
    before = none-in bit (omega (arith, first.within)) first.before;
  }
