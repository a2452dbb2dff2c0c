-- Whether there is a row for a message: what it depends on, whatever the cache holds and the message says besides.
use Rattle.std.specs.Prelude.{◌≡◌, ℕ, Bool, List, Option, is_some}
use Rattle.bk_base.specs.Places.{Shape}
use Rattle.bk_base.specs.declared.coh.Coh.{Coh}
use Rattle.bk_base.specs.declared.op.Op.{Op}
use Rattle.bk_lce.specs.declared.line.InProgress.{InProgress}
use Rattle.bk_lce.specs.CacheState.{CacheState}
use Rattle.bk_lce.specs.CacheTable.{flush_row, transfer_row, grant_row, grant_for, word_row, written_row, evicted_row, by_operation}

abbrev pub CanFlush : Option ℕ → Bool → Type 0
CanFlush at can = (k : Shape) (cache : CacheState) (c addr : ℕ) (state : Coh) → is_some (flush_row k cache c addr state at) ≡ can

abbrev pub CanTransfer : ℕ → ℕ → Option ℕ → Bool → Type 0
CanTransfer c peer at can = (k : Shape) (cache : CacheState) (addr peer_way : ℕ) (state peer_state : Coh)
    → is_some (transfer_row k cache c addr state peer peer_way peer_state at) ≡ can

abbrev pub CanGrantAt : Coh → ℕ → Op → Bool → Type 0
CanGrantAt state addr op can = (k : Shape) (cache : CacheState) (c way : ℕ) (words : List ℕ)
    → is_some (grant_row k cache c way state addr words op) ≡ can

abbrev pub CanGrant : ℕ → Coh → ℕ → Option InProgress → Bool → Type 0
CanGrant way state addr busy can = (k : Shape) (cache : CacheState) (c : ℕ) (words : List ℕ)
    → is_some (grant_for k cache c way state addr words busy) ≡ can

abbrev pub CanTakeWordOf : ℕ → Op → Bool → Type 0
CanTakeWordOf addr op can = (cache : CacheState) (c way word : ℕ) → is_some (word_row cache c way addr word op) ≡ can

abbrev pub CanTakeWord : ℕ → Option InProgress → Bool → Type 0
CanTakeWord addr busy can = (cache : CacheState) (c word : ℕ)
    → is_some (by_operation busy (λ way op. word_row cache c way addr word op)) ≡ can

abbrev pub CanBeWrittenOf : ℕ → Op → Bool → Type 0
CanBeWrittenOf addr op can = (cache : CacheState) (c way : ℕ) → is_some (written_row cache c way addr op) ≡ can

abbrev pub CanBeWritten : ℕ → Option InProgress → Bool → Type 0
CanBeWritten addr busy can = (cache : CacheState) (c : ℕ)
    → is_some (by_operation busy (λ way op. written_row cache c way addr op)) ≡ can

abbrev pub CanBeEvictedOf : ℕ → Op → Bool → Type 0
CanBeEvictedOf addr op can = (cache : CacheState) (c way : ℕ) → is_some (evicted_row cache c way addr op) ≡ can

abbrev pub CanBeEvicted : ℕ → Option InProgress → Bool → Type 0
CanBeEvicted addr busy can = (cache : CacheState) (c : ℕ)
    → is_some (by_operation busy (λ way op. evicted_row cache c way addr op)) ≡ can
