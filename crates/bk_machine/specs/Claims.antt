-- What the table machine keeps: sole writers, latest answers, and pending groups.
use Rattle.std.specs.Prelude.{ℕ, ◌≡◌, ◌≢◌, ◌+◌, ◌<◌, ◌≤◌, true, false, ◌&&◌, List, [], ◌∷◌, ◌++◌, Option, Some, None, if◌then◌else◌, ◌==◌, is_some}
use Rattle.bk_base.specs.Places.{Shape}
use Rattle.bk_base.specs.States.{is_writable}
use Rattle.bk_machine.specs.Entries.{Holds, times}
use Rattle.bk_machine.specs.Words.{Completed, answer_is}
use Rattle.bk_machine.specs.Messages.{Op, Store, UcStore, ToCache, FillMessage, Response, InvAck, MemoryBlock, answer_of}
use Rattle.bk_machine.specs.Transactions.{Transaction, FlushAsked, ReadAsked}
use Rattle.bk_machine.specs.World.{World}
use Rattle.bk_machine.specs.Runs.{Command, Fill, step_of}

-- Single writer or many readers: where two caches hold a block neither has it in E or M. And no cache holds a block in two ways.
pub record Sole (world : World) : Type 0 where
  pub alone : (g t c w o i : ℕ) → Holds (world.entries g c w) t → Holds (world.entries g o i) t → c ≢ o
      → is_writable (world.entries g c w).state ≡ false
  pub one_way : (g t c w i : ℕ) → Holds (world.entries g c w) t → Holds (world.entries g c i) t → w ≡ i

-- what an entry of the history makes of the value of a word (by group, tag, word): a Store or UcStore changes its own word
abbrev pub changed_in : Op → ℕ → ℕ → ℕ → ℕ
changed_in (Store u j f) t number n = if t == u && number == j then f n else n
changed_in (UcStore u j f) t number n = if t == u && number == j then f n else n
changed_in op t number n = n

abbrev pub changed_by : ℕ × Completed → ℕ → ℕ → ℕ → ℕ → ℕ
changed_by d g t j n = if g == d.0 then changed_in d.1.op t j n else n

-- the value of a word after the entries of a list, the oldest first, where it was n before them; at first it is 0
abbrev pub value_after : ℕ → List (ℕ × Completed) → ℕ → ℕ → ℕ → ℕ
value_after n [] g t j = n
value_after n (d ∷ later) g t j = value_after (changed_by d g t j n) later g t j

abbrev pub latest_value : List (ℕ × Completed) → ℕ → ℕ → ℕ → ℕ
latest_value = value_after 0

-- The data-value rule over the one history: each load has answered its part of what the stores before it made of its word; every
-- other operation has answered 0.
pub record Latest (world : World) : Type 0 where
  pub answers : (before : List (ℕ × Completed)) (d : ℕ × Completed) (after : List (ℕ × Completed))
      → world.history ≡ before ++ d ∷ after
      → answer_is d.1.op (latest_value before d.0) d.1.answer

-- A group is pending exactly where it has a taken request that isn't settled, and it has one such request at most.
pub record PendingAgrees (world : World) : Type 0 where
  pub pending : (g : ℕ) → world.pending g ≡ true → world.settled_count g < world.taken_count g
  pub free : (g : ℕ) → world.pending g ≡ false → world.taken_count g ≡ world.settled_count g
  pub one : (g : ℕ) → world.taken_count g ≤ world.settled_count g + 1

-- The head of a command or fill channel has a row in the receiver's table: no cache gets a message that it can't take.
pub record NoForeign (k : Shape) (world : World) : Type 0 where
  pub command : (c g : ℕ) (m : ToCache) (rest : List (ℕ × ToCache)) → c < k.caches → world.command c ≡ (g, m) ∷ rest
      → is_some (step_of k world (Command c)) ≡ true
  pub fill : (to from g : ℕ) (m : FillMessage) (rest : List (ℕ × FillMessage)) → to < k.caches → from < k.caches
      → world.fill to from ≡ (g, m) ∷ rest
      → is_some (step_of k world (Fill to from)) ≡ true

-- The engine serves a request of group g that isn't granted, and P holds of its transaction.
pub record ServesUngranted (world : World) (g : ℕ) (P : Transaction → Type 0) : Type 0 where
  pub transaction : Transaction
  pub is : world.transaction ≡ Some (g, transaction)
  pub ungranted : transaction.granted ≡ false
  pub so : P transaction

-- A head that isn't CohAck is of the transaction's own group and comes when it is waited for: an InvAck from a cache whose ack is
-- to come, a Wb or NullWb while a flush is asked, a Block while a read is asked.
pub record Collectable (world : World) : Type 0 where
  pub ack : (g c t : ℕ) (rest : List (ℕ × Response)) → world.response c ≡ (g, InvAck t) ∷ rest
      → ServesUngranted world g (λ x. times c x.waiting ≡ 1)
  pub answer : (g c t : ℕ) (words : Option (ℕ → ℕ)) (rest : List (ℕ × Response))
      → world.response c ≡ (g, answer_of t words) ∷ rest
      → ServesUngranted world g (λ x. x.write_back ≡ FlushAsked)
  pub block : (g : ℕ) (b : MemoryBlock) (rest : List (ℕ × MemoryBlock)) → world.memin ≡ (g, b) ∷ rest
      → ServesUngranted world g (λ x. x.reading ≡ ReadAsked)

-- nothing is under way to or from a cache, and the engine serves no request
pub record Quiet (world : World) : Type 0 where
  pub requests : (c : ℕ) → world.request c ≡ []
  pub commands : (c : ℕ) → world.command c ≡ []
  pub fills : (c o : ℕ) → world.fill c o ≡ []
  pub responses : (c : ℕ) → world.response c ≡ []
  pub no_transaction : world.transaction ≡ None

-- no group is pending and no cache is busy
pub record Rested (world : World) : Type 0 where
  pub not_pending : (g : ℕ) → world.pending g ≡ false
  pub idle : (c : ℕ) → world.busy c ≡ None
