-- The values of words, by tag and place: the latest by the history, and those of the memory.
use Rattle.std.specs.Prelude.{ℕ, ◌≡◌, ◌&&◌, List, [], ◌∷◌, if◌then◌else◌, ◌==◌}
use Rattle.bk_machine.specs.Messages.{Op, Load, Store, UcLoad, UcStore, Evict, ToMemory, Read, Write, WriteWord}

-- an operation that has completed, with its answer: an entry of the history
pub record Completed : Type 0 where
  pub cache : ℕ
  pub op : Op
  pub answer : ℕ

-- what the words are after an operation, and after a list of them: a Store or UcStore changes its word
abbrev pub after_op : Op → (ℕ → ℕ → ℕ) → ℕ → ℕ → ℕ
after_op (Load u spot) v t number = v t number
after_op (Store u j f) v t number = if t == u && number == j then f (v t number) else v t number
after_op (UcLoad u spot) v t number = v t number
after_op (UcStore u j f) v t number = if t == u && number == j then f (v t number) else v t number
after_op (Evict u) v t number = v t number

abbrev pub values_after : (ℕ → ℕ → ℕ) → List Completed → ℕ → ℕ → ℕ
values_after v [] = v
values_after v (d ∷ ds) = values_after (after_op d.op v) ds

-- the value of each word after a history, 0 where it has no store
abbrev pub latest : List Completed → ℕ → ℕ → ℕ
latest ds = values_after (λ t k. 0) ds

-- the right answer of an operation, where the words have these values: a load's is its part of its word, any other's 0
abbrev pub answer_is : Op → (ℕ → ℕ → ℕ) → ℕ → Type 0
answer_is (Load t spot) v n = n ≡ spot.of (v t spot.word)
answer_is (Store t k f) v n = n ≡ 0
answer_is (UcLoad t spot) v n = n ≡ spot.of (v t spot.word)
answer_is (UcStore t k f) v n = n ≡ 0
answer_is (Evict t) v n = n ≡ 0

-- each answer of a history is right, where the words had the values v at first
abbrev pub RightAnswers : (ℕ → ℕ → ℕ) → List Completed → Type 0
RightAnswers v [] = Unit {0}
RightAnswers v (d ∷ ds) = answer_is d.op v d.answer × RightAnswers (after_op d.op v) ds

-- the memory after a block was written, or a word changed
abbrev pub write_block : (ℕ → ℕ → ℕ) → ℕ → (ℕ → ℕ) → ℕ → ℕ → ℕ
write_block m u ws t j = if t == u then ws j else m t j

abbrev pub write_word : (ℕ → ℕ → ℕ) → ℕ → ℕ → (ℕ → ℕ) → ℕ → ℕ → ℕ
write_word m u j f t number = if t == u && number == j then f (m t number) else m t number

-- effective memory: the memory once every write still in its channel was done
abbrev pub effective : (ℕ → ℕ → ℕ) → List ToMemory → ℕ → ℕ → ℕ
effective m [] = m
effective m (Read t ∷ ms) = effective m ms
effective m (Write t ws ∷ ms) = effective (write_block m t ws) ms
effective m (WriteWord t k f ∷ ms) = effective (write_word m t k f) ms
