-- Channels and histories that grow at their end.
use Rattle.std.proofs.Common.{◌≡◌, ℕ, ◌+◌, refl, arith, List, [], ◌∷◌, ◌++◌, sym, ◌∙◌}
use Rattle.std.specs.Prelude.{Option, Some, None}
use Rattle.bk_machine.specs.Messages.{ToMemory, Read, Write, WriteWord, MemoryBlock, request_tag}
use Rattle.bk_machine.specs.Transactions.{InProgress, WriteBack, Transaction}
use Rattle.bk_machine.specs.Phases.{Flush, Ack, Open}
use Rattle.bk_machine.specs.Words.{Completed, RightAnswers, answer_is, write_block, write_word, effective, values_after, after_op}
use Rattle.bk_machine.specs.Values.{SameWords, read_count, ReadsFor, BlocksFor}
use Rattle.bk_machine.specs.Invariant.{flush_state, flush_on, acks_due, TransactionAt}

pub values-append : (v : ℕ → ℕ → ℕ) (ds : List Completed) (d : Completed)
    → values_after v (ds ++ d ∷ []) ≡ after_op d.op (values_after v ds)
values-append v [] d = refl
values-append v (x ∷ ds) d = values-append (after_op x.op v) ds d

pub RightAnswers-append : (v : ℕ → ℕ → ℕ) (ds : List Completed) (d : Completed) → RightAnswers v ds
    → answer_is d.op (values_after v ds) d.answer
    → RightAnswers v (ds ++ d ∷ [])
RightAnswers-append v [] d p q = (q, tt)
RightAnswers-append v (x ∷ ds) d p q = (p.0, RightAnswers-append (after_op x.op v) ds d p.1 q)

abbrev pub effect : ToMemory → (ℕ → ℕ → ℕ) → ℕ → ℕ → ℕ
effect (Read t) m = m
effect (Write t ws) m = write_block m t ws
effect (WriteWord t k change) m = write_word m t k change

pub effective-append : (m : ℕ → ℕ → ℕ) (ms : List ToMemory) (x : ToMemory)
    → effective m (ms ++ x ∷ []) ≡ effect x (effective m ms)
effective-append m [] (Read t) = refl
effective-append m [] (Write t ws) = refl
effective-append m [] (WriteWord t k change) = refl
effective-append m (Read t ∷ ms) x = effective-append m ms x
effective-append m (Write t ws ∷ ms) x = effective-append (write_block m t ws) ms x
effective-append m (WriteWord t k change ∷ ms) x = effective-append (write_word m t k change) ms x

pub read_count-append : (ms : List ToMemory) (x : ToMemory) → read_count (ms ++ x ∷ []) ≡ read_count ms + read_count (x ∷ [])
read_count-append [] x = grind arith
read_count-append (Read t ∷ ms) x = omega (arith, read_count-append ms x)
read_count-append (Write t ws ∷ ms) x = read_count-append ms x
read_count-append (WriteWord t k change ∷ ms) x = read_count-append ms x

pub ReadsFor-append : (t : ℕ) (ws : ℕ → ℕ) (m : ℕ → ℕ → ℕ) (ms : List ToMemory) (x : ToMemory) → ReadsFor t ws m ms
    → ReadsFor t ws (effective m ms) (x ∷ [])
    → ReadsFor t ws m (ms ++ x ∷ [])
ReadsFor-append t ws m [] x p q = q
ReadsFor-append t ws m (Read u ∷ ms) x p q = (p.0, p.1, ReadsFor-append t ws m ms x p.2 q)
ReadsFor-append t ws m (Write u xs ∷ ms) x p q = ReadsFor-append t ws (write_block m u xs) ms x p q
ReadsFor-append t ws m (WriteWord u k change ∷ ms) x p q = ReadsFor-append t ws (write_word m u k change) ms x p q

-- where there is no Read, any words are those found
pub ReadsFor-none : (t u : ℕ) (ws : ℕ → ℕ) (m : ℕ → ℕ → ℕ) (ms : List ToMemory) → read_count ms ≡ 0
    → ReadsFor t ws m ms
ReadsFor-none t u ws m [] e = tt
ReadsFor-none t u ws m (Read x ∷ ms) e = absurd (omega arith)
ReadsFor-none t u ws m (Write x xs ∷ ms) e = ReadsFor-none t u ws (write_block m x xs) ms e
ReadsFor-none t u ws m (WriteWord x k change ∷ ms) e = ReadsFor-none t u ws (write_word m x k change) ms e

pub ReadsFor-same : (t : ℕ) (ws us : ℕ → ℕ) (m : ℕ → ℕ → ℕ) (ms : List ToMemory) → SameWords ws us
    → ReadsFor t ws m ms → ReadsFor t us m ms
ReadsFor-same t ws us m [] e p = tt
ReadsFor-same t ws us m (Read u ∷ ms) e p = (p.0, (λ k. p.1 k ∙ e k), ReadsFor-same t ws us m ms e p.2)
ReadsFor-same t ws us m (Write u xs ∷ ms) e p = ReadsFor-same t ws us (write_block m u xs) ms e p
ReadsFor-same t ws us m (WriteWord u k change ∷ ms) e p = ReadsFor-same t ws us (write_word m u k change) ms e p

pub BlocksFor-append : (t : ℕ) (ws : ℕ → ℕ) (bs : List MemoryBlock) (b : MemoryBlock) → BlocksFor t ws bs → b.tag ≡ t
    → SameWords b.words ws
    → BlocksFor t ws (bs ++ b ∷ [])
BlocksFor-append t ws [] b p e q = (e, q, tt)
BlocksFor-append t ws (x ∷ bs) b p e q = (p.0, p.1, BlocksFor-append t ws bs b p.2 e q)

pub BlocksFor-same : (t : ℕ) (ws us : ℕ → ℕ) (bs : List MemoryBlock) → SameWords ws us → BlocksFor t ws bs → BlocksFor t us bs
BlocksFor-same t ws us [] e p = tt
BlocksFor-same t ws us (b ∷ bs) e p = (p.0, (λ k. p.1 k ∙ e k), BlocksFor-same t ws us bs e p.2)

-- an open transaction while its flush and its invalidations move
pub TransactionAt-moves : (r : ℕ) (b : InProgress) (fl fm : Flush) (inv iow : ℕ → Ack)
    → ((x : WriteBack) → flush_state fl x → flush_state fm x)
    → ((u : ℕ) → flush_on fl u ≡ flush_on fm u) → ((c : ℕ) → acks_due (inv c) ≡ acks_due (iow c))
    → (transaction : Option Transaction) → TransactionAt (Open r b fl inv) transaction → TransactionAt (Open r b fm iow) transaction
TransactionAt-moves r b fl fm inv iow f o g None p = p
TransactionAt-moves r b fl fm inv iow f o g (Some x) p = record {
  is_cache = p.is_cache;
  is_request = p.is_request;
  ungranted = p.ungranted;
  flush = f x.write_back p.flush;
  acks = λ c. p.acks c ∙ g c;
  no_requester_debt = p.no_requester_debt;
  no_owner_debt = p.no_owner_debt;
  apart = λ w. sym (o (request_tag x.request)) ∙ p.apart w;
  kept_apart = p.kept_apart;
}
