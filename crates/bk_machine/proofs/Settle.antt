-- Facts that follow once nothing is on its way to a cache, or no transaction is open.
use Rattle.std.proofs.Common.{◌≡◌, ℕ, ◌+◌, Bool, true, false, not, ◌&&◌, refl, arith, List, [], ◌∷◌, sym, ◌∙◌, subst, ap, length, true≢false}
use Rattle.std.specs.Prelude.{Option, Some, None, if◌then◌else◌}
use Rattle.std.specs.Bool.{OnFalse}
use Rattle.bk_base.specs.States.{is_writable}
use Rattle.bk_machine.specs.Entries.{Entry, Holds}
use Rattle.bk_machine.specs.Messages.{Op, Load, Store, UcLoad, UcStore, Evict, ToMemory, MemoryBlock, request_tag}
use Rattle.bk_machine.specs.Transactions.{Reading, NotRead, ReadAsked, Got, Transaction, is_asked}
use Rattle.bk_machine.specs.Phases.{Phase, Free, Open, Flying, Settling, expected_entry}
use Rattle.bk_machine.specs.Copies.{Copies, Matches, Standing, OneWay, Alone, OneOwner}
use Rattle.bk_machine.specs.Values.{AllLight, Values, ReadValues, TransactionValues, OpenValues, MemoryChannels, read_count, BlocksFor, is_reading, transaction_tag}
use Rattle.bk_machine.specs.Invariant.{GrantedTransaction, NoneOrGranted, TransactionAt, WaitingCopies}
use Rattle.bk_machine.proofs.Growing.{ReadsFor-none}
use Rattle.bk_machine.proofs.Fewer.{Fewer, OneWay-fewer, Alone-fewer}

-- a transaction that is granted stands at no open phase
pub at_granted : (p : Phase) (x : Transaction) → TransactionAt p (Some x) → x.granted ≡ true → GrantedTransaction x
at_granted Free x t g = t
at_granted (Open r b fl inv) x t g = absurd (true≢false (sym g ∙ t.ungranted))
at_granted (Flying r b f) x t g = t
at_granted (Settling r u) x t g = t

-- caches that the directory covers have no more than it says
pub matches-fewer : (d h : ℕ → ℕ → Entry) → ((c w : ℕ) → Matches (d c w) (h c w)) → Fewer h d
matches-fewer d h m = record {
  holds = λ c w t k. grind (arith, m c w);
  writes = λ c w t k e. grind (arith, m c w);
}

pub OpenValues-granted : (transaction : Option Transaction) (h : ℕ → ℕ → Entry) (v a : ℕ → ℕ → ℕ)
    → NoneOrGranted transaction
    → OpenValues transaction h v a
OpenValues-granted None h v a e = tt
OpenValues-granted (Some x) h v a e = rw e.granted tt

no_blocks : (t : ℕ) (ws : ℕ → ℕ) (bs : List MemoryBlock) → length bs ≡ 0 → BlocksFor t ws bs
no_blocks t ws [] e = tt
no_blocks t ws (b ∷ bs) e = absurd (omega arith)

pub granted-unread : (transaction : Option Transaction) → NoneOrGranted transaction → is_reading transaction ≡ false
granted-unread None e = refl
granted-unread (Some x) e = rw e.granted refl

pub channels-none : (transaction ty : Option Transaction) (m v words : ℕ → ℕ → ℕ) (ms : List ToMemory) (bs : List MemoryBlock)
    → is_reading transaction ≡ false
    → is_reading ty ≡ false → MemoryChannels transaction m v ms bs → MemoryChannels ty m words ms bs
channels-none transaction ty m v words ms bs e f c =
    let none : read_count ms + length bs ≡ 0 = c.count ∙ ap (λ (b : Bool). if b then 1 else 0) e in
    record {
      count = none ∙ sym (ap (λ (b : Bool). if b then 1 else 0) f);
      to = ReadsFor-none (transaction_tag ty) 0 _ m ms (omega arith);
      back = no_blocks (transaction_tag ty) _ bs (omega arith);
    }

pub channels-granted : (transaction : Option Transaction) (m v words : ℕ → ℕ → ℕ) (ms : List ToMemory) (bs : List MemoryBlock)
    → NoneOrGranted transaction
    → MemoryChannels transaction m v ms bs → MemoryChannels transaction m words ms bs
channels-granted transaction m v words ms bs e c =
    channels-none transaction transaction m v words ms bs (granted-unread transaction e) (granted-unread transaction e) c

pub WaitingCopies-same : (op : Op) (w : ℕ) (h k : ℕ → Entry) → ((v : ℕ) → h v ≡ k v) → WaitingCopies op w h
    → WaitingCopies op w k
WaitingCopies-same (Load t spot) w h k f p = λ v. subst (λ (entry : Entry). Holds entry t → ⊥) (f v) (p v)
WaitingCopies-same (Store t j change) w h k f p =
    λ v. subst (λ (entry : Entry). Holds entry t → (v ≡ w) × (is_writable entry.state ≡ false)) (f v) (p v)
WaitingCopies-same (UcLoad t spot) w h k f p = tt
WaitingCopies-same (UcStore t j change) w h k f p = tt
WaitingCopies-same (Evict t) w h k f p = tt

-- nothing is on its way: the caches' facts are the directory's
pub settled-copies : (p : Phase) (d h : ℕ → ℕ → Entry) → ((c w : ℕ) → Matches (d c w) (h c w))
    → ((c w : ℕ) → Matches (d c w) (expected_entry p c w (h c w)))
    → OneWay d → Alone d → OneOwner d → Standing p d h → Copies p d h
settled-copies p d h m e a b c s = record {
  matches = e;
  one_way = a;
  alone = b;
  one_owner = c;
  real_way = OneWay-fewer (matches-fewer d h m) a;
  real_alone = Alone-fewer (matches-fewer d h m) b;
  standing = s;
}

pub Values-at : {p : Phase} {transaction : Option Transaction} {h : ℕ → ℕ → Entry} {ws : ℕ → ℕ → ℕ → ℕ} {v w a : ℕ
    → ℕ → ℕ} → v ≡ w
    → Values p transaction h ws w a → Values p transaction h ws v a
Values-at {p = p} {transaction = transaction} {h = h} {ws = ws} {a = a} e x = subst
    (λ (v : ℕ → ℕ → ℕ). Values p transaction h ws v a) (sym e) x

pub Values-effective : {p : Phase} {transaction : Option Transaction} {h : ℕ → ℕ → Entry} {ws : ℕ → ℕ → ℕ
    → ℕ} {v a b : ℕ → ℕ → ℕ} → a ≡ b
    → Values p transaction h ws v b → Values p transaction h ws v a
Values-effective {p = p} {transaction = transaction} {h = h} {ws = ws} {v = v} e x = subst
    (λ (a : ℕ → ℕ → ℕ). Values p transaction h ws v a) (sym e) x

pub channels-at : {transaction : Option Transaction} {m v w : ℕ → ℕ → ℕ} {ms : List ToMemory} {bs : List MemoryBlock} → v ≡ w
    → MemoryChannels transaction m w ms bs
    → MemoryChannels transaction m v ms bs
channels-at {transaction = transaction} {m = m} {ms = ms} {bs = bs} e x = subst
    (λ (v : ℕ → ℕ → ℕ). MemoryChannels transaction m v ms bs) (sym e) x

-- a Read or a Block on its way is of a tag that no cache may write
reading-light-at : (granted : Bool) (r : Reading) (t : ℕ) (h : ℕ → ℕ → Entry) (v a : ℕ → ℕ → ℕ) (x : Transaction)
    → not granted && is_asked r ≡ true
    → OnFalse granted (ReadValues r t h v) → AllLight h t
reading-light-at true r t h v a x e p = absurd (cc e)
reading-light-at false NotRead t h v a x e p = absurd (cc e)
reading-light-at false ReadAsked t h v a x e p = p
reading-light-at false (Got ws) t h v a x e p = absurd (cc e)

open-read : (granted : Bool) (x : Transaction) (h : ℕ → ℕ → Entry) (v a : ℕ → ℕ → ℕ)
    → OnFalse granted (TransactionValues x h v a)
    → OnFalse granted (ReadValues x.reading (request_tag x.request) h v)
open-read true x h v a p = tt
open-read false x h v a p = p.read

pub reading-light : (transaction : Option Transaction) (h : ℕ → ℕ → Entry) (v a : ℕ → ℕ → ℕ)
    → is_reading transaction ≡ true
    → OpenValues transaction h v a
    → AllLight h (transaction_tag transaction)
reading-light None h v a e p = absurd (cc e)
reading-light (Some x) h v a e p = reading-light-at x.granted x.reading (request_tag x.request) h v a x e (open-read x.granted x h v a p)
