-- The words of marks of a network's channels.
use Rattle.std.proofs.Common.{◌≡◌, ◌≢◌, ℕ, ◌<◌, ◌≤◌, List, [], ◌∷◌, ◌++◌, cond, eqb, length, set, Bool, true, false, Option, Some, None, refl, ap, sym, ◌∙◌, inl, inr, arith}
use mathlib.Core.Path.{fun_ext}
use Rattle.std.specs.Vec.{vec_len}
use Rattle.std.specs.Prelude.{not, if◌then◌else◌, is_some, replicate}
use Rattle.std.specs.Option.{MatchOption}
use Rattle.std.proofs.lemmas.Bool.{cases_lt}
use Rattle.bk_base.specs.Tables.{put}
use Rattle.bk_base.specs.Counting.{all_below, is_nil}
use Rattle.bk_base.proofs.Below.{all_below-fails, all_below-always}
use Rattle.bk_msg.specs.declared.row.Row.{Row}
use Rattle.bk_system.specs.declared.queue.Queue.{Queue}
use Rattle.bk_system.specs.declared.channels.Channels.{Channels}
use Rattle.bk_system.specs.Channels.{queue, channel_count, IsNext}
use Rattle.bk_system.specs.Queues.{items_of, queues_of, mark_of, AreMarks}
use Rattle.bk_system.specs.Bits.{mark_at}
use Rattle.bk_system.proofs.FourWords.{NoneTo, IsFirstMark, mark-zero}
use Rattle.bk_system.proofs.Queues.{at-set, queue-past}

mark-nil : (ms : List Row) → mark_of ms ≡ 0 → ms ≡ []
mark-nil [] e = refl
mark-nil (m ∷ ms) e = absurd (omega arith)

mark-some : (ms : List Row) → mark_of ms ≡ 1 → ms ≢ []
mark-some [] e = absurd (omega arith)
mark-some (m ∷ ms) e = λ h. cc

pub mark-append : (ms : List Row) (m : Row) → 1 ≡ mark_of (ms ++ m ∷ [])
mark-append [] m = refl
mark-append (x ∷ ms) m = refl

pub mark-holds : (ms : List Row) (empty : Bool) → empty ≡ is_nil ms → (if not empty then 1 else 0) ≡ mark_of ms
mark-holds [] empty e = rw e refl
mark-holds (m ∷ ms) empty e = rw e refl

-- the marks once one channel was changed
pub marks-changed : (n later : List ℕ) (xs : List Queue) (c : ℕ) (q : Queue) (v : ℕ) → c < length xs → v ≡ mark_of (items_of q)
    → AreMarks n (queues_of xs) → ((j : ℕ) → j < 256 → mark_at later j ≡ put (mark_at n) c v j)
    → AreMarks later (queues_of (set xs c q))
unfolding put
marks-changed n later xs c q v l is were now j lj =
    now j lj ∙ by (eqb j c) (were j lj) ∙ sym (ap mark_of (at-set items_of [] xs c q j l))
  where
    by : (b : Bool) → mark_at n j ≡ mark_of (queues_of xs j)
        → cond b v (mark_at n j) ≡ mark_of (cond b (items_of q) (queues_of xs j))
    by true e = is
    by false e = e

-- the marks of empty channels
pub marks-empty : (channel : ℕ → List Row) → ((c : ℕ) → channel c ≡ []) → AreMarks (replicate 4 0) channel
marks-empty channel h c l = mark-zero c l ∙ sym (ap mark_of (h c))

marks-of : (a : Channels) → AreMarks a.marks (queue a)
unfolding queue
marks-of a = a.marked

-- no channel from a number on holds a message
pub next-none : (a : Channels) (from to : ℕ) → 256 ≤ to → NoneTo a.marks from to → (c : ℕ) → from ≤ c → queue a c ≡ []
next-none a from to all h c l =
    elim (cases_lt c 256) [
      | inl within ↦ mark-nil (queue a c) (sym (marks-of a c within) ∙ h c l (omega arith))
      | inr past ↦ queue-past a c (let few : vec_len a.queues ≤ 256 = a.few in omega arith)
    ]

-- a channel that holds a message is there
holds-there : (a : Channels) (c : ℕ) → queue a c ≢ [] → c < vec_len a.queues
holds-there a c h =
    elim (cases_lt c (vec_len a.queues)) [
      | inl there ↦ there
      | inr past ↦ absurd (h (queue-past a c past))
    ]

-- the first channel from a number on that holds a message, by the first mark
pub next-some : (a : Channels) (from c : ℕ) → IsFirstMark a.marks from c → IsNext (queue a) (channel_count a) from c
next-some a from c first =
    let holds : queue a c ≢ [] = mark-some (queue a c) (sym (marks-of a c first.within) ∙ first.is_set) in
    record {
      low = first.low;
      there = holds-there a c holds;
      holds = holds;
      before = λ d l lt. mark-nil (queue a d) (sym (marks-of a d (let w : c < 256 = first.within in omega arith)) ∙ first.before d l lt);
    }

not-nil : (ms : List Row) → ms ≢ [] → is_nil ms ≡ false
not-nil [] h = absurd (h refl)
not-nil (m ∷ ms) h = refl

-- whether all are empty, by whether there is a first that holds a message
pub empty-by : (a : Channels) (r : Option ℕ) (none : Bool) → is_some r ≡ not none
    → MatchOption r ((c : ℕ) → 0 ≤ c → queue a c ≡ []) (λ c. IsNext (queue a) (channel_count a) 0 c)
    → none ≡ all_below (channel_count a) (λ c. is_nil (queue a c))
empty-by a None none e h =
    let empty : queue a ≡ (λ c. []) = fun_ext (λ c. h c (omega arith)) in
    let is : none ≡ true = turned none e in
    is ∙ sym (all_below-always (channel_count a))
    ∙ ap (λ (f : ℕ → List Row). all_below (channel_count a) (λ c. is_nil (f c))) (sym empty)
  where
    turned : (b : Bool) → false ≡ not b → b ≡ true
    turned true e = refl
    turned false e = e
empty-by a (Some c) none e h =
    turned none e ∙ sym (all_below-fails (channel_count a) c (λ (j : ℕ). is_nil (queue a j)) h.there (not-nil (queue a c) h.holds))
  where
    turned : (b : Bool) → true ≡ not b → b ≡ false
    turned true e = e
    turned false e = refl
