-- Equal lists of operations, and when a list of events with its history does all of a trace.
use Rattle.std.proofs.Common.{rules, ◌≡◌, ℕ, ◌<◌, List, Bool, false, IsTrue, ◌↔◌, sym, subst}
use Rattle.std.specs.Bool.{Decides}
use Rattle.bk_base.specs.Places.{Shape}
use Rattle.bk_base.specs.declared.op.Op.{Op}
use Rattle.bk_base.specs.declared.op.Done.{Done}
use Rattle.bk_base.specs.contracts.op.OpPartialEq.TheImpl as derived
use Rattle.bk_isa.specs.declared.form.Form.{Form}
use Rattle.bk_trace.specs.Traces.{operations_of}
use Rattle.bk_system.specs.declared.event.Event.{Event}
use Rattle.bk_system.specs.Runs.{issued_by, IsPrefix, IsInOrder, run, is_rested, IsComplete}
use Rattle.bk_run.specs.Completion.{IsWhole, IsDone}

-- `==` of operations decides whether they are the same
pub same-Decides : (x y : Op) → Decides (derived.eq-value.it x y) (x ≡ y)
same-Decides x y = search rules

-- A prefix among two lists that are what a cache issues and its operations.
pub prefix-at : (lines : List (ℕ × Op)) (events : List Event) (c : ℕ) (xs ys : List Op) → xs ≡ issued_by c events
    → ys ≡ operations_of c lines → IsPrefix xs ys → IsPrefix (issued_by c events) (operations_of c lines)
prefix-at lines events c xs ys e f p = rw (← e, ← f) p

-- where a test of that prefix fails at one cache, the events are not in order
pub refused-at : (k : Shape) (lines : List (ℕ × Op)) (events : List Event) (c : ℕ) (xs ys : List Op) (b : Bool) → c < k.caches
    → xs ≡ issued_by c events → ys ≡ operations_of c lines → (IsPrefix xs ys → IsTrue b) → b ≡ false
    → IsInOrder k lines events
    → IsTrue false
refused-at k lines events c xs ys b within e f test fails in_order =
    let p : IsPrefix xs ys = rw (e, f) (in_order c within) in
    subst (λ (also : Bool). IsTrue also) fails (test p)

-- what is done with the history of a run, and the rest after it, is complete
done-complete : (k : Shape) (program : List Form) (lines : List (ℕ × Op)) (events : List Event) (history : List Done) (rested : Bool)
    → history ≡ (run k program events).history → rested ≡ is_rested k program (run k program events)
    → IsDone k lines events history rested
    → IsComplete k program lines events
done-complete k program lines events history rested e r done = record {
  in_order = done.in_order;
  whole = subst (λ (h : List Done). IsWhole k lines h) e done.whole;
  rested = subst (λ (b : Bool). IsTrue b) r done.rested;
}

complete-done : (k : Shape) (program : List Form) (lines : List (ℕ × Op)) (events : List Event) (history : List Done) (rested : Bool)
    → history ≡ (run k program events).history → rested ≡ is_rested k program (run k program events)
    → IsComplete k program lines events
    → IsDone k lines events history rested
complete-done k program lines events history rested e r complete = record {
  in_order = complete.in_order;
  whole = subst (λ (h : List Done). IsWhole k lines h) (sym e) complete.whole;
  rested = subst (λ (b : Bool). IsTrue b) (sym r) complete.rested;
}

-- Of the history of a run, and whether it rests, a test of `IsDone` is one of `IsComplete`.
pub complete-from : (k : Shape) (program : List Form) (lines : List (ℕ × Op)) (events : List Event) (history : List Done)
    (rested b : Bool)
    → history ≡ (run k program events).history → rested ≡ is_rested k program (run k program events)
    → (IsTrue b ↔ IsDone k lines events history rested) → (IsTrue b ↔ IsComplete k program lines events)
complete-from k program lines events history rested b e r done = (
  λ h. done-complete k program lines events history rested e r (done.0 h),
  λ complete. done.1 (complete-done k program lines events history rested e r complete),
)
