-- A run of a bounded image keeps to its budget, and the greedy one comes to its end before that is used up.
use Rattle.std.proofs.Common.{◌≡◌, ℕ, ◌+◌, ◌≤◌, ◌<◌, List, [], ◌∷◌, ◌++◌, Bool, Option, Some, None, refl, ap, sym, subst, length, length-append, arith}
use Rattle.std.specs.Prelude.{if◌then◌else◌, option_and_then, option_map, IsSome}
use Rattle.std.specs.List.{All}
use Rattle.std.proofs.lemmas.Option.{slice_get_past}
use Rattle.bk_base.specs.Counting.{first_below, or_else}
use Rattle.bk_base.specs.Places.{Shape, InProfile}
use Rattle.bk_base.specs.declared.op.Op.{Op}
use Rattle.bk_base.proofs.Below.{first_below-never}
use Rattle.bk_isa.specs.declared.form.Form.{Form}
use Rattle.bk_image.specs.Images as images
use Rattle.bk_trace.specs.Traces as traces
use Rattle.bk_trace.specs.Traces.{IsLine}
use Rattle.bk_lce.specs.declared.line.WayView.{WayView}
use Rattle.bk_system.specs.declared.event.Event.{Event}
use Rattle.bk_system.specs.declared.event.Event.TheVariants.{Issue}
use Rattle.bk_system.specs.State.{State, opening}
use Rattle.bk_system.specs.Runs.{run, is_enabled, completed_by, IsTight, IsInOrder}
use Rattle.bk_bound.specs.Bound.{IsBounded, IsWithinBudget}
use Rattle.bk_run.specs.Greedy.{next_operation, ready_operation, issue_with, least_other, IsGreedy}
use Rattle.bk_run.specs.Serial.{IsSpent}
use Rattle.bk_run.proofs.InOrder.{greedy-in_order}
use Rattle.bk_run.proofs.Lawful.{in_order-lawful}
use Rattle.bk_run.proofs.Scheduling.{greedy_from-more}
use Rattle.bk_run.proofs.Tight.{greedy-tight, least-unready, some-ways}
use Rattle.bk_cmd.specs.Replays.{job_for, budget_for}

-- a trace without operations gives none to issue
no-next : (s : State) (c : ℕ) → next_operation s [] c ≡ None
no-next s c = slice_get_past [] (length (completed_by c s.history)) (omega arith)

no-ready : (k : Shape) (program : List Form) (s : State) → first_below k.caches (ready_operation k program s []) ≡ None
no-ready k program s = first_below-never k.caches (ready_operation k program s []) (λ c.
    ap (option_and_then {U = ℕ × Op} (λ op. if is_enabled k program s (Issue c 0 op) then Some (c, op) else None)) (no-next s c))

too-many : (n number most : ℕ) → n ≡ most → number ≡ n + 1 → number ≤ most → ⊥
too-many n number most spent more within = omega (arith, spent, more, within)

-- A list of a bounded image over a trace, each event enabled where it stands and each cache's operations issued in order, is within the
-- budget.
pub tight-within : (image : images.Parts) (trace : traces.Parts) (events : List Event) → IsBounded image.instrs → InProfile trace.config
    → All (IsLine trace.config.caches) trace.lines → IsTight trace.config image.instrs events
    → IsInOrder trace.config trace.lines events → IsWithinBudget trace.config image.instrs trace.lines events
tight-within image trace events bounded profile lines tight in_order =
    bounded.traces trace.config trace.lines events profile
    (in_order-lawful trace.config image.instrs trace.lines events lines tight in_order) tight in_order

module _ (policy : List WayView → ℕ → Type 0) (image : images.Parts) (trace : traces.Parts) (bounded : IsBounded image.instrs)
    (profile : InProfile trace.config) (lines : All (IsLine trace.config.caches) trace.lines)
  where
    within : (events : List Event) → IsGreedy (job_for policy image trace) events
        → IsWithinBudget trace.config image.instrs trace.lines events
    within events greedy =
        let job = job_for policy image trace in
        tight-within image trace events bounded profile lines (greedy-tight job events greedy) (greedy-in_order job events greedy)

    -- no cache is ready, so the schedule takes the event that is still enabled: the list with it is greedy too, and one too long
    one-more : (events : List Event) (complete : Bool) (o : Option Event) → IsSpent (job_for policy image trace) events complete
        → first_below trace.config.caches (ready_operation trace.config image.instrs (run trace.config image.instrs events) trace.lines)
        ≡ None
        → o ≡ least_other trace.config image.instrs (run trace.config image.instrs events) → IsSome o → ⊥
    one-more events complete None spent none e some = absurd (cc (some))
    one-more events complete (Some event) spent none e some =
        let k = trace.config in
        let least = least-unready policy k image.instrs (run k image.instrs events) trace.lines (Some event) (some-ways k profile) none e in
        let greedy = greedy_from-more (job_for policy image trace) (opening k) events event spent.made.greedy least in
        too-many (length events) (length (events ++ event ∷ [])) (budget_for image trace) spent.spent
        (length-append events (event ∷ [])) (within (events ++ event ∷ []) greedy).within

    spent-idle : (events : List Event) (complete : Bool) → trace.lines ≡ []
        → IsSpent (job_for policy image trace) events complete → ⊥
    spent-idle events complete empty spent =
        let k = trace.config in
        let s = run k image.instrs events in
        let none : first_below k.caches (ready_operation k image.instrs s trace.lines) ≡ None =
        subst (λ (ops : List (ℕ × Op)). first_below k.caches (ready_operation k image.instrs s ops) ≡ None) (sym empty)
        (no-ready k image.instrs s) in
        one-more events complete (least_other k image.instrs s) spent none refl
        (subst (λ (o : Option (ℕ × Op)). IsSome (or_else (option_map (issue_with 0) o) (least_other k image.instrs s))) none
        spent.enabled)

    -- with an operation in the trace, there are fewer events than the budget
    spent-busy : (events : List Event) (complete : Bool) → 1 ≤ length trace.lines
        → IsSpent (job_for policy image trace) events complete → ⊥
    spent-busy events complete some spent =
        below (length events) (budget_for image trace) spent.spent ((within events spent.made.greedy).fewer some)
      where
        below : (n most : ℕ) → n ≡ most → n < most → ⊥
        below n most spent fewer = omega (arith, spent, fewer)

    pub never-spent : (events : List Event) (complete : Bool) → IsSpent (job_for policy image trace) events complete → ⊥
    never-spent events complete spent = whether trace.lines refl
      where
        whether : (ops : List (ℕ × Op)) → trace.lines ≡ ops → ⊥
        whether [] e = spent-idle events complete e spent
        whether (op ∷ ops) e = spent-busy events complete (subst (λ (n : ℕ). 1 ≤ n) (sym (ap length e)) (omega arith)) spent
