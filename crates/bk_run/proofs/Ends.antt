-- What is known at the end of a run of the greedy schedule, and of a report.
use Rattle.std.proofs.Common.{◌≡◌, ℕ, ◌<◌, ◌≤◌, ◌↔◌, List, Bool, Option, Some, None, refl, ap, subst, ◌∙◌, inl, inr, length, arith}
use Rattle.std.specs.Prelude.{IsTrue, IsSome, option_map}
use Rattle.std.proofs.lemmas.Bool.{cases_eq}
use Rattle.bk_base.specs.Places.{Shape}
use Rattle.bk_base.specs.declared.op.Op.{Op}
use Rattle.bk_base.specs.declared.op.Done.{Done}
use Rattle.bk_isa.specs.declared.form.Form.{Form}
use Rattle.bk_trace.specs.Traces.{operations_of}
use Rattle.bk_system.specs.declared.event.Event.{Event}
use Rattle.bk_run.specs.declared.counts.Counts.{Counts}
use Rattle.bk_base.specs.Counting.{or_else, first_below}
use Rattle.bk_system.specs.State.{State}
use Rattle.bk_system.specs.Runs.{run, completed_by, is_rested, IsComplete}
use Rattle.bk_run.specs.Jobs.{Job}
use Rattle.bk_run.specs.Greedy.{ready_operation, issue_with, least_other, least_enabled, IsLeast, IsEnd, IsGreedy}
use Rattle.bk_run.specs.Serial.{IsGreedyRun, IsEnded, IsSpent}
use Rattle.bk_run.specs.Report.{IsReport, counts_of, report_text}
use Rattle.bk_run.specs.Completion.{IsDone, IsFinished}
use Rattle.bk_run.proofs.Prefixes.{complete-from}
use Rattle.bk_run.proofs.Tight.{greedy-tight}
use Rattle.bk_run.proofs.InOrder.{greedy-in_order, tight-completed, prefix-whole}

-- whether the trace is done, told of the system that made the events
pub told-from : (k config : Shape) (program : List Form) (lines : List (ℕ × Op)) (events given : List Event) (history : List Done)
    (s : State) (rested b : Bool) → given ≡ events → config ≡ k → s ≡ run k program events → history ≡ s.history
    → rested ≡ is_rested config program s
    → (IsTrue b ↔ IsDone k lines given history rested) → (IsTrue b ↔ IsComplete k program lines events)
told-from k config program lines events given history s rested b g c e h r done =
    complete-from k program lines events history rested b (h ∙ ap (λ (later : State). later.history) e) (r
    ∙ ap (λ (shape : Shape). is_rested shape program s) c ∙ ap (is_rested k program) e)
    (subst (λ (es : List Event). IsTrue b ↔ IsDone k lines es history rested) g done)

-- What is asked after a greedy list of events tells whether it does all of the trace.
finished-told : (job : Job) (events : List Event) (b : Bool) → IsGreedy job events
    → (IsTrue b ↔ IsFinished job.config job.program job.operations (run job.config job.program events))
    → (IsTrue b ↔ IsComplete job.config job.program job.operations events)
finished-told job events b greedy finished = (
  λ h. let known = finished.0 h in record {
    in_order = greedy-in_order job events greedy;
    whole = λ c below. prefix-whole (completed_by c (run job.config job.program events).history) (operations_of c job.operations)
        (tight-completed job.config job.program job.operations events (greedy-tight job events greedy)
        (greedy-in_order job events greedy) c below) (known.as_many c below);
    rested = known.rested;
  },
  λ complete. finished.1 (record { rested = complete.rested; as_many = λ c below. ap length (complete.whole c below) }),
)

-- a greedy list that keeps to the limit, told of the system that made the events
pub made-run : (job : Job) (k : Shape) (events : List Event) (s : State) (b : Bool)
    → IsGreedy job events → length events ≤ job.limit → k ≡ job.config → s ≡ run job.config job.program events
    → (IsTrue b ↔ IsFinished k job.program job.operations s)
    → IsGreedyRun job events b
made-run job k events s b greedy few c e finished = record {
  greedy = greedy;
  few = few;
  tight = greedy-tight job events greedy;
  in_order = greedy-in_order job events greedy;
  told = finished-told job events b greedy
      (subst (λ (later : State). IsTrue b ↔ IsFinished job.config job.program job.operations later) e
      (subst (λ (config : Shape). IsTrue b ↔ IsFinished config job.program job.operations s) c finished));
}

-- an event that is the least with one way is no end: whether there is one doesn't depend on the way
least-some : (k : Shape) (program : List Form) (s : State) (lines : List (ℕ × Op)) (way : ℕ) (event : Event)
    → least_enabled k program s lines way ≡ Some event → IsSome (least_enabled k program s lines 0)
least-some k program s lines way event h = go (first_below k.caches (ready_operation k program s lines)) (least_other k program s) h
  where
    go : (o : Option (ℕ × Op)) (later : Option Event) → or_else (option_map (issue_with way) o) later ≡ Some event
        → IsSome (or_else (option_map (issue_with 0) o) later)
    go (Some at) later e = refl
    go None later e = rw e refl

-- the end of a run, told of the hardware that made the events
pub made-ended : (job : Job) (k : Shape) (events : List Event) (s : State) (b : Bool) → IsGreedyRun job events b
    → k ≡ job.config → s ≡ run job.config job.program events → IsEnd k job.program s job.operations → IsEnded job events b
made-ended job k events s b made c h none = record {
  made = made;
  ended = subst (λ (later : State). IsEnd job.config job.program later job.operations) h
      (subst (λ (config : Shape). IsEnd config job.program s job.operations) c none);
}

-- one more event is enabled: then the limit is used up, since a shorter run came to its end
pub made-spent : (job : Job) (config : Shape) (events : List Event) (s : State) (b : Bool) (event : Event) → IsGreedyRun job events b
    → (length events < job.limit → IsEnd job.config job.program s job.operations) → config ≡ job.config
    → s ≡ run job.config job.program events → IsLeast job.policy config job.program s job.operations event → IsSpent job events b
made-spent job config events s b event made whole c h least =
    let k = job.config in
    let program = job.program in
    let lines = job.operations in
    let here : IsLeast job.policy k program s lines event =
    subst (λ (shape : Shape). IsLeast job.policy shape program s lines event) c least in
    let some : IsSome (least_enabled k program s lines 0) = least-some k program s lines here.way event here.least in
    record {
      made = made;
      spent = elim (cases_eq (length events) job.limit) [
        | inl same ↦ same
        | inr differ ↦ absurd (let few = made.few in let none : least_enabled k program s lines 0 ≡ None = whole (omega arith)
            in none-some (least_enabled k program s lines 0) none some)
      ];
      enabled = subst (λ (later : State). IsSome (least_enabled k program later lines 0)) h some;
    }
  where
    none-some : (o : Option Event) → o ≡ None → IsSome o → ⊥
    none-some None e h = absurd (cc)
    none-some (Some event) e h = absurd (cc)

pub report-from : (k config : Shape) (program : List Form) (lines : List (ℕ × Op)) (events : List Event) (s : State)
    (n : Counts) (b : Bool)
    (bytes : List ℕ) → config ≡ k → s ≡ run k program events → n ≡ counts_of k program events
    → (IsTrue b ↔ IsComplete k program lines events) → bytes ≡ report_text config s n b → IsReport k program lines events bytes
report-from k config program lines events s n b bytes c e counts told is = (
  b,
  told,
  is ∙ ap (λ (shape : Shape). report_text shape s n b) c ∙ ap (λ (later : State). report_text k later n b) e
      ∙ ap (λ (m : Counts). report_text k (run k program events) m b) counts,
)
