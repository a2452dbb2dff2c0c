-- Runs one event at a time, as loops make them.
use Rattle.std.proofs.Common.{◌≡◌, ℕ, suc, ◌+◌, ◌<◌, List, [], ◌∷◌, ◌++◌, refl, ap, sym, ◌∙◌, length, get_or, drop, drop-cons, add-one}
use Rattle.bk_base.specs.Places.{Shape}
use Rattle.bk_isa.specs.declared.form.Form.{Form}
use Rattle.bk_system.specs.declared.event.Event.{Event}
use Rattle.bk_system.specs.State.{State}
use Rattle.bk_system.specs.Events.{row}
use Rattle.bk_system.specs.Runs.{after, run_from}
use Rattle.bk_run.specs.declared.counts.Counts.{Counts}
use Rattle.bk_run.specs.Report.{count_row, counts_from}
use Rattle.bk_run.specs.Jobs.{Job}
use Rattle.bk_run.specs.Greedy.{IsLeast, IsGreedyFrom}

-- one event more
pub run_from-more : (k : Shape) (program : List Form) (s : State) (events : List Event) (event : Event)
    → run_from k program s (events ++ event ∷ []) ≡ after k program (run_from k program s events) event
run_from-more k program s [] event = refl
run_from-more k program s (e ∷ events) event = run_from-more k program (after k program s e) events event

pub counts_from-more : (k : Shape) (program : List Form) (s : State) (counts : Counts) (events : List Event) (event : Event)
    → counts_from k program s counts (events ++ event ∷ [])
    ≡ count_row (counts_from k program s counts events) event (row k program (run_from k program s events) event)
counts_from-more k program s counts [] event = refl
counts_from-more k program s counts (e ∷ events) event =
    counts_from-more k program (after k program s e) (count_row counts e (row k program s e)) events event

-- one greedy event more
pub greedy_from-more : (job : Job) (s : State) (events : List Event) (event : Event) → IsGreedyFrom job s events
    → IsLeast job.policy job.config job.program (run_from job.config job.program s events) job.operations event
    → IsGreedyFrom job s (events ++ event ∷ [])
greedy_from-more job s [] event h least = (least, tt)
greedy_from-more job s (e ∷ events) event h least =
    (h.0, greedy_from-more job (after job.config job.program s e) events event h.1 least)

-- a list from a place on is its element there, and the list from the next place on
pub drop-here : {X : Type 0} (xs : List X) (i : ℕ) (x : X) → i < length xs → x ≡ get_or xs i x
    → drop i xs ≡ x ∷ drop (i + 1) xs
drop-here {X} xs i x l e = rw (add-one) (drop-cons xs i x l ∙ ap (λ (y : X). y ∷ drop (suc i) xs) (sym e))

-- the run of a list of events, one event at a time
pub run-next : (k config : Shape) (program : List Form) (events : List Event) (i : ℕ) (event : Event) (s later total : State)
    → i < length events → event ≡ get_or events i event → config ≡ k → later ≡ after config program s event
    → run_from k program s (drop i events) ≡ total → run_from k program later (drop (i + 1) events) ≡ total
run-next k config program events i event s later total l e c h so_far =
    let next : later ≡ after k program s event = h ∙ ap (λ (shape : Shape). after shape program s event) c in
    ap (λ (then_state : State). run_from k program then_state (drop (i + 1) events)) next
    ∙ ap (λ (es : List Event). run_from k program s es) (sym (drop-here events i event l e)) ∙ so_far

-- the counts of a list of events, one event at a time
pub counts-next : (k config : Shape) (program : List Form) (events : List Event) (i : ℕ) (event : Event) (s later : State)
    (counts m total : Counts) → i < length events → event ≡ get_or events i event → config ≡ k
    → later ≡ after config program s event
    → m ≡ count_row counts event (row config program s event) → counts_from k program s counts (drop i events) ≡ total
    → counts_from k program later m (drop (i + 1) events) ≡ total
counts-next k config program events i event s later counts m total l e c h counted so_far =
    let next : later ≡ after k program s event = h ∙ ap (λ (shape : Shape). after shape program s event) c in
    let same : m ≡ count_row counts event (row k program s event) =
    counted ∙ ap (λ (shape : Shape). count_row counts event (row shape program s event)) c in
    ap (λ (x : State). counts_from k program x m (drop (i + 1) events)) next
    ∙ ap (λ (x : Counts). counts_from k program (after k program s event) x (drop (i + 1) events)) same
    ∙ ap (λ (es : List Event). counts_from k program s counts es) (sym (drop-here events i event l e)) ∙ so_far
