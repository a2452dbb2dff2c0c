use Rattle.std.proofs.Common.{◌≡◌, ℕ, ◌+◌, ◌*◌, ◌^◌, ◌++◌, ◌∷◌, [], List, Option, Some, ap, sym, ◌∙◌, subst, length, length-append, string_bytes, arith}
use Rattle.std.specs.Prelude.{IfSome}
use Rattle.std.specs.Fn.{FnReturnsAt}
use Rattle.bk_base.specs.Places.{Shape}
use Rattle.bk_msg.specs.declared.row.Row.{Row}
use Rattle.bk_lce.specs.declared.line.WayView.{WayView}
use Rattle.bk_system.specs.declared.event.Event.{Event}
use Rattle.bk_system.specs.State.{State, opening}
use Rattle.bk_system.specs.Events.{row}
use Rattle.bk_system.specs.Runs.{state_after_row, run}
use Rattle.bk_run.specs.declared.counts.Counts.{Counts}
use Rattle.bk_run.specs.Jobs.{Job, job_of}
use Rattle.bk_run.specs.Greedy.{IsLeast, IsGreedy}
use Rattle.bk_run.specs.Log.{log_of, text_if}
use Rattle.bk_run.specs.Report.{no_counts, count_event, count_sent, count_row, counts_of}
use Rattle.bk_system.specs.Systems.{state_of}
use Rattle.bk_run.proofs.CountBounds.{at_most_higher}
use Rattle.bk_run.proofs.Grows.{still-through}
use Rattle.bk_run.proofs.Logging.{log-more}
use Rattle.bk_run.proofs.Scheduling.{greedy_from-more, run_from-more, counts_from-more}
use Rattle.bk_run.proofs.serial_runs.make_events.Goals as goal

pub count_made-requires : goal.count_made-requires
count_made-requires g c = record {
  few = c.sent-sent.ensures.few;
  room = at_most_higher c.loop.counter (2 ^ 59) (16 * c.loop.counter) (2 ^ 63) c.loop.counted.counts (omega arith) (omega arith)
      c.loop.invariant.room;
}

-- the caches that have no operation left have none after the event
pub past_finished-finished-requires-clause-finished : goal.past_finished-finished-requires-clause-finished
past_finished-finished-requires-clause-finished g c =
    let old = c.loop.counted.hardware in
    let new = c.make_least.new.hardware in
    let p = c.args.program.now in
    let made : row old.config p (state_of old) c.in-Some.event ≡ Some (record { state = state_of new; sent = new.sent.items }) =
    subst (λ (o : Option Event). IfSome o (λ e. row old.config p (state_of old) e
    ≡ Some (record { state = state_of new; sent = new.sent.items }))) c.in-Some.is c.in-Ok.ensures.row in
    still-through old.config p (state_of old) c.in-Some.event (record { state = state_of new; sent = new.sent.items })
    c.args.trace.now.lines c.loop.finished made c.loop.invariant.through

-- One event, the least enabled, was made and goes to the end of the list. State, counts, log and greedy order of a list with one more at
-- its end are those of the list, taken one event on (`run_from-more`, `counts_from-more`, `log-more`, `greedy_from-more`).
pub loop-preserved : goal.loop-preserved
loop-preserved g c =
    let k = c.args.trace.now.config in
    let p = c.args.program.now in
    let event : Event = c.in-Some.event in
    let old = c.loop.counted.hardware in
    let new = c.make_least.new.hardware in
    let s : State = state_of old in
    let was : List Event = c.loop.events.items in
    let policy : List WayView → ℕ → Type 0 = FnReturnsAt g.F.Fn c.args.victim.now.pick in
    let job : Job = job_of policy p c.args.trace.now c.args.budget in
    let made : row old.config p s event ≡ Some (record { state = state_of new; sent = new.sent.items }) =
    subst (λ (o : Option Event). IfSome o (λ e. row old.config p s e ≡ Some (record { state = state_of new; sent = new.sent.items })))
    c.in-Some.is c.in-Ok.ensures.row in
    let here : row k p (run k p was) event ≡ Some (record { state = state_of new; sent = new.sent.items }) =
    subst (λ (at : State). row k p at event ≡ Some (record { state = state_of new; sent = new.sent.items })) c.loop.invariant.state
    (subst (λ (config : Shape). row config p s event ≡ Some (record { state = state_of new; sent = new.sent.items }))
    c.loop.invariant.config made) in
    let taken : IsLeast policy old.config p s c.args.trace.now.lines event =
    subst (λ (o : Option Event). IfSome o (λ e. IsLeast policy old.config p s c.args.trace.now.lines e)) c.in-Some.is
    c.in-Ok.ensures.least in
    let least : IsLeast policy k p (run k p was) c.args.trace.now.lines event =
    subst (λ (at : State). IsLeast policy k p at c.args.trace.now.lines event) c.loop.invariant.state
    (subst (λ (config : Shape). IsLeast policy config p s c.args.trace.now.lines event) c.loop.invariant.config taken) in
    let more : c.push.new.self.items ≡ was ++ event ∷ [] = c.in-Ok-push.ensures.items in
    let count : length c.push.new.self.items ≡ c.loop.counter + 1 = ap length more ∙ length-append was (event ∷ [])
    ∙ ap (λ (n : ℕ). n + 1) c.loop.invariant.count in
    record {
      config = c.in-Ok.ensures.config ∙ c.loop.invariant.config;
      room = c.count_made.ensures.grows c.loop.counter c.loop.invariant.room;
      state = sym (ap (state_after_row (run k p was)) here) ∙ sym (run_from-more k p (opening k) was event)
          ∙ ap (λ (es : List Event). run k p es) (sym more);
      counts = c.count_made.ensures.value
          ∙ ap (λ (n : Counts). count_sent (count_event n event) c.sent-sent.result.now) c.loop.invariant.counts
          ∙ ap (λ (sent : List Row). count_sent (count_event (counts_of k p was) event) sent) c.sent-sent.ensures.value
          ∙ ap (count_row (counts_of k p was) event) (sym here)
          ∙ sym (counts_from-more k p (opening k) no_counts was event) ∙ ap (λ (es : List Event). counts_of k p es) (sym more);
      greedy = subst (IsGreedy job) (sym more) (greedy_from-more job (opening k) was event c.loop.invariant.greedy least);
      log = log-more c.args.is_logged k p was event (state_of new) new.sent.items c.sent-sent.result.now (string_bytes c.loop.log)
          (string_bytes c.push_ran_if.new.out) c.loop.invariant.log here c.sent-sent.ensures.value c.in-Ok-push_ran_if.ensures
          ∙ ap (λ (es : List Event). text_if c.args.is_logged (log_of k p es)) (sym more);
      count = count;
      through = c.past_finished-finished.ensures;
    }
