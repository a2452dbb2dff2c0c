-- A log that is made one event at a time.
use Rattle.std.proofs.Common.{◌≡◌, ℕ, ◌+◌, ◌<◌, List, [], ◌∷◌, ◌++◌, Bool, true, false, refl, ap, sym, ◌∙◌, length, get_or, drop, append_assoc}
use Rattle.std.proofs.Common.{take, flat_map, Option, Some, arith}
use Rattle.std.proofs.lemmas.List.{append-nil}
use Rattle.std.proofs.lemmas.Grind.{common_steps}
use Rattle.bk_base.specs.Places.{Shape}
use Rattle.bk_isa.specs.declared.form.Form.{Form}
use Rattle.bk_msg.specs.declared.row.Row.{Row}
use Rattle.bk_system.specs.declared.event.Event.{Event}
use Rattle.bk_system.specs.State.{State, opening}
use Rattle.bk_system.specs.Events.{Happening, row}
use Rattle.bk_system.specs.Runs.{after, run_from, run}
use Rattle.bk_run.specs.Log.{ran_text, row_text, log_from, log_of, text_if}
use Rattle.bk_run.proofs.Scheduling.{drop-here}

module _ (k config : Shape) (program : List Form) (events : List Event) (i : ℕ) (event : Event) (s later : State) where
  -- what was logged before the event and what is logged from it on, and the same for the next one
  pub log-next : (out next total : List ℕ) → i < length events → event ≡ get_or events i event → config ≡ k
      → later ≡ after config program s event
      → next ≡ out ++ row_text event (row config program s event) → out ++ log_from k program s (drop i events) ≡ total
      → next ++ log_from k program later (drop (i + 1) events) ≡ total
  log-next out next total l e c h logged so_far =
      let rest = drop (i + 1) events in
      let state : later ≡ after k program s event = h ∙ ap (λ (shape : Shape). after shape program s event) c in
      let text : row_text event (row config program s event) ≡ row_text event (row k program s event) =
      ap (λ (shape : Shape). row_text event (row shape program s event)) c in
      let here : log_from k program s (drop i events) ≡ row_text event (row k program s event)
      ++ log_from k program (after k program s event) rest = ap (log_from k program s) (drop-here events i event l e) in
      ap (λ (x : List ℕ). x ++ log_from k program later rest) (logged ∙ ap (λ (x : List ℕ). out ++ x) text)
      ∙ append_assoc out (row_text event (row k program s event)) (log_from k program later rest)
      ∙ ap (λ (x : State). out ++ (row_text event (row k program s event) ++ log_from k program x rest)) state
      ∙ ap (λ (x : List ℕ). out ++ x) (sym here) ∙ so_far

-- the lines of one more message
pub lines-more : (f : Row → List ℕ) (xs : List Row) (i : ℕ) (m : Row) (was out next : List ℕ) → i < length xs
    → m ≡ get_or xs i m
    → out ≡ was ++ flat_map f (take i xs) → next ≡ out ++ f m → next ≡ was ++ flat_map f (take (i + 1) xs)
lines-more f xs i m was out next l e before now = grind (arith, common_steps)

-- what is written of an event that ran is the text of its row
pub text-ran : (event : Event) (o : Option Happening) (s : State) (sent written : List Row)
    → o ≡ Some (record { state = s; sent = sent })
    → written ≡ sent → ran_text event written ≡ row_text event o
text-ran event o s sent written e same = ap (ran_text event) same ∙ ap (row_text event) (sym e)

-- the log of a list of events and of one more
log_from-more : (k : Shape) (program : List Form) (s : State) (events : List Event) (event : Event)
    → log_from k program s (events ++ event ∷ [])
    ≡ log_from k program s events ++ row_text event (row k program (run_from k program s events) event)
log_from-more k program s [] event = append-nil (row_text event (row k program s event))
log_from-more k program s (e ∷ events) event =
    let later : State = after k program s e in
    ap (λ (text : List ℕ). row_text e (row k program s e) ++ text) (log_from-more k program later events event)
    ∙ sym (append_assoc (row_text e (row k program s e)) (log_from k program later events)
    (row_text event (row k program (run_from k program later events) event)))

text_if-append : (wanted : Bool) (xs ys : List ℕ) → text_if wanted xs ++ text_if wanted ys ≡ text_if wanted (xs ++ ys)
text_if-append true xs ys = refl
text_if-append false xs ys = refl

-- the log of a run so far, where it is wanted, and what is written of one more event, which ran
pub log-more : (wanted : Bool) (k : Shape) (program : List Form) (events : List Event) (event : Event) (s : State)
    (sent written : List Row) (out next : List ℕ)
    → out ≡ text_if wanted (log_of k program events)
    → row k program (run k program events) event ≡ Some (record { state = s; sent = sent }) → written ≡ sent
    → next ≡ out ++ text_if wanted (ran_text event written)
    → next ≡ text_if wanted (log_of k program (events ++ event ∷ []))
log-more wanted k program events event s sent written out next before ran same now =
    let text : ran_text event written ≡ row_text event (row k program (run k program events) event) =
    text-ran event (row k program (run k program events) event) s sent written ran same in
    now ∙ ap (λ (x : List ℕ). x ++ text_if wanted (ran_text event written)) before
    ∙ text_if-append wanted (log_of k program events) (ran_text event written)
    ∙ ap (λ (x : List ℕ). text_if wanted (log_of k program events ++ x)) text
    ∙ ap (text_if wanted) (sym (log_from-more k program (opening k) events event))
