-- The history only grows: so a cache that has no operation left has none after an event either.
use Rattle.std.proofs.Common.{◌≡◌, ℕ, zero, suc, ◌+◌, ◌≤◌, List, [], ◌∷◌, ◌++◌, Option, Some, None, refl, ap, sym, ◌∙◌, subst, length, length-append, arith}
use Rattle.std.specs.Prelude.{slice_get}
use Rattle.std.specs.Option.{option_to_list}
use Rattle.std.proofs.lemmas.List.{append-nil}
use Rattle.std.proofs.lemmas.Option.{slice_get_past}
use Rattle.bk_base.specs.Places.{Shape}
use Rattle.bk_base.specs.declared.op.Op.{Op}
use Rattle.bk_base.specs.declared.op.Done.{Done}
use Rattle.bk_isa.specs.declared.form.Form.{Form}
use Rattle.bk_msg.specs.declared.row.Row.{Row}
use Rattle.bk_trace.specs.Traces.{operations_of}
use Rattle.bk_lce.specs.CacheTable.{Transition}
use Rattle.bk_system.specs.declared.event.Event.{Event}
use Rattle.bk_system.specs.declared.event.Event.TheVariants.{Issue, Command, Fill, Memory, Engine}
use Rattle.bk_system.specs.State.{State}
use Rattle.bk_system.specs.Events.{Happening, row, first, cache_row, issue_taken, command_taken, without_command, fill_taken, without_fill, access_row, can_run}
use Rattle.bk_system.specs.Runs.{completed_by}
use Rattle.bk_run.specs.Schedule.{AreThrough}
use Rattle.bk_run.proofs.Tight.{Each, if-each}
use Rattle.bk_run.proofs.Begun.{completed_by-append}

-- the later history is the earlier one with entries after it
abbrev pub HasGrown : List Done → Happening → Type 0
HasGrown history happening = (more : List Done) × (happening.state.history ≡ history ++ more)

cache-grows : (s : State) (c : ℕ) (o : Option Transition) → Each (HasGrown s.history) (cache_row s c o)
cache-grows s c None = tt
cache-grows s c (Some taken) = (option_to_list taken.done, refl)

access-grows : (s : State) (m : Option Row) → Each (HasGrown s.history) (access_row s m)
access-grows s None = tt
access-grows s (Some m) = ([], sym (append-nil s.history))

pub row-grows : (k : Shape) (program : List Form) (s : State) (event : Event) → Each (HasGrown s.history) (row k program s event)
row-grows k program s (Issue c way op) = cache-grows s c (issue_taken k s c op way)
row-grows k program s (Command c) = cache-grows (without_command s c) c (command_taken k s c)
row-grows k program s (Fill to from) = cache-grows (without_fill s to from) to (fill_taken k s to from)
row-grows k program s Memory = access-grows s (first s.memout)
row-grows k program s (Engine choice) =
    if-each (HasGrown s.history) (can_run k program s choice) _ (λ e. ([], sym (append-nil s.history)))

-- what stands in no place of a list stands in none after it
within : {X : Type 0} (xs : List X) (i : ℕ) → slice_get xs i ≡ None → length xs ≤ i
within [] i e = omega arith
within (x ∷ xs) zero e = absurd (cc)
within (x ∷ xs) (suc i) e = let rest : length xs ≤ i = within xs i e in omega arith

later : {X : Type 0} (xs : List X) (i j : ℕ) → slice_get xs i ≡ None → i ≤ j → slice_get xs j ≡ None
later xs i j e l = let short : length xs ≤ i = within xs i e in slice_get_past xs j (omega arith)

more-through : (s : State) (happening : Happening) (lines : List (ℕ × Op)) (finished : ℕ) → HasGrown s.history happening
    → AreThrough s lines finished → AreThrough happening.state lines finished
more-through s happening lines finished grown through c l =
    let before = completed_by c s.history in
    let count : length (completed_by c happening.state.history) ≡ length before + length (completed_by c grown.0) =
    ap (λ (history : List Done). length (completed_by c history)) grown.1
    ∙ ap (λ (ops : List Op). length ops) (completed_by-append c s.history grown.0) ∙ length-append before (completed_by c grown.0) in
    later (operations_of c lines) (length before) (length (completed_by c happening.state.history)) (through c l) (omega arith)

-- The caches that have no operation left have none after an event.
pub still-through : (k : Shape) (program : List Form) (s : State) (event : Event) (happening : Happening) (lines : List (ℕ × Op))
    (finished : ℕ) → row k program s event ≡ Some happening → AreThrough s lines finished
    → AreThrough happening.state lines finished
still-through k program s event happening lines finished made through =
    more-through s happening lines finished (subst (Each (HasGrown s.history)) made (row-grows k program s event)) through
