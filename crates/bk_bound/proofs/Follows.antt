-- Along a run of an accepted image the exact mask fits the sets of the engine's place.
use Rattle.std.proofs.Common.{◌≡◌, ℕ, ◌+◌, ◌<◌, Bool, true, false, refl, sym, ap, ◌∙◌, subst, List, [], ◌∷◌, length, Option, Some, None, slice_get}
use Rattle.std.specs.Prelude.{if◌then◌else◌}
use Rattle.std.proofs.lemmas.Option.{slice_get-get_or}
use Rattle.bk_base.specs.Places.{Shape, InProfile}
use Rattle.bk_isa.specs.declared.form.Form.{Form}
use Rattle.bk_isa.specs.declared.form.Form.TheVariants as forms
use Rattle.bk_image.specs.Images.{Parts}
use Rattle.bk_know.specs.declared.sets.Sets.{Sets}
use Rattle.bk_know.specs.Sets.{any_empty}
use Rattle.bk_flow.specs.Flow.{fall, jump}
use Rattle.bk_flow.specs.Flow as flow
use Rattle.bk_check.specs.Accepted.{Accepted, IsMade}
use Rattle.bk_order.specs.Fits.{Leads, Stands}
use Rattle.bk_order.specs.Order.{AcceptedCarries}
use Rattle.bk_order.proofs.Places.{accepted-images-carry}
use Rattle.bk_msg.specs.declared.row.Row.{Row}
use Rattle.bk_lce.specs.CacheTable.{Transition}
use Rattle.bk_engine.specs.declared.parts.Choice.{Choice}
use Rattle.bk_engine.specs.declared.parts.Core.{Core}
use Rattle.bk_engine.specs.Engine.{EngineState}
use Rattle.bk_engine.specs.Changes.{next_place}
use Rattle.bk_engine.specs.Reads.{is_branch_taken, target}
use Rattle.bk_engine.specs.Step.{runs_to}
use Rattle.bk_engine.specs.Stops.{stop_of, stop_at}
use Rattle.bk_system.specs.declared.event.Event.{Event}
use Rattle.bk_system.specs.declared.event.Event.TheVariants as events
use Rattle.bk_system.specs.Lawful.{IsLawful, AreLawful}
use Rattle.bk_system.specs.State.{State, opening}
use Rattle.bk_system.specs.Events.{can_run, offered_head, with_outcome, cache_row, access_row, first, issue_taken, command_taken, fill_taken, without_command, without_fill}
use Rattle.bk_system.specs.Runs.{after, run, run_from, state_after_row}
use Rattle.bk_exact.specs.Told.{Told, untold}
use Rattle.bk_exact.specs.Exact.{exact}
use Rattle.bk_exact.specs.After.{told_after}
use Rattle.bk_exact.specs.Runs.{IsMet, told_by, told_next}
use Rattle.bk_exact.specs.Ties.{Tied, told_world}
use Rattle.bk_exact.proofs.Somes.{exact-some}
use Rattle.bk_exact.proofs.Steps.{core-is, no-form, events-tie, opens-tied}
use Rattle.bk_flows.specs.Flows.{edge_of, IsNoHalt}
use Rattle.bk_flows.proofs.ByForm.{mask-follows}
use Rattle.bk_flows.proofs.Halts.{never-halts}
use Rattle.bk_bound.specs.Runs.{told_from}

-- A state is tied to what is told of its run, and its engine stands at a place of the image whose sets the exact mask fits.
pub record Follows (image : Parts) (k : Shape) (s : State) (told : Told) : Type 0 where
  pub tied : Tied k s told
  pub stands : Stands image s.engine.core.place (exact k s.engine told)

-- a branch that is taken has a target
pub has-target : (k : Shape) (engine : EngineState) (f : Form) → is_branch_taken k engine f ≡ true → flow.target f ≡ Some (target f)
has-target k engine (forms.Bi to) e = refl
has-target k engine (forms.Beq a b to) e = refl
has-target k engine (forms.Bne a b to) e = refl
has-target k engine (forms.Blt a b to) e = refl
has-target k engine (forms.Bge a b to) e = refl
has-target k engine (forms.Bk a b to) e = refl
has-target k engine f e = absurd (cc)

-- an event of a cache or the memory leaves the engine as it is
pub taken-same : (s later : State) (c : ℕ) (o : Option Transition) → later.engine ≡ s.engine
    → (state_after_row s (cache_row later c o)).engine ≡ s.engine
taken-same s later c None e = refl
taken-same s later c (Some t) e = e

pub accessed-same : (s : State) (o : Option Row) → (state_after_row s (access_row s o)).engine ≡ s.engine
accessed-same s None = refl
accessed-same s (Some m) = refl

none-within : (xs : List Form) (p : ℕ) → slice_get xs p ≡ None → p < length xs → ⊥
none-within xs p e l = lem (sym e ∙ slice_get-get_or xs p forms.Defer l)
  where
    lem : {f : Form} → None ≡ Some f → ⊥
    lem e = cc

module _ (k : Shape) (image : Parts) (profile : InProfile k) (made : IsMade image) (accepted : Accepted image) where
  carries : AcceptedCarries image
  carries = accepted-images-carry image accepted

  module _ (s : State) (told : Told) (follows : Follows image k s told) where
    abbrev e : Sets
    e = exact k s.engine told

    abbrev place : ℕ
    place = s.engine.core.place

    some : any_empty e ≡ false
    some = exact-some k s told follows.tied

    pub is-met : IsMet k image.instrs s told
    is-met f i = carries.meets place e f follows.stands i some

    -- the engine stays where it is
    stays : (later : State) → later.engine ≡ s.engine → Stands image later.engine.core.place (exact k later.engine told)
    stays later i = subst (λ (q : EngineState). Stands image q.core.place (exact k q told)) (sym i) follows.stands

    -- an instruction that runs
    module _ (choice : Choice) (f : Form) (here : slice_get image.instrs place ≡ Some f) (can : can_run k image.instrs s choice
        ≡ true) where
      abbrev later : State
      later = after k image.instrs s (events.Engine choice)

      abbrev next : Told
      next = told_after k s.engine.core (told_world k s told) f told

      pub leads : Leads (edge_of k s.engine f e) (exact k later.engine next)
      leads = mask-follows k image.instrs s told choice f profile (made.forms place f here) follows.tied here can (is-met f here)

      pub place-is : later.engine.core.place ≡ next_place k s.engine f
      place-is = ap (λ (core : Core). core.place) (core-is k image.instrs s told choice profile follows.tied can f here)

      runs-to : Tied k later next → Stands image later.engine.core.place (exact k later.engine next)
      runs-to tied =
          subst (λ (q : ℕ). Stands image q (exact k later.engine next)) (sym place-is)
          (go (is_branch_taken k s.engine f) refl leads)
        where
          some-next : any_empty (exact k later.engine next) ≡ false
          some-next = exact-some k later next tied

          go : (b : Bool) → is_branch_taken k s.engine f ≡ b → Leads (if b then jump f e else fall f e) (exact k later.engine next)
              → Stands image (if b then target f else place + 1) (exact k later.engine next)
          go true i l = carries.jumps place (target f) e (exact k later.engine next) f follows.stands here some some-next
              (has-target k s.engine f i) l
          go false i l = carries.falls place e (exact k later.engine next) f follows.stands here some some-next l

    -- the state after the instruction
    abbrev ran : Choice → State
    ran choice = after k image.instrs s (events.Engine choice)

    place-at : (choice : Choice) (o : Option Form) → slice_get image.instrs place ≡ o → can_run k image.instrs s choice ≡ true
        → Tied k (ran choice) (told_by k s told o)
        → Stands image (ran choice).engine.core.place (exact k (ran choice).engine (told_by k s told o))
    place-at choice None i can tied = absurd (no-form k image.instrs s told choice profile follows.tied can i)
    place-at choice (Some f) i can tied = runs-to choice f i can tied

    engine-at : (choice : Choice) → Tied k (ran choice) (told_next k image.instrs s told (events.Engine choice))
        → Stands image (ran choice).engine.core.place
        (exact k (ran choice).engine (told_next k image.instrs s told (events.Engine choice)))
    engine-at choice tied = go (can_run k image.instrs s choice) refl tied
      where
        go : (b : Bool) → can_run k image.instrs s choice ≡ b
            → Tied k (ran choice) (if b then told_by k s told (slice_get image.instrs place) else told)
            → Stands image (ran choice).engine.core.place
            (exact k (ran choice).engine (if b then told_by k s told (slice_get image.instrs place) else told))
        go true i t = place-at choice (slice_get image.instrs place) refl i t
        go false i t =
            stays (ran choice)
            (ap (λ (b : Bool). (state_after_row s (if b
            then Some (with_outcome k s (runs_to k s.engine image.instrs choice (offered_head s choice))) else None)).engine) i)

    event-at : (event : Event) → Tied k (after k image.instrs s event) (told_next k image.instrs s told event)
        → Stands image (after k image.instrs s event).engine.core.place
        (exact k (after k image.instrs s event).engine (told_next k image.instrs s told event))
    event-at (events.Issue core w op) t =
        stays (after k image.instrs s (events.Issue core w op)) (taken-same s s core (issue_taken k s core op w) refl)
    event-at (events.Command core) t =
        stays (after k image.instrs s (events.Command core)) (taken-same s (without_command s core) core (command_taken k s core) refl)
    event-at (events.Fill to from) t =
        stays (after k image.instrs s (events.Fill to from)) (taken-same s (without_fill s to from) to (fill_taken k s to from) refl)
    event-at events.Memory t = stays (after k image.instrs s events.Memory) (accessed-same s (first s.memout))
    event-at (events.Engine choice) t = engine-at choice t

    pub event-follows : (event : Event) → IsLawful event
        → Follows image k (after k image.instrs s event) (told_next k image.instrs s told event)
    event-follows event l =
        let tied = events-tie k image.instrs s told event profile made.forms l is-met follows.tied in
        record { tied = tied; stands = event-at event tied }

    -- the engine's instruction doesn't halt
    pub runs-here : (choice : Choice) (message : Option Row) → IsNoHalt (stop_of k s.engine image.instrs choice message)
    runs-here choice message = go (slice_get image.instrs place) refl
      where
        go : (o : Option Form) → slice_get image.instrs place ≡ o → IsNoHalt (stop_at k s.engine o choice message)
        go None i = absurd (none-within image.instrs place i follows.stands.within)
        go (Some f) i = never-halts k s told f choice message follows.tied (made.forms place f i) (is-met f i)

  -- RUNS

  run-follows : (s : State) (told : Told) (es : List Event) → Follows image k s told → AreLawful es
      → Follows image k (run_from k image.instrs s es) (told_from k image.instrs s told es)
  run-follows s told [] f l = f
  run-follows s told (event ∷ es) f l =
      run-follows (after k image.instrs s event) (told_next k image.instrs s told event) es (event-follows s told f event l.0) l.1

  pub opens-follows : Follows image k (opening k) untold
  opens-follows = record { tied = opens-tied k profile; stands = carries.start made.some }

  -- in each state of a run
  pub reached : (es : List Event) → AreLawful es
      → Follows image k (run k image.instrs es) (told_from k image.instrs (opening k) untold es)
  reached es l = run-follows (opening k) untold es opens-follows l
