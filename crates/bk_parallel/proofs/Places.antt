-- One agent of a team is replaced: it has what it has, and the others have what they had.
use Rattle.std.proofs.Common.{◌≡◌, ◌≢◌, inl, inr, ◌<◌, ℕ, zero, suc, List, [], ◌∷◌, Some, length, get_or, set, slice_get, refl, sym, subst, ap, ◌∙◌}
use Rattle.std.specs.Prelude.{Option}
use Rattle.std.proofs.lemmas.Bool.{cases_eq}
use Rattle.std.proofs.lemmas.List.{length-set, get_or-set_same}
use Rattle.std.proofs.lemmas.Option.{slice_get-get_or, slice_get_read, same_Some}
use Rattle.bk_base.specs.Places.{Shape}
use Rattle.bk_system.specs.Systems.{state_of}
use Rattle.bk_rounds.specs.declared.agent.Agent.{Agent}
use Rattle.bk_parallel.specs.Teams.{IsAgent, IsMember, IsTeam, state_in, inlets_in, outlets_in, entries_in, clock_in, state_at, inlets_at, outlets_at, entries_at, clock_at}

module _ {X : Type 0} where
  pub get-set-same : (xs : List X) (i : ℕ) (x : X) → i < length xs → slice_get (set xs i x) i ≡ Some x
  get-set-same xs i x within =
      let inside : i < length (set xs i x) = rw length-set within in
      slice_get-get_or (set xs i x) i x inside ∙ ap Some (get_or-set_same xs i x x within)

  pub get-set-other : (xs : List X) (i n : ℕ) (x : X) → n ≢ i → slice_get (set xs i x) n ≡ slice_get xs n
  get-set-other [] i n x differ = refl
  get-set-other (y ∷ ys) zero zero x differ = absurd (differ refl)
  get-set-other (y ∷ ys) zero (suc n) x differ = refl
  get-set-other (y ∷ ys) (suc i) zero x differ = refl
  get-set-other (y ∷ ys) (suc i) (suc n) x differ = get-set-other ys i n x (λ e. differ (ap suc e))

  -- what a read gives is what is there
  pub there : (xs : List X) (i : ℕ) (d : X) → i < length xs → d ≡ get_or xs i d → slice_get xs i ≡ Some d
  there xs i d within is = slice_get_read xs (length xs) i d refl within is

  -- What is told of each place alone is as before, if it is at the place whose element was replaced.
  pub as-before : {A : Type 0} (tell : Option X → A) (xs : List X) (i : ℕ) (d x : X) → i < length xs → d ≡ get_or xs i d
      → tell (Some x) ≡ tell (Some d)
      → (n : ℕ) → tell (slice_get (set xs i x) n) ≡ tell (slice_get xs n)
  as-before {A} tell xs i d x within is same n = elim (cases_eq n i) [
    | inl e ↦ subst (λ (p : ℕ). tell (slice_get (set xs i x) p) ≡ tell (slice_get xs p)) (sym e)
        (ap tell (get-set-same xs i x within) ∙ same ∙ ap tell (sym (there xs i d within is)))
    | inr differ ↦ ap tell (get-set-other xs i n x differ)
  ]

module _ (k : Shape) (agents : List Agent) where
  pub within-team : (i : ℕ) → IsTeam k agents → IsAgent k i → i < length agents
  within-team i team agent = rw (team.count) agent

  -- the agent that was read at a place is the one of that number
  pub member-at : (i : ℕ) (d : Agent) → IsTeam k agents → i < length agents → d ≡ get_or agents i d → IsMember k i d
  member-at i d team within is = team.each i d (there agents i d within is)

module _ (k : Shape) (agents : List Agent) (i : ℕ) (a : Agent) (within : i < length agents) where
  pub team-set : IsTeam k agents → IsMember k i a → IsTeam k (set agents i a)
  team-set team member = record {
    count = length-set agents i a ∙ team.count;
    each = λ n agent is. elim (cases_eq n i) as (λ cases. IsMember k n agent) [
      | inl e ↦ subst (λ (p : ℕ). IsMember k p agent) (sym e) (subst (IsMember k i)
          (same_Some a agent (sym (get-set-same agents i a within) ∙ ap (slice_get (set agents i a)) (sym e) ∙ is)) member)
      | inr differ ↦ team.each n agent (sym (get-set-other agents i n a differ) ∙ is)
    ];
  }

  -- AT THAT PLACE

  pub state-here : state_at k (set agents i a) i ≡ state_of a.hardware
  state-here = ap (state_in k) (get-set-same agents i a within)

  pub inlets-here : inlets_at (set agents i a) i ≡ a.inlets.items
  inlets-here = ap inlets_in (get-set-same agents i a within)

  pub outlets-here : outlets_at (set agents i a) i ≡ a.outlets.items
  outlets-here = ap outlets_in (get-set-same agents i a within)

  pub entries-here : entries_at (set agents i a) i ≡ a.entries.items
  entries-here = ap entries_in (get-set-same agents i a within)

  pub clock-here : clock_at (set agents i a) i ≡ a.clock
  clock-here = ap clock_in (get-set-same agents i a within)

-- AT ANOTHER PLACE
module _ (agents : List Agent) (i : ℕ) (a : Agent) (n : ℕ) (differ : n ≢ i) where
  pub state-there : (k : Shape) → state_at k (set agents i a) n ≡ state_at k agents n
  state-there k = ap (state_in k) (get-set-other agents i n a differ)

  pub inlets-there : inlets_at (set agents i a) n ≡ inlets_at agents n
  inlets-there = ap inlets_in (get-set-other agents i n a differ)

  pub outlets-there : outlets_at (set agents i a) n ≡ outlets_at agents n
  outlets-there = ap outlets_in (get-set-other agents i n a differ)

  pub entries-there : entries_at (set agents i a) n ≡ entries_at agents n
  entries-there = ap entries_in (get-set-other agents i n a differ)

  pub clock-there : clock_at (set agents i a) n ≡ clock_at agents n
  clock-there = ap clock_in (get-set-other agents i n a differ)

-- WHAT WAS READ AT A PLACE
module _ (agents : List Agent) (i : ℕ) (d : Agent) (within : i < length agents) (is : d ≡ get_or agents i d) where
  pub state-read : (k : Shape) → state_at k agents i ≡ state_of d.hardware
  state-read k = ap (state_in k) (there agents i d within is)

  pub inlets-read : inlets_at agents i ≡ d.inlets.items
  inlets-read = ap inlets_in (there agents i d within is)

  pub outlets-read : outlets_at agents i ≡ d.outlets.items
  outlets-read = ap outlets_in (there agents i d within is)

  pub entries-read : entries_at agents i ≡ d.entries.items
  entries-read = ap entries_in (there agents i d within is)

  pub clock-read : clock_at agents i ≡ d.clock
  clock-read = ap clock_in (there agents i d within is)
