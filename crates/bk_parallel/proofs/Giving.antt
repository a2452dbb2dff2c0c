-- The agents at the ends of a channel are given an outlet and an inlet.
use Rattle.std.proofs.Common.{◌≡◌, inl, inr, ℕ, ◌<◌, ◌==◌, if◌then◌else◌, List, [], ◌∷◌, ◌++◌, Some, length, get_or, set, slice_get, refl, sym, subst, ap, ◌∙◌, eq-eqb, arith}
use Rattle.std.specs.Global.{Vec}
use Rattle.std.specs.Prelude.{Option}
use Rattle.std.proofs.lemmas.Bool.{cases_eq, ne_eqb}
use Rattle.std.proofs.lemmas.List.{get_or_default}
use Rattle.std.proofs.lemmas.Option.{slice_get-get_or}
use Rattle.bk_base.specs.Places.{Shape}
use Rattle.bk_system.specs.declared.channel.Channel.{Channel}
use Rattle.bk_system.specs.declared.channel.Channel.TheVariants.{Request, Command, Fill, Response, Memout, Memin}
use Rattle.bk_system.specs.Routes.{begins_at, ends_at, IsChannel}
use Rattle.bk_rounds.specs.declared.agent.Agent.{Agent}
use Rattle.bk_rounds.specs.declared.ends.Inlet.{Inlet}
use Rattle.bk_rounds.specs.declared.ends.Outlet.{Outlet}
use Rattle.bk_rounds.proofs.Choices.{if-true, if-false}
use Rattle.bk_parallel.specs.Teams.{IsAgent, IsMember, IsTeam, state_in, inlets_in, outlets_in, entries_in, state_at, inlets_at, outlets_at, entries_at}
use Rattle.bk_parallel.specs.Opens.{Opens}
use Rattle.bk_parallel.proofs.Places.{get-set-same, get-set-other, as-before, team-set}

pub begins-within : (k : Shape) (channel : Channel) → IsChannel k channel → IsAgent k (begins_at k channel)
begins-within k (Request from) there = omega (arith, there)
begins-within k (Command to) there = omega arith
begins-within k (Fill to from) there = omega (arith, there.1)
begins-within k (Response from) there = omega (arith, there)
begins-within k Memout there = omega arith
begins-within k Memin there = omega arith

pub ends-within : (k : Shape) (channel : Channel) → IsChannel k channel → IsAgent k (ends_at k channel)
ends-within k (Request from) there = omega arith
ends-within k (Command to) there = omega (arith, there)
ends-within k (Fill to from) there = omega (arith, there.0)
ends-within k (Response from) there = omega arith
ends-within k Memout there = omega arith
ends-within k Memin there = omega arith

pub place-within : (k : Shape) (agents : List Agent) (i place : ℕ) → IsTeam k agents → i ≡ place → IsAgent k place
    → i < length agents
place-within k agents i place team is low =
    subst (λ (p : ℕ). p < length agents) (sym is) (subst (λ (l : ℕ). place < l) (sym team.count) low)

-- AN AGENT IN PLACE OF THE ONE THAT WAS READ
module _ (agents : List Agent) (i : ℕ) (d a : Agent) (within : i < length agents) where
  pub told-as-before : {A : Type 0} (tell : Option Agent → A) → tell (Some a) ≡ tell (Some (get_or agents i d)) → (n : ℕ)
      → tell (slice_get (set agents i a) n) ≡ tell (slice_get agents n)
  told-as-before {A} tell same =
      as-before tell agents i (get_or agents i d) a within (get_or_default agents i d (get_or agents i d) within) same

  pub told-changed : {A : Type 0} (tell : Option Agent → A) (change : A → A) (place : ℕ)
      → tell (Some a) ≡ change (tell (Some (get_or agents i d))) → i ≡ place → (n : ℕ)
      → tell (slice_get (set agents i a) n) ≡ (if place == n then change (tell (slice_get agents n)) else tell (slice_get agents n))
  told-changed {A} tell change place changed is n = elim (cases_eq place n) [
    | inl e ↦ subst (λ (p : ℕ). tell (slice_get (set agents i a) p) ≡ change (tell (slice_get agents p))) (is ∙ e)
        (ap tell (get-set-same agents i a within) ∙ changed
        ∙ ap (λ (o : Option Agent). change (tell o)) (sym (slice_get-get_or agents i d within)))
        ∙ sym (if-true (place == n) (change (tell (slice_get agents n))) (tell (slice_get agents n)) (eq-eqb place n e))
    | inr differ ↦ ap tell (get-set-other agents i n a (λ e. differ (sym is ∙ sym e)))
        ∙ sym (if-false (place == n) (change (tell (slice_get agents n))) (tell (slice_get agents n)) (ne_eqb place n differ))
  ]

  pub team-as-before : (k : Shape) → a.number ≡ (get_or agents i d).number → a.hardware ≡ (get_or agents i d).hardware
      → IsTeam k agents → IsTeam k (set agents i a)
  team-as-before k same alike team =
      let member : IsMember k i (get_or agents i d) = team.each i (get_or agents i d) (slice_get-get_or agents i d within) in
      team-set k agents i a within team (record {
        number = same ∙ member.number;
        config = ap (λ h. h.config) alike ∙ member.config;
      })

-- OTHER OUTLETS

abbrev pub with_outlets : Agent → Vec Outlet → Agent
with_outlets agent more = record {
  number = agent.number;
  hardware = agent.hardware;
  inlets = agent.inlets;
  outlets = more;
  turns = agent.turns;
  clock = agent.clock;
  entries = agent.entries;
}

abbrev pub giving_outlets : List Agent → ℕ → Agent → Vec Outlet → List Agent
giving_outlets agents i d more = set agents i (with_outlets (get_or agents i d) more)

module _ (k : Shape) (agents : List Agent) (i : ℕ) (d : Agent) (more : Vec Outlet) (within : i < length agents) where
  pub outlets-team : IsTeam k agents → IsTeam k (giving_outlets agents i d more)
  outlets-team team = team-as-before agents i d (with_outlets (get_or agents i d) more) within k refl refl team

  pub outlets-states : (n : ℕ) → state_at k (giving_outlets agents i d more) n ≡ state_at k agents n
  outlets-states n = told-as-before agents i d (with_outlets (get_or agents i d) more) within (state_in k) refl n

  pub outlets-entries : (n : ℕ) → entries_at (giving_outlets agents i d more) n ≡ entries_at agents n
  outlets-entries n = told-as-before agents i d (with_outlets (get_or agents i d) more) within entries_in refl n

  pub outlets-inlets : (n : ℕ) → inlets_at (giving_outlets agents i d more) n ≡ inlets_at agents n
  outlets-inlets n = told-as-before agents i d (with_outlets (get_or agents i d) more) within inlets_in refl n

  pub outlets-added : (outlet : Outlet) (place : ℕ) → more.items ≡ (get_or agents i d).outlets.items ++ outlet ∷ []
      → i ≡ place → (n : ℕ)
      → outlets_at (giving_outlets agents i d more) n ≡ (if place == n then outlets_at agents n ++ outlet ∷ [] else outlets_at agents n)
  outlets-added outlet place added is n =
      told-changed agents i d (with_outlets (get_or agents i d) more) within outlets_in (λ (xs : List Outlet). xs ++ outlet ∷ []) place
      added is n

-- OTHER INLETS

abbrev pub with_inlets : Agent → Vec Inlet → Agent
with_inlets agent more = record {
  number = agent.number;
  hardware = agent.hardware;
  inlets = more;
  outlets = agent.outlets;
  turns = agent.turns;
  clock = agent.clock;
  entries = agent.entries;
}

abbrev pub giving_inlets : List Agent → ℕ → Agent → Vec Inlet → List Agent
giving_inlets agents i d more = set agents i (with_inlets (get_or agents i d) more)

module _ (k : Shape) (agents : List Agent) (i : ℕ) (d : Agent) (more : Vec Inlet) (within : i < length agents) where
  pub inlets-team : IsTeam k agents → IsTeam k (giving_inlets agents i d more)
  inlets-team team = team-as-before agents i d (with_inlets (get_or agents i d) more) within k refl refl team

  pub inlets-states : (n : ℕ) → state_at k (giving_inlets agents i d more) n ≡ state_at k agents n
  inlets-states n = told-as-before agents i d (with_inlets (get_or agents i d) more) within (state_in k) refl n

  pub inlets-entries : (n : ℕ) → entries_at (giving_inlets agents i d more) n ≡ entries_at agents n
  inlets-entries n = told-as-before agents i d (with_inlets (get_or agents i d) more) within entries_in refl n

  pub inlets-outlets : (n : ℕ) → outlets_at (giving_inlets agents i d more) n ≡ outlets_at agents n
  inlets-outlets n = told-as-before agents i d (with_inlets (get_or agents i d) more) within outlets_in refl n

  pub inlets-added : (inlet : Inlet) (place : ℕ) → more.items ≡ (get_or agents i d).inlets.items ++ inlet ∷ [] → i ≡ place
      → (n : ℕ)
      → inlets_at (giving_inlets agents i d more) n ≡ (if place == n then inlets_at agents n ++ inlet ∷ [] else inlets_at agents n)
  inlets-added inlet place added is n =
      told-changed agents i d (with_inlets (get_or agents i d) more) within inlets_in (λ (xs : List Inlet). xs ++ inlet ∷ []) place
      added is n

-- BOTH ENDS OF A CHANNEL
module _ (k : Shape) (agents : List Agent) (channel : Channel) (team : IsTeam k agents) (there : IsChannel k channel)
    (i : ℕ) (from : i ≡ begins_at k channel) (d : Agent) (more : Vec Outlet) where
  begin-in : i < length agents
  begin-in = place-within k agents i (begins_at k channel) team from (begins-within k channel there)

  pub mid-team : IsTeam k (giving_outlets agents i d more)
  mid-team = outlets-team k agents i d more begin-in team

  pub mid-states : (n : ℕ) → state_at k (giving_outlets agents i d more) n ≡ state_at k agents n
  mid-states = outlets-states k agents i d more begin-in

  pub mid-entries : (n : ℕ) → entries_at (giving_outlets agents i d more) n ≡ entries_at agents n
  mid-entries = outlets-entries k agents i d more begin-in

  module _ (j : ℕ) (to : j ≡ ends_at k channel) (e : Agent) (others : Vec Inlet) where
    end-in : j < length (giving_outlets agents i d more)
    end-in = place-within k (giving_outlets agents i d more) j (ends_at k channel) mid-team to (ends-within k channel there)

    pub both-team : IsTeam k (giving_inlets (giving_outlets agents i d more) j e others)
    both-team = inlets-team k (giving_outlets agents i d more) j e others end-in mid-team

    pub both-states : (n : ℕ) → state_at k (giving_inlets (giving_outlets agents i d more) j e others) n ≡ state_at k agents n
    both-states n = inlets-states k (giving_outlets agents i d more) j e others end-in n ∙ mid-states n

    pub both-entries : (n : ℕ) → entries_at (giving_inlets (giving_outlets agents i d more) j e others) n ≡ entries_at agents n
    both-entries n = inlets-entries k (giving_outlets agents i d more) j e others end-in n ∙ mid-entries n

    pub both-opens : (inlet : Inlet) (outlet : Outlet) → more.items ≡ (get_or agents i d).outlets.items ++ outlet ∷ []
        → others.items ≡ (get_or (giving_outlets agents i d more) j e).inlets.items ++ inlet ∷ []
        → inlet.channel ≡ channel → outlet.channel ≡ channel → inlet.receiver.channel ≡ outlet.sender.channel
        → inlet.receiver.taken ≡ [] → outlet.sender.sent ≡ []
        → Opens k channel inlet outlet agents (giving_inlets (giving_outlets agents i d more) j e others)
    both-opens inlet outlet added also here beside one none nothing = record {
      end = here;
      beginning = beside;
      table = one;
      taken = none;
      sent = nothing;
      inlets = λ n. inlets-added k (giving_outlets agents i d more) j e others end-in inlet (ends_at k channel) also to n
          ∙ ap (λ (xs : List Inlet). if ends_at k channel == n then xs ++ inlet ∷ [] else xs)
          (outlets-inlets k agents i d more begin-in n);
      outlets = λ n. inlets-outlets k (giving_outlets agents i d more) j e others end-in n
          ∙ outlets-added k agents i d more begin-in outlet (begins_at k channel) added from n;
    }
