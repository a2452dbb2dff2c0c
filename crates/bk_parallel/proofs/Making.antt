-- Agents that are made one after the other.
use Rattle.std.proofs.Common.{◌≡◌, ◌⊎◌, inl, inr, ℕ, zero, suc, ◌+◌, List, [], ◌∷◌, ◌++◌, Option, Some, None, length, slice_get, refl, sym, ap, ◌∙◌, subst, length-append}
use Rattle.std.proofs.lemmas.Option.{slice_get_cases, same_Some}
use Rattle.bk_base.specs.Places.{Shape}
use Rattle.bk_rounds.specs.declared.agent.Agent.{Agent}
use Rattle.bk_system.specs.State.{opening}
use Rattle.bk_parallel.specs.Teams.{IsNew, IsTeam, AreApart, state_in, inlets_in, outlets_in, entries_in, state_at, entries_at}

-- an element of a list with one more is of the list, or it is that one
pub at-more : {X : Type 0} (xs : List X) (x : X) (n : ℕ) (y : X) → slice_get (xs ++ x ∷ []) n ≡ Some y
    → (slice_get xs n ≡ Some y) ⊎ ((n ≡ length xs) × (x ≡ y))
at-more [] x zero y e = inr (refl, same_Some x y e)
at-more [] x (suc n) y e = absurd (cc (e))
at-more (z ∷ xs) x zero y e = inl e
at-more (z ∷ xs) x (suc n) y e = elim (at-more xs x n y e) [
  | inl there ↦ inl there
  | inr last ↦ inr (ap suc last.0, last.1)
]

-- so many agents are there, and each is new
pub record AreNew (k : Shape) (count : ℕ) (agents : List Agent) : Type 0 where
  pub many : length agents ≡ count
  pub each : (n : ℕ) (agent : Agent) → slice_get agents n ≡ Some agent → IsNew k n agent

pub no-agents : (k : Shape) (agents : List Agent) → agents ≡ [] → AreNew k 0 agents
no-agents k agents none = subst (AreNew k 0) (sym none) (record { many = refl; each = λ n agent e. absurd (cc (e)) })

pub one-more : (k : Shape) (count : ℕ) (agents later : List Agent) (agent : Agent) → later ≡ agents ++ agent ∷ []
    → AreNew k count agents
    → IsNew k count agent → AreNew k (count + 1) later
one-more k count agents later agent grown new last = subst (AreNew k (count + 1)) (sym grown) (record {
  many = length-append agents (agent ∷ []) ∙ ap (λ (n : ℕ). n + 1) new.many;
  each = λ n one e. whether n one (at-more agents agent n one e);
})
  where
    whether : (n : ℕ) (one : Agent) → (slice_get agents n ≡ Some one) ⊎ ((n ≡ length agents) × (agent ≡ one)) → IsNew k n one
    whether n one (inl there) = new.each n one there
    whether n one (inr at) = subst (IsNew k n) at.1 (subst (λ (i : ℕ). IsNew k i agent) (sym (at.0 ∙ new.many)) last)

module _ (k : Shape) (agents : List Agent) (new : AreNew k (k.caches + 2) agents) where
  pub new-team : IsTeam k agents
  new-team = record { count = new.many; each = λ n agent e. (new.each n agent e).member }

  -- what is so of none and of a new agent is so at each place
  at-place : (P : Option Agent → Type 0) → P None → ((n : ℕ) (agent : Agent) → IsNew k n agent → P (Some agent)) → (n : ℕ)
      → P (slice_get agents n)
  at-place P none some n = elim (slice_get_cases agents n).1 [
    | inl found ↦ subst P (sym found.2) (some n found.0 (new.each n found.0 found.2))
    | inr past ↦ subst P (sym past.1) none
  ]

  pub new-apart : AreApart agents
  new-apart = record {
    inlets = at-place (λ o. inlets_in o ≡ []) refl (λ n agent is. is.inlets);
    outlets = at-place (λ o. outlets_in o ≡ []) refl (λ n agent is. is.outlets);
  }

  pub new-opening : (n : ℕ) → state_at k agents n ≡ opening k
  new-opening = at-place (λ o. state_in k o ≡ opening k) refl (λ n agent is. is.state)

  pub new-entries : (n : ℕ) → entries_at agents n ≡ []
  new-entries = at-place (λ o. entries_in o ≡ []) refl (λ n agent is. is.entries)
