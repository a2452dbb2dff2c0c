-- Agents that are seated for a round, and that come back from it. A seat is of any type that has an agent and tells how its round ended.
use Rattle.std.proofs.Common.{◌≡◌, ◌≢◌, inl, inr, ℕ, zero, suc, ◌+◌, ◌<◌, Bool, true, List, [], ◌∷◌, ◌++◌, Some, Result, Ok, Err, IfOk, length, map, slice_get, get_or, sym, ap, ◌∙◌, subst, append_assoc, append-nil, arith}
use Rattle.std.specs.Prelude.{Vec}
use Rattle.std.specs.Global.{Global}
use Rattle.std.specs.declared.alloc.AllocError.{AllocError}
use Rattle.std.specs.List.{All}
use Rattle.std.proofs.lemmas.List.{map-append, length-map, nil_from_length}
use Rattle.std.proofs.lemmas.List.Elements.{All-nil, All-append, All-cons}
use Rattle.std.proofs.lemmas.Option.{slice_get_cases, slice_get_within, slice_get-get_or, same_Some}
use Rattle.bk_base.specs.Places.{Shape}
use Rattle.bk_rounds.specs.declared.agent.Agent.{Agent}
use Rattle.bk_rounds.specs.Tasks.{Task}
use Rattle.bk_parallel.specs.declared.sides.Ending.{Ending}
use Rattle.bk_parallel.specs.declared.sides.Ending.TheVariants.{Idle, OutOfMemory}
use Rattle.bk_parallel.specs.Rounds.{IsReady, HasWorked, CanWork, EndsRound}
use Rattle.bk_parallel.specs.Teams.{IsTeam}
use Rattle.bk_parallel.proofs.Beginnings.{can-begin}

module _ {X : Type 0} (agent_of : X → Agent) (ending_of : X → Ending) where
  -- A seat's round has not run out of memory, and where all are said to be idle it ended idle.
  abbrev pub HasEnded : Bool → X → Type 0
  HasEnded idle x = (ending_of x ≢ OutOfMemory) × (idle ≡ true → ending_of x ≡ Idle)

  -- So many seats are still to be looked at; of those before them the agents were taken.
  pub record Seen (all rest : List X) (many : ℕ) (agents : List Agent) (idle : Bool) : Type 0 where
    pub before : List X
    pub split : before ++ rest ≡ all
    pub taken : agents ≡ map agent_of before
    pub ended : All (HasEnded idle) before
    pub count : many ≡ length rest

  pub none-seen : (all rest : List X) (many length_all : ℕ) (agents : List Agent) → rest ≡ all → many ≡ length_all
      → length_all ≡ length all → agents ≡ [] → Seen all rest many agents true
  none-seen all rest many length_all agents same is long none = record {
    before = [];
    split = same;
    taken = none;
    ended = All-nil (HasEnded true);
    count = is ∙ long ∙ ap length (sym same);
  }

  pub one-seen : (all rest behind : List X) (many left : ℕ) (agents later : List Agent) (idle next : Bool) (x : X)
      → Seen all rest many agents idle → rest ≡ x ∷ behind → left + 1 ≡ many → later ≡ agents ++ agent_of x ∷ []
      → (next ≡ true → idle ≡ true) → HasEnded next x → Seen all behind left later next
  one-seen all rest behind many left agents later idle next x seen is fewer more both ends = record {
    before = seen.before ++ x ∷ [];
    split = append_assoc seen.before (x ∷ []) behind ∙ ap (λ (xs : List X). seen.before ++ xs) (sym is) ∙ seen.split;
    taken = more ∙ ap (λ (ys : List Agent). ys ++ agent_of x ∷ []) seen.taken ∙ sym (map-append agent_of seen.before (x ∷ []));
    ended = All-append (HasEnded next) seen.before (x ∷ [])
        (λ i d within. let h = seen.ended i d within in (h.0, λ e. h.1 (both e)))
        (All-cons (HasEnded next) x [] ends (All-nil (HasEnded next)));
    count = omega (arith, fewer, seen.count, ap length is);
  }

  pub all-seen : (all rest : List X) (many : ℕ) (agents : List Agent) (idle : Bool) → Seen all rest many agents idle → many ≡ 0
      → (agents ≡ map agent_of all) × All (HasEnded idle) all
  all-seen all rest many agents idle seen none =
      let empty : rest ≡ [] = nil_from_length rest (sym seen.count ∙ none) in
      let whole : seen.before ≡ all = sym (append-nil seen.before) ∙ ap (λ (xs : List X). seen.before ++ xs) (sym empty)
      ∙ seen.split in
      (seen.taken ∙ ap (map agent_of) whole, subst (All (HasEnded idle)) whole seen.ended)

  -- THE ROUND

  -- the agent of a seat
  agent-in : (seats : List X) (agents : List Agent) (n : ℕ) (x : X) → map agent_of seats ≡ agents → slice_get seats n ≡ Some x
      → slice_get agents n ≡ Some (agent_of x)
  agent-in seats agents n x same is = elim (slice_get_cases agents n).1 [
    | inl found ↦ found.2 ∙ ap Some (one n seats agents found.0 x same is found.2)
    | inr past ↦ absurd (omega (arith, past.0, slice_get_within seats n x is, ap length same, length-map seats agent_of))
  ]
    where
      one : (i : ℕ) (xs : List X) (ys : List Agent) (y : Agent) (z : X) → map agent_of xs ≡ ys → slice_get xs i ≡ Some z
          → slice_get ys i ≡ Some y → y ≡ agent_of z
      one i [] ys y z e f h = absurd (cc (f))
      one zero (w ∷ xs) ys y z e f h =
          sym (same_Some (agent_of w) y (ap (λ all. slice_get all 0) e ∙ h)) ∙ ap agent_of (same_Some w z f)
      one (suc i) (w ∷ xs) [] y z e f h = absurd (cc (e))
      one (suc i) (w ∷ xs) (v ∷ ys) y z e f h = one i xs ys y z (cc (e)) f h

  pub can-work : (k : Shape) (seats : List X) (agents : List Agent) → map agent_of seats ≡ agents → IsTeam k agents
      → ((n : ℕ) (agent : Agent) → slice_get agents n ≡ Some agent → IsReady k agent) → (n : ℕ) (d : X) → n < length seats
      → CanWork k (agent_of (get_or seats n d))
  can-work k seats agents same team ready n d l =
      let is = agent-in seats agents n (get_or seats n d) same (slice_get-get_or seats n d l) in
      can-begin k agents team ready n (agent_of (get_or seats n d)) is

  pub has-worked : (task : Task) (seats after : List X) (agents : List Agent) (result : Result (Vec Agent Global × Bool) AllocError)
      → map agent_of seats ≡ agents → length after ≡ length seats
      → ((n : ℕ) (d : X) → n < length seats
      → EndsRound task (ending_of (get_or after n d)) (agent_of (get_or seats n d)) (agent_of (get_or after n d)))
      → IfOk result (λ r. r.0.items ≡ map agent_of after) → IfOk result (λ r. All (HasEnded r.1) after)
      → IfOk result (λ r. (n : ℕ) (old new : Agent) → slice_get agents n ≡ Some old → slice_get r.0.items n ≡ Some new
      → HasWorked task r.1 old new)
  has-worked task seats after agents (Err e) same many work taken ended = tt
  has-worked task seats after agents (Ok r) same many work taken ended = λ n old new is got.
      let l : n < length seats = omega (arith, slice_get_within agents n old is, ap length same, length-map seats agent_of) in
      let within : n < length after = omega (arith, l, many) in
      elim (slice_get_cases after n).1 [
        | inl found ↦
            let y = found.0 in
            let was = same_Some (agent_of (get_or seats n y)) old
            (sym (agent-in seats agents n (get_or seats n y) same (slice_get-get_or seats n y l)) ∙ is) in
            let now = same_Some (agent_of (get_or after n y)) new
            (sym (agent-in after r.0.items n (get_or after n y) (sym taken) (slice_get-get_or after n y within)) ∙ got) in
            let ends = ended n y within in
            subst (HasWorked task r.1 old) now
            (subst (λ (a : Agent). HasWorked task r.1 a (agent_of (get_or after n y))) was (work n y l ends.0 r.1 ends.1))
        | inr past ↦ absurd (omega (arith, past.0, within))
      ]
