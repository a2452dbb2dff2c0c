-- Agents whose journals are taken, one after the other.
use Rattle.std.proofs.Common.{◌≡◌, ◌≢◌, ◌⊎◌, inl, inr, ℕ, zero, suc, ◌+◌, ◌<◌, ◌≤◌, Bool, cond, List, [], ◌∷◌, ◌++◌, Option, Some, None, length, slice_get, set, get_or, refl, sym, ap, ◌∙◌, subst, length-append, length-set, eq-eqb, ne_eqb, arith}
use Rattle.std.proofs.lemmas.Bool.{cases_eq, cases_lt}
use Rattle.std.proofs.lemmas.Option.{slice_get_cases, slice_get_within, slice_get-get_or, slice_get_past, same_Some}
use Rattle.bk_base.specs.Places.{Shape}
use Rattle.bk_rounds.specs.declared.agent.Agent.{Agent}
use Rattle.bk_system.specs.Systems.{state_of}
use Rattle.bk_threads.specs.declared.merging.Journal.{Journal}
use Rattle.bk_threads.specs.declared.merging.Stamped.{Stamped}
use Rattle.bk_threads.specs.Journals.{entries_of, OfDifferentAgents}
use Rattle.bk_parallel.specs.Teams.{IsMember, IsTeam, state_in, inlets_in, outlets_in, entries_in, state_at, inlets_at, outlets_at, entries_at}
use Rattle.bk_parallel.proofs.Making.{at-more}
use Rattle.bk_parallel.proofs.Places.{get-set-same, get-set-other}

-- AN ELEMENT OF A LIST IS REPLACED

-- what is so of the new element, and was so of the others, is so at each place
pub set-each : {X : Type 0} (P : ℕ → Option X → Type 0) (xs : List X) (i : ℕ) (x : X) → i < length xs → P i (Some x)
    → ((n : ℕ) → n ≢ i → P n (slice_get xs n)) → (n : ℕ) → P n (slice_get (set xs i x) n)
set-each P xs i x l here there n = elim (cases_eq n i) [
  | inl same ↦ subst (P n) (sym (ap (slice_get (set xs i x)) same ∙ get-set-same xs i x l)) (subst (λ j. P j (Some x)) (sym same) here)
  | inr differ ↦ subst (P n) (sym (get-set-other xs i n x differ)) (there n differ)
]

-- JOURNALS BY THE NUMBERS OF THEIR AGENTS

abbrev entries-in : Option Journal → List Stamped
entries-in None = []
entries-in (Some journal) = journal.entries.items

-- each stands at the place of its agent's number, counted from some number on
abbrev AreNumbered : ℕ → List Journal → Type 0
AreNumbered base journals = (i : ℕ) (journal : Journal) → slice_get journals i ≡ Some journal → journal.agent ≡ base + i

entries-at-number : (journals : List Journal) (base n : ℕ) → AreNumbered base journals
    → entries_of journals (base + n) ≡ entries-in (slice_get journals n)
entries-at-number [] base n numbered = refl
entries-at-number (journal ∷ journals) base zero numbered =
    ap (λ (b : Bool). cond b journal.entries.items (entries_of journals (base + 0)))
    (eq-eqb journal.agent (base + 0) (numbered 0 journal refl))
entries-at-number (journal ∷ journals) base (suc n) numbered =
    ap (λ (b : Bool). cond b journal.entries.items (entries_of journals (base + suc n)))
    (ne_eqb journal.agent (base + suc n) (λ e. omega (arith, e, numbered 0 journal refl)))
    ∙ ap (entries_of journals) (omega arith)
    ∙ entries-at-number journals (base + 1) n (λ i one e. numbered (suc i) one e ∙ omega arith)

-- THE LOOP

pub record Emptied (k : Shape) (old now : List Agent) (journals : List Journal) (place : ℕ) : Type 0 where
  pub team : IsTeam k now
  pub many : length now ≡ length old
  pub written : length journals ≡ place
  pub each : (n : ℕ) (journal : Journal) → slice_get journals n ≡ Some journal
      → (journal.agent ≡ n) × (journal.entries.items ≡ entries_at old n)
  pub before : (n : ℕ) → n < place → entries_at now n ≡ []
  pub behind : (n : ℕ) → place ≤ n → entries_at now n ≡ entries_at old n
  pub states : (n : ℕ) → state_at k now n ≡ state_at k old n
  pub inlets : (n : ℕ) → inlets_at now n ≡ inlets_at old n
  pub outlets : (n : ℕ) → outlets_at now n ≡ outlets_at old n

pub none-emptied : (k : Shape) (agents : List Agent) (journals : List Journal) → IsTeam k agents → journals ≡ []
    → Emptied k agents agents journals 0
none-emptied k agents journals team none = subst (λ (all : List Journal). Emptied k agents agents all 0) (sym none) (record {
  team = team;
  many = refl;
  written = refl;
  each = λ n journal e. absurd (cc (e));
  before = λ n l. absurd (omega (arith, l));
  behind = λ n l. refl;
  states = λ n. refl;
  inlets = λ n. refl;
  outlets = λ n. refl;
})

-- the agent at a place, with another journal
pub record IsBut (agent other : Agent) : Type 0 where
  pub number : other.number ≡ agent.number
  pub hardware : other.hardware ≡ agent.hardware
  pub inlets : other.inlets ≡ agent.inlets
  pub outlets : other.outlets ≡ agent.outlets
  pub entries : other.entries.items ≡ []

module _ (k : Shape) (old now : List Agent) (journals later : List Journal) (place : ℕ) (agent other : Agent) (journal : Journal)
    (so_far : Emptied k old now journals place) (is : slice_get now place ≡ Some agent) (but : IsBut agent other)
    (more : later ≡ journals ++ journal ∷ []) (of : journal.agent ≡ agent.number)
    (has : journal.entries.items ≡ agent.entries.items)
  where
    within : place < length now
    within = slice_get_within now place agent is

    member : IsMember k place agent
    member = so_far.team.each place agent is

    same-one : (n : ℕ) (one : Agent) → slice_get (set now place other) n ≡ Some one → IsMember k n one
    same-one n one e =
        set-each (λ i o. (x : Agent) → o ≡ Some x → IsMember k i x) now place other within
        (λ x here. subst (IsMember k place) (same_Some other x here)
        (record { number = but.number ∙ member.number; config = ap (λ y. y.config) but.hardware ∙ member.config }))
        (λ i differ x there. so_far.team.each i x there) n one e

    next-before : (n : ℕ) → n < place + 1 → entries_at (set now place other) n ≡ []
    next-before n l =
        set-each (λ i o. i < place + 1 → entries_in o ≡ []) now place other within (λ below. but.entries)
        (λ i differ below. so_far.before i (lower i differ below)) n l
      where
        lower : (i : ℕ) → i ≢ place → i < place + 1 → i < place
        lower i differ below = elim (cases_lt i place) [
          | inl less ↦ less
          | inr far ↦ absurd (differ (omega (arith, below, far)))
        ]

    next-each : (n : ℕ) (one : Journal) → slice_get later n ≡ Some one
        → (one.agent ≡ n) × (one.entries.items ≡ entries_at old n)
    next-each n one e = whether (at-more journals journal n one (ap (λ (all : List Journal). slice_get all n) (sym more) ∙ e))
      where
        whether : (slice_get journals n ≡ Some one) ⊎ ((n ≡ length journals) × (journal ≡ one))
            → (one.agent ≡ n) × (one.entries.items ≡ entries_at old n)
        whether (inl there) = so_far.each n one there
        whether (inr last) =
            let at : n ≡ place = last.0 ∙ so_far.written in
            subst (λ (x : Journal). (x.agent ≡ n) × (x.entries.items ≡ entries_at old n)) last.1
            (subst (λ (i : ℕ). (journal.agent ≡ i) × (journal.entries.items ≡ entries_at old i)) (sym at) (
              of ∙ member.number,
              has ∙ sym (ap entries_in is) ∙ so_far.behind place (omega arith),
            ))

    pub one-emptied : Emptied k old (set now place other) later (place + 1)
    one-emptied = record {
      team = record { count = length-set now place other ∙ so_far.team.count; each = same-one };
      many = length-set now place other ∙ so_far.many;
      written = ap length more ∙ length-append journals (journal ∷ []) ∙ ap (λ n. n + 1) so_far.written;
      each = next-each;
      before = next-before;
      behind = λ n l. ap entries_in (get-set-other now place n other (λ e. omega (arith, e, l))) ∙ so_far.behind n (omega (arith, l));
      states = set-each (λ n o. state_in k o ≡ state_at k old n) now place other within
          (ap (λ y. state_of y) but.hardware ∙ sym (ap (state_in k) is) ∙ so_far.states place) (λ n differ. so_far.states n);
      inlets = set-each (λ n o. inlets_in o ≡ inlets_at old n) now place other within
          (ap (λ y. y.items) but.inlets ∙ sym (ap inlets_in is) ∙ so_far.inlets place) (λ n differ. so_far.inlets n);
      outlets = set-each (λ n o. outlets_in o ≡ outlets_at old n) now place other within
          (ap (λ y. y.items) but.outlets ∙ sym (ap outlets_in is) ∙ so_far.outlets place) (λ n differ. so_far.outlets n);
    }

-- ALL ARE EMPTIED

module _ (k : Shape) (old now : List Agent) (journals : List Journal) (place : ℕ) (all : Emptied k old now journals place)
    (last : length now ≤ place) where
  pub all-different : OfDifferentAgents journals
  all-different i j d before within same =
      let one = (all.each i (get_or journals i d) (slice_get-get_or journals i d (omega (arith, before, within)))).0 in
      let other = (all.each j (get_or journals j d) (slice_get-get_or journals j d within)).0 in
      omega (arith, before, one, other, same)

  pub all-entries : (n : ℕ) → entries_of journals n ≡ entries_at old n
  all-entries n =
      ap (entries_of journals) (omega arith)
      ∙ entries-at-number journals 0 n (λ i journal e. (all.each i journal e).0 ∙ omega arith)
      ∙ at (slice_get_cases journals n).1
    where
      at : ((journal : Journal) × (n < length journals) × (slice_get journals n ≡ Some journal)
          × (get_or journals n journal ≡ journal))
          ⊎ ((length journals ≤ n) × (slice_get journals n ≡ None)) → entries-in (slice_get journals n) ≡ entries_at old n
      at (inl found) = ap entries-in found.2 ∙ (all.each n found.0 found.2).1
      at (inr past) = ap entries-in past.1
          ∙ sym (ap entries_in (slice_get_past old n (omega (arith, last, all.many, all.written, past.0))))

  pub all-empty : (n : ℕ) → entries_at now n ≡ []
  all-empty n = elim (cases_lt n place) [
    | inl l ↦ all.before n l
    | inr far ↦ ap entries_in (slice_get_past now n (omega (arith, far, last)))
  ]
