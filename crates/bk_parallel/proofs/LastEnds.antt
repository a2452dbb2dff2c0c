-- Ends of channels that agents have, of which the last one is taken away.
use Rattle.std.proofs.Common.{◌≡◌, inl, inr, ℕ, List, [], ◌∷◌, ◌++◌, Bool, true, false, Option, Some, if◌then◌else◌, map, get_or, set, slice_get, append-nil, eq-eqb, refl, sym, subst, ap, ◌∙◌}
use Rattle.std.specs.Prelude.{filter, ◌==◌}
use Rattle.std.proofs.lemmas.Bool.{cases_eq, ne_eqb}
use Rattle.std.proofs.lemmas.List.{map-append, append_cancel_right}
use Rattle.std.proofs.lemmas.List.Elements.{filter-append}
use Rattle.atomic_table.specs.Seated.{TableId}
use Rattle.bk_base.specs.Places.{Shape}
use Rattle.bk_system.specs.Systems.{state_of}
use Rattle.bk_system.specs.Routes.{begins_at, ends_at}
use Rattle.bk_system.specs.declared.channel.Channel.{Channel}
use Rattle.bk_rounds.specs.declared.agent.Agent.{Agent}
use Rattle.bk_rounds.specs.declared.ends.Inlet.{Inlet}
use Rattle.bk_rounds.specs.declared.ends.Outlet.{Outlet}
use Rattle.bk_rounds.specs.Ends.{inlet_channel, outlet_channel, inlet_table, outlet_table}
use Rattle.bk_rounds.proofs.Choices.{if-true, if-false}
use Rattle.bk_parallel.specs.Teams.{IsAgent, IsTeam, state_in, inlets_in, outlets_in, entries_in, inlets_at, outlets_at}
use Rattle.bk_parallel.specs.Joined.{ending_at, beginning_at, AreJoined}
use Rattle.bk_parallel.specs.ClosesOne.{TakesOutlet, TakesInlet, ClosesOne}
use Rattle.bk_parallel.proofs.OneChannel.{same-place, within}
use Rattle.bk_parallel.proofs.Places.{there, as-before, get-set-same, get-set-other}

-- ONE IS TAKEN AWAY

module _ (k : Shape) (agents : List Agent) (i : ℕ) (d a : Agent) (team : IsTeam k agents) (agent : IsAgent k i) where
  here-is : slice_get agents i ≡ Some (get_or agents i d)
  here-is = there agents i (get_or agents i d) (within k agents i d a team agent) (same-place k agents i d a team agent)

  here-then : slice_get (set agents i a) i ≡ Some a
  here-then = get-set-same agents i a (within k agents i d a team agent)

  module _ {End : Type 0} (ends_in : Option Agent → List End) (end : End) (place : ℕ)
      (items : ends_in (Some (get_or agents i d)) ≡ ends_in (Some a) ++ end ∷ []) (here : i ≡ place) where
    popped-here : ends_in (slice_get agents i) ≡ ends_in (slice_get (set agents i a) i) ++ (if place == i then end ∷ [] else [])
    popped-here =
        ap ends_in here-is ∙ items
        ∙ sym (ap (λ (es : List End). es ++ (if place == i then end ∷ [] else [])) (ap ends_in here-then)
        ∙ ap (λ (es : List End). ends_in (Some a) ++ es) (if-true (place == i) (end ∷ []) [] (eq-eqb place i (sym here))))

    popped-there : (n : ℕ) → (n ≡ i → ⊥)
        → ends_in (slice_get agents n) ≡ ends_in (slice_get (set agents i a) n) ++ (if place == n then end ∷ [] else [])
    popped-there n differ =
        sym (ap (λ (es : List End). es ++ (if place == n then end ∷ [] else [])) (ap ends_in (get-set-other agents i n a differ))
        ∙ ap (λ (es : List End). ends_in (slice_get agents n) ++ es)
        (if-false (place == n) (end ∷ []) [] (ne_eqb place n (λ e. differ (sym e ∙ sym here))))
        ∙ append-nil (ends_in (slice_get agents n)))

    pub popped : (n : ℕ)
        → ends_in (slice_get agents n) ≡ ends_in (slice_get (set agents i a) n) ++ (if place == n then end ∷ [] else [])
    popped n = elim (cases_eq n i) [
      | inl e ↦ subst (λ (p : ℕ). ends_in (slice_get agents p)
          ≡ ends_in (slice_get (set agents i a) p) ++ (if place == p then end ∷ [] else [])) (sym e) popped-here
      | inr differ ↦ popped-there n differ
    ]

  pub takes-outlet : (channel : Channel) (outlet : Outlet) → i ≡ begins_at k channel
      → (get_or agents i d).outlets.items ≡ a.outlets.items ++ outlet ∷ []
      → a.inlets.items ≡ (get_or agents i d).inlets.items → a.entries.items ≡ (get_or agents i d).entries.items
      → a.hardware ≡ (get_or agents i d).hardware → TakesOutlet k channel agents (set agents i a) outlet
  takes-outlet channel outlet here items inlets entries hardware =
      let inside = within k agents i d a team agent in
      let same = same-place k agents i d a team agent in
      record {
        outlets = popped outlets_in outlet (begins_at k channel) items here;
        inlets = as-before inlets_in agents i (get_or agents i d) a inside same inlets;
        entries = as-before entries_in agents i (get_or agents i d) a inside same entries;
        states = as-before (state_in k) agents i (get_or agents i d) a inside same (ap state_of hardware);
      }

  pub takes-inlet : (channel : Channel) (inlet : Inlet) → i ≡ ends_at k channel
      → (get_or agents i d).inlets.items ≡ a.inlets.items ++ inlet ∷ []
      → a.outlets.items ≡ (get_or agents i d).outlets.items → a.entries.items ≡ (get_or agents i d).entries.items
      → a.hardware ≡ (get_or agents i d).hardware → TakesInlet k channel agents (set agents i a) inlet
  takes-inlet channel inlet here items outlets entries hardware =
      let inside = within k agents i d a team agent in
      let same = same-place k agents i d a team agent in
      record {
        inlets = popped inlets_in inlet (ends_at k channel) items here;
        outlets = as-before outlets_in agents i (get_or agents i d) a inside same outlets;
        entries = as-before entries_in agents i (get_or agents i d) a inside same entries;
        states = as-before (state_in k) agents i (get_or agents i d) a inside same (ap state_of hardware);
      }

-- LISTS WITH ONE MORE

module _ {X : Type 0} where
  abbrev last : List X → X → X
  last [] d = d
  last (x ∷ xs) d = last xs x

  last-one : (xs : List X) (x d : X) → last (xs ++ x ∷ []) d ≡ x
  last-one [] x d = refl
  last-one (y ∷ ys) x d = last-one ys x y

  pub same-last : (xs ys : List X) (x y : X) → xs ++ x ∷ [] ≡ ys ++ y ∷ [] → x ≡ y
  same-last xs ys x y e = sym (last-one xs x x) ∙ ap (λ (zs : List X). last zs x) e ∙ last-one ys y x

module _ {End X : Type 0} (tell : End → X) where
  -- what is told of ends, the last of which may be taken away
  told : (ends : List End) (end : End) (all : List End) (front : List X) (x : X) (whole : List X) → all ≡ ends ++ end ∷ []
      → map tell all ≡ whole → whole ≡ front ++ x ∷ [] → map tell ends ++ tell end ∷ [] ≡ front ++ x ∷ []
  told ends end all front x whole is list split =
      sym (map-append tell ends (end ∷ [])) ∙ ap (map tell) (sym is) ∙ list ∙ split

  pub last-told : (b : Bool) (ends : List End) (end : End) (all : List End) (front : List X) (x : X) (whole : List X) → b ≡ true
      → all ≡ ends ++ (if b then end ∷ [] else []) → map tell all ≡ whole → whole ≡ front ++ (if b then x ∷ [] else [])
      → tell end ≡ x
  last-told true ends end all front x whole holds is list split =
      same-last (map tell ends) front (tell end) x (told ends end all front x whole is list split)
  last-told false ends end all front x whole holds is list split = absurd (cc (holds))

  pub shorter : (b : Bool) (ends : List End) (end : End) (all : List End) (front : List X) (x : X) (whole : List X)
      → all ≡ ends ++ (if b then end ∷ [] else []) → map tell all ≡ whole → whole ≡ front ++ (if b then x ∷ [] else [])
      → map tell ends ≡ front
  shorter true ends end all front x whole is list split =
      let both = told ends end all front x whole is list split in
      let same = same-last (map tell ends) front (tell end) x both in
      append_cancel_right (map tell ends) front (x ∷ [])
      (ap (λ (y : X). map tell ends ++ y ∷ []) (sym same) ∙ both)
  shorter false ends end all front x whole is list split =
      ap (map tell) (sym (append-nil ends) ∙ sym is) ∙ list ∙ split ∙ append-nil front

-- CHANNELS

module _ (at : Channel → ℕ) (n : ℕ) (rest : List Channel) (channel : Channel) where
  chosen-last : filter (λ (c : Channel). at c == n) (rest ++ channel ∷ [])
      ≡ filter (λ (c : Channel). at c == n) rest ++ (if at channel == n then channel ∷ [] else [])
  chosen-last = filter-append (λ (c : Channel). at c == n) rest (channel ∷ [])

  module _ {X : Type 0} (tell : Channel → X) where
    told-choice : (b : Bool) → map tell (if b then channel ∷ [] else []) ≡ (if b then tell channel ∷ [] else [])
    told-choice true = refl
    told-choice false = refl

    told-last : map tell (filter (λ (c : Channel). at c == n) (rest ++ channel ∷ []))
        ≡ map tell (filter (λ (c : Channel). at c == n) rest) ++ (if at channel == n then tell channel ∷ [] else [])
    told-last =
        ap (map tell) chosen-last
        ∙ map-append tell (filter (λ (c : Channel). at c == n) rest) (if at channel == n then channel ∷ [] else [])
        ∙ ap (λ (xs : List X). map tell (filter (λ (c : Channel). at c == n) rest) ++ xs) (told-choice (at channel == n))

module _ (k : Shape) (rest : List Channel) (channel : Channel) (queues : Channel → TableId) (old : List Agent)
    (joined : AreJoined k (rest ++ channel ∷ []) queues old) where
  module _ (ends : List Inlet) (inlet : Inlet) (agent : IsAgent k (ends_at k channel))
      (is : inlets_at old (ends_at k channel) ≡ ends ++ (if ends_at k channel == ends_at k channel then inlet ∷ [] else [])) where
    abbrev n : ℕ
    n = ends_at k channel

    pub inlet-channel : inlet.channel ≡ channel
    inlet-channel =
        last-told inlet_channel (n == n) ends inlet (inlets_at old n) (ending_at k n rest) channel
        (ending_at k n (rest ++ channel ∷ [])) (eq-eqb n n refl) is (joined.inlets n agent) (chosen-last (ends_at k) n rest channel)

    pub inlet-table : inlet.receiver.channel ≡ queues channel
    inlet-table =
        last-told inlet_table (n == n) ends inlet (inlets_at old n) (map queues (ending_at k n rest)) (queues channel)
        (map queues (ending_at k n (rest ++ channel ∷ []))) (eq-eqb n n refl) is (joined.inlet_tables n agent)
        (told-last (ends_at k) n rest channel queues)

  module _ (ends : List Outlet) (outlet : Outlet) (agent : IsAgent k (begins_at k channel))
      (is : outlets_at old (begins_at k channel)
      ≡ ends ++ (if begins_at k channel == begins_at k channel then outlet ∷ [] else [])) where
    abbrev m : ℕ
    m = begins_at k channel

    pub outlet-channel : outlet.channel ≡ channel
    outlet-channel =
        last-told outlet_channel (m == m) ends outlet (outlets_at old m) (beginning_at k m rest) channel
        (beginning_at k m (rest ++ channel ∷ [])) (eq-eqb m m refl) is (joined.outlets m agent)
        (chosen-last (begins_at k) m rest channel)

    pub outlet-table : outlet.sender.channel ≡ queues channel
    outlet-table =
        last-told outlet_table (m == m) ends outlet (outlets_at old m) (map queues (beginning_at k m rest)) (queues channel)
        (map queues (beginning_at k m (rest ++ channel ∷ []))) (eq-eqb m m refl) is (joined.outlet_tables m agent)
        (told-last (begins_at k) m rest channel queues)

  pub joined-less : (new : List Agent) → ClosesOne k channel old new → AreJoined k rest queues new
  joined-less new closes = record {
    inlets = λ p agent. shorter inlet_channel (ends_at k channel == p) (inlets_at new p) closes.inlet (inlets_at old p)
        (ending_at k p rest) channel (ending_at k p (rest ++ channel ∷ [])) (closes.inlets p) (joined.inlets p agent)
        (chosen-last (ends_at k) p rest channel);
    outlets = λ p agent. shorter outlet_channel (begins_at k channel == p) (outlets_at new p) closes.outlet (outlets_at old p)
        (beginning_at k p rest) channel (beginning_at k p (rest ++ channel ∷ [])) (closes.outlets p) (joined.outlets p agent)
        (chosen-last (begins_at k) p rest channel);
    inlet_tables = λ p agent. shorter inlet_table (ends_at k channel == p) (inlets_at new p) closes.inlet (inlets_at old p)
        (map queues (ending_at k p rest)) (queues channel) (map queues (ending_at k p (rest ++ channel ∷ []))) (closes.inlets p)
        (joined.inlet_tables p agent) (told-last (ends_at k) p rest channel queues);
    outlet_tables = λ p agent. shorter outlet_table (begins_at k channel == p) (outlets_at new p) closes.outlet (outlets_at old p)
        (map queues (beginning_at k p rest)) (queues channel) (map queues (beginning_at k p (rest ++ channel ∷ [])))
        (closes.outlets p) (joined.outlet_tables p agent) (told-last (begins_at k) p rest channel queues);
  }
