-- A stable sort by stamp and agent gives the merge, and there is one.
use Rattle.std.proofs.Common.{◌≡◌, ◌≢◌, ℕ, ◌<◌, ◌≤◌, ◌==◌, Bool, true, false, if◌then◌else◌, ltb, not, ◌&&◌, List, [], ◌∷◌, ◌++◌, map, sym, refl, ap, ◌∙◌, subst, arith, ◌⊎◌, inl, inr}
use Rattle.std.specs.Prelude.{IsPermutation, slice_index_or}
use Rattle.std.specs.List.{AllPairs, AllByRecursion, filter}
use Rattle.std.specs.List.Sorted.{ties, IsSortedByKey, IsStableByKey}
use Rattle.std.specs.Cmp.{IsStrictWeakOrder, then_total, on_total, nat_cmp_total, ranks}
use Rattle.std.specs.Ordering.{nat_cmp, ordering_then, is_lt, MatchOrdering}
use Rattle.std.specs.declared.cmp.Ordering.{Ordering}
use Rattle.std.specs.declared.cmp.Ordering.TheVariants.{Less, Equal, Greater}
use Rattle.std.proofs.lemmas.Bool.{cases_eq, cases_order, lt-ltb, le-ltb, eq-eqb, ne_eqb, true≢false, and_parts, not-true, false_from_ne_true}
use Rattle.std.proofs.lemmas.List.{append-nil}
use Rattle.std.proofs.lemmas.List.Elements.{All-from_recursion}
use Rattle.std.proofs.lemmas.List.Kept.{AllPairs-cons}
use Rattle.std.proofs.lemmas.List.Sorted.{ranks_by, sorted_far, IsStrictWeakOrder-by_number}
use Rattle.bk_system.specs.declared.event.Event.TheVariants.{Memory}
use Rattle.bk_threads.specs.declared.merging.Stamped.{Stamped}
use Rattle.bk_threads.specs.declared.merging.Journal.{Journal}
use Rattle.bk_threads.specs.declared.merging.Entry.{Entry}
use Rattle.bk_threads.specs.Journals.{OfDifferentAgents, entries_of, by_agent, stamped, with_agent, gathered, own, at_stamp, MayPrecede, event_of, IsMerge}
use Rattle.bk_threads.specs.Laws.{OneMerge, JournalsStand}
use Rattle.bk_threads.proofs.Orders.{pairs-head, pairs-tail, all_along, filter-yes, filter-no, one_order}

-- THE ORDER OF THE SORT

abbrev pub key : Entry → ℕ × ℕ
key entry = (entry.stamp, entry.agent)

abbrev pub by_both : ℕ × ℕ → ℕ × ℕ → Ordering
by_both a b = ordering_then (nat_cmp a.0 b.0) (nat_cmp a.1 b.1)

abbrev pub is_before : Entry → Entry → Bool
is_before entry later = is_lt (by_both (key entry) (key later))

pub orders : IsStrictWeakOrder is_before
orders = ranks_by (then_total (on_total (λ (a : ℕ × ℕ). a.0) nat_cmp_total) (on_total (λ (a : ℕ × ℕ). a.1) nat_cmp_total)) key

-- an entry may precede another exactly where the other isn't before it
may_precede : (entry later : Entry) → is_before later entry ≡ false → MayPrecede entry later
may_precede entry later =
    whether (nat_cmp later.stamp entry.stamp) (nat_cmp later.agent entry.agent) (ranks later.stamp entry.stamp)
    (ranks later.agent entry.agent)
  where
    whether : (r p : Ordering) → MatchOrdering r (later.stamp < entry.stamp) (later.stamp ≡ entry.stamp) (entry.stamp < later.stamp)
        → MatchOrdering p (later.agent < entry.agent) (later.agent ≡ entry.agent) (entry.agent < later.agent)
        → is_lt (ordering_then r p) ≡ false → MayPrecede entry later
    whether Less p h i e = absurd (true≢false e)
    whether Equal Less h i e = absurd (true≢false e)
    whether Equal Equal h i e = inr (sym h, omega (arith, i))
    whether Equal Greater h i e = inr (sym h, omega (arith, i))
    whether Greater p h i e = inl h

not_before : (entry later : Entry) → MayPrecede entry later → is_before later entry ≡ false
not_before entry later =
    whether (nat_cmp later.stamp entry.stamp) (nat_cmp later.agent entry.agent) (ranks later.stamp entry.stamp)
    (ranks later.agent entry.agent)
  where
    whether : (r p : Ordering) → MatchOrdering r (later.stamp < entry.stamp) (later.stamp ≡ entry.stamp) (entry.stamp < later.stamp)
        → MatchOrdering p (later.agent < entry.agent) (later.agent ≡ entry.agent) (entry.agent < later.agent)
        → MayPrecede entry later → is_lt (ordering_then r p) ≡ false
    whether Less p h i (inl a) = absurd (omega (arith, h, a))
    whether Less p h i (inr a) = absurd (omega (arith, h, a.0))
    whether Equal Less h i (inl a) = absurd (omega (arith, h, a))
    whether Equal Less h i (inr a) = absurd (omega (arith, i, a.1))
    whether Equal Equal h i a = refl
    whether Equal Greater h i a = refl
    whether Greater p h i a = refl

-- two entries tie exactly where both stamp and agent are the same
tie : (entry other : Entry) → entry.stamp ≡ other.stamp → entry.agent ≡ other.agent → ties is_before entry other ≡ true
tie entry other a b =
    let e = not_before other entry (inr (sym a, omega (arith, b))) in
    let f = not_before entry other (inr (a, omega (arith, b))) in
    λ i. not (e i) && not (f i)

no_tie : (entry other : Entry) → (entry.stamp ≡ other.stamp → entry.agent ≡ other.agent → ⊥)
    → ties is_before entry other ≡ false
no_tie entry other differ = false_from_ne_true (ties is_before entry other) (λ e.
    let h = and_parts (not (is_before entry other)) (not (is_before other entry)) e in
    whether (may_precede other entry (not-true (is_before entry other) h.0)) (may_precede entry other (not-true
    (is_before other entry) h.1)))
  where
    whether : MayPrecede other entry → MayPrecede entry other → ⊥
    whether (inl a) (inl b) = omega (arith, a, b)
    whether (inl a) (inr b) = omega (arith, a, b.0)
    whether (inr a) (inl b) = omega (arith, a.0, b)
    whether (inr a) (inr b) = differ b.0 (omega (arith, a.1, b.1))

-- ONE AGENT'S OWN

pub own-is : (n : ℕ) (entry : Entry) (entries : List Entry) → entry.agent ≡ n
    → own n (entry ∷ entries) ≡ stamped entry ∷ own n entries
own-is n entry entries same = ap (λ (b : Bool). if b then stamped entry ∷ own n entries else own n entries) (eq-eqb entry.agent n same)

pub own-other : (n : ℕ) (entry : Entry) (entries : List Entry) → (entry.agent ≡ n → ⊥)
    → own n (entry ∷ entries) ≡ own n entries
own-other n entry entries differ = ap
    (λ (b : Bool). if b then stamped entry ∷ own n entries else own n entries) (ne_eqb entry.agent n differ)

own-append : (n : ℕ) (entries more : List Entry) → own n (entries ++ more) ≡ own n entries ++ own n more
own-append n [] more = refl
own-append n (entry ∷ entries) more = whether (cases_eq entry.agent n) (own-append n entries more)
  where
    whether : (entry.agent ≡ n) ⊎ (entry.agent ≡ n → ⊥) → own n (entries ++ more) ≡ own n entries ++ own n more
        → own n (entry ∷ (entries ++ more)) ≡ own n (entry ∷ entries) ++ own n more
    whether (inl same) rest = own-is n entry (entries ++ more) same ∙ ap (λ all. stamped entry ∷ all) rest
        ∙ sym (ap (λ all. all ++ own n more) (own-is n entry entries same))
    whether (inr differ) rest = own-other n entry (entries ++ more) differ ∙ rest
        ∙ sym (ap (λ all. all ++ own n more) (own-other n entry entries differ))

own-same : (n : ℕ) (entries : List Stamped) → own n (map (by_agent n) entries) ≡ entries
own-same n [] = refl
own-same n (entry ∷ entries) = own-is n (by_agent n entry) (map (by_agent n) entries) refl
    ∙ ap (λ all. entry ∷ all) (own-same n entries)

own-differ : (n other : ℕ) (entries : List Stamped) → (other ≡ n → ⊥) → own n (map (by_agent other) entries) ≡ []
own-differ n other [] differ = refl
own-differ n other (entry ∷ entries) differ = own-other n (by_agent other entry) (map (by_agent other) entries) differ
    ∙ own-differ n other entries differ

-- no journal of the agent is there
own-none : (n : ℕ) (journals : List Journal) → AllByRecursion (λ journal. journal.agent ≢ n) journals
    → own n (gathered journals) ≡ []
own-none n [] differ = refl
own-none n (journal ∷ journals) differ =
    own-append n (with_agent journal) (gathered journals)
    ∙ ap (λ all. all ++ own n (gathered journals)) (own-differ n journal.agent journal.entries.items differ.0)
    ∙ own-none n journals differ.1

pub own-gathered : (n : ℕ) (journals : List Journal) → OfDifferentAgents journals
    → own n (gathered journals) ≡ entries_of journals n
own-gathered n [] differ = refl
own-gathered n (journal ∷ journals) differ = own-append n (with_agent journal) (gathered journals) ∙ whether (cases_eq journal.agent n)
    (own-gathered n journals (pairs-tail (λ (a : Journal). λ b. a.agent ≢ b.agent) journal journals differ))
  where
    whether : (journal.agent ≡ n) ⊎ (journal.agent ≡ n → ⊥) → own n (gathered journals) ≡ entries_of journals n
        → own n (with_agent journal) ++ own n (gathered journals) ≡ entries_of (journal ∷ journals) n
    whether (inl same) rest =
        let others = own-none journal.agent journals (all_along (λ (other : Journal). journal.agent ≢ other.agent)
        (λ (other : Journal). other.agent ≢ journal.agent) (λ other apart e. apart (sym e)) journals
        (pairs-head (λ (a : Journal). λ b. a.agent ≢ b.agent) journal journals differ)) in
        ap (λ m. own m (with_agent journal) ++ own m (gathered journals)) (sym same)
        ∙ ap (λ all. own journal.agent (with_agent journal) ++ all) others ∙ append-nil (own journal.agent (with_agent journal))
        ∙ own-same journal.agent journal.entries.items
        ∙ sym (ap (λ (b : Bool). if b then journal.entries.items else entries_of journals n) (eq-eqb journal.agent n same))
    whether (inr other) rest =
        ap (λ all. all ++ own n (gathered journals)) (own-differ n journal.agent journal.entries.items other) ∙ rest
        ∙ sym (ap (λ (b : Bool). if b then journal.entries.items else entries_of journals n) (ne_eqb journal.agent n other))

-- BY STAMP AND AGENT

-- the entries that tie with one are those of its agent that have its stamp
alike : (x : Entry) (entries : List Entry)
    → filter (ties is_before x) entries ≡ map (by_agent x.agent) (at_stamp x.stamp (own x.agent entries))
alike x [] = refl
alike x (entry ∷ entries) = whether (cases_eq entry.agent x.agent) (cases_eq entry.stamp x.stamp) (alike x entries)
  where
    all : List Stamped
    all = own x.agent entries

    whether : (entry.agent ≡ x.agent) ⊎ (entry.agent ≡ x.agent → ⊥)
        → (entry.stamp ≡ x.stamp) ⊎ (entry.stamp ≡ x.stamp → ⊥)
        → filter (ties is_before x) entries ≡ map (by_agent x.agent) (at_stamp x.stamp (own x.agent entries))
        → filter (ties is_before x) (entry ∷ entries) ≡ map (by_agent x.agent) (at_stamp x.stamp (own x.agent (entry ∷ entries)))
    whether (inl a) (inl b) rest =
        filter-yes (ties is_before x) entry entries (tie x entry (sym b) (sym a)) ∙ ap (λ more. entry ∷ more) rest
        ∙ ap (λ n. record {
          agent = n;
          stamp = entry.stamp;
          event =
              entry.event;
        } ∷ map (by_agent x.agent) (at_stamp x.stamp (own x.agent entries))) a
        ∙ sym (ap (λ more. map (by_agent x.agent) (at_stamp x.stamp more)) (own-is x.agent entry entries a)
        ∙ ap (map (by_agent x.agent)) (filter-yes (λ (other : Stamped). other.stamp ==
        x.stamp) (stamped entry) (own x.agent entries) (eq-eqb entry.stamp x.stamp b)))
    whether (inl a) (inr b) rest =
        filter-no (ties is_before x) entry entries (no_tie x entry (λ e f. b (sym e))) ∙ rest
        ∙ sym (ap (λ more. map (by_agent x.agent) (at_stamp x.stamp more)) (own-is x.agent entry entries a)
        ∙ ap (map (by_agent x.agent)) (filter-no (λ (other : Stamped). other.stamp ==
        x.stamp) (stamped entry) (own x.agent entries) (ne_eqb entry.stamp x.stamp b)))
    whether (inr a) b rest =
        filter-no (ties is_before x) entry entries (no_tie x entry (λ e f. a (sym f))) ∙ rest
        ∙ sym (ap (λ more. map (by_agent x.agent) (at_stamp x.stamp more)) (own-other x.agent entry entries a))

without_agent : (n : ℕ) (entries : List Stamped) → map stamped (map (by_agent n) entries) ≡ entries
without_agent n [] = refl
without_agent n (entry ∷ entries) = ap (λ more. entry ∷ more) (without_agent n entries)

-- a list that is sorted by stamp and agent, and stable, is the merge
pub is_merge : (journals : List Journal) (entries : List Entry) → OfDifferentAgents journals
    → IsPermutation (gathered journals) entries → IsSortedByKey key by_both entries
    → IsStableByKey key by_both (gathered journals) entries → IsMerge journals (map event_of entries)
is_merge journals entries differ whole sorted stable = record {
  entries = entries;
  whole = whole;
  ordered = λ i j d before within. may_precede (slice_index_or entries i d) (slice_index_or entries j d)
      (sorted_far is_before orders entries sorted i j d (omega arith) within);
  kept = kept;
  shown = refl;
}
  where
    kept : (n stamp : ℕ) → at_stamp stamp (own n entries) ≡ at_stamp stamp (entries_of journals n)
    kept n stamp =
        let x : Entry = record { agent = n; stamp = stamp; event = Memory } in
        let same : map (by_agent n) (at_stamp stamp (own n entries)) ≡ map (by_agent n) (at_stamp stamp (own n
        (gathered journals))) = sym (alike x entries) ∙ stable x ∙ alike x (gathered journals) in
        sym (without_agent n (at_stamp stamp (own n entries))) ∙ ap (map stamped) same
        ∙ without_agent n (at_stamp stamp (own n (gathered journals)))
        ∙ ap (at_stamp stamp) (own-gathered n journals differ)

-- the entries of a merge hang on what each agent's journal has alone
same_entries : (entries others : List Entry) → AllPairs MayPrecede entries → AllPairs MayPrecede others
    → ((n stamp : ℕ) → at_stamp stamp (own n entries) ≡ at_stamp stamp (own n others)) → entries ≡ others
same_entries entries others a b same =
    one_order is_before orders entries others
    (λ i j d before within. not_before (slice_index_or entries i d) (slice_index_or entries j d) (a i j d before within))
    (λ i j d before within. not_before (slice_index_or others i d) (slice_index_or others j d) (b i j d before within))
    (λ x. alike x entries ∙ ap (map (by_agent x.agent)) (same x.agent x.stamp) ∙ sym (alike x others))

pub one_merge : OneMerge
one_merge journals others events more same a b =
    let kept : (n stamp : ℕ) → at_stamp stamp (own n a.entries) ≡ at_stamp stamp (own n b.entries) =
    λ n stamp. a.kept n stamp ∙ ap (at_stamp stamp) (same n) ∙ sym (b.kept n stamp) in
    a.shown ∙ ap (map event_of) (same_entries a.entries b.entries a.ordered b.ordered kept) ∙ sym b.shown

-- JOURNALS WHOSE STAMPS DON'T FALL

abbrev is_earlier : Stamped → Stamped → Bool
is_earlier entry later = ltb entry.stamp later.stamp

ties_at_stamp : (x entry : Stamped) → ties is_earlier x entry ≡ (entry.stamp == x.stamp)
ties_at_stamp x entry = whether (cases_order entry.stamp x.stamp)
  where
    whether : (entry.stamp ≡ x.stamp) ⊎ ((entry.stamp < x.stamp) ⊎ (x.stamp < entry.stamp))
        → ties is_earlier x entry ≡ (entry.stamp == x.stamp)
    whether (inl e) =
        let a = le-ltb x.stamp entry.stamp (omega (arith, e)) in
        let b = le-ltb entry.stamp x.stamp (omega (arith, e)) in
        (λ i. not (a i) && not (b i)) ∙ sym (eq-eqb entry.stamp x.stamp e)
    whether (inr (inl e)) =
        let a = le-ltb x.stamp entry.stamp (omega (arith, e)) in
        let b = lt-ltb entry.stamp x.stamp e in
        (λ i. not (a i) && not (b i)) ∙ sym (ne_eqb entry.stamp x.stamp (λ same. omega (arith, e, same)))
    whether (inr (inr e)) =
        let a = lt-ltb x.stamp entry.stamp e in
        let b = le-ltb entry.stamp x.stamp (omega (arith, e)) in
        (λ i. not (a i) && not (b i)) ∙ sym (ne_eqb entry.stamp x.stamp (λ same. omega (arith, e, same)))

ties_are : (x : Stamped) (entries : List Stamped) → filter (ties is_earlier x) entries ≡ at_stamp x.stamp entries
ties_are x entries = λ i. filter (λ entry. ties_at_stamp x entry i) entries

-- an entry that may stand before another has no later stamp
pub no_later : (entry later : Entry) → MayPrecede entry later → entry.stamp ≤ later.stamp
no_later entry later (inl a) = omega (arith, a)
no_later entry later (inr a) = omega (arith, a.0)

own_later : (n : ℕ) (x : Entry) (entries : List Entry) → AllByRecursion (MayPrecede x) entries
    → AllByRecursion (λ entry. x.stamp ≤ entry.stamp) (own n entries)
own_later n x [] all = tt
own_later n x (entry ∷ entries) all = whether (cases_eq entry.agent n) (own_later n x entries all.1)
  where
    whether : (entry.agent ≡ n) ⊎ (entry.agent ≡ n → ⊥) → AllByRecursion (λ other. x.stamp ≤ other.stamp) (own n entries)
        → AllByRecursion (λ other. x.stamp ≤ other.stamp) (own n (entry ∷ entries))
    whether (inl same) rest = subst (AllByRecursion
        (λ (other : Stamped). x.stamp ≤ other.stamp)) (sym (own-is n entry entries same)) (no_later x entry all.0, rest)
    whether (inr apart) rest = subst (AllByRecursion
        (λ (other : Stamped). x.stamp ≤ other.stamp)) (sym (own-other n entry entries apart)) rest

own_rise : (n : ℕ) (entries : List Entry) → AllPairs MayPrecede entries
    → AllPairs (λ entry later. entry.stamp ≤ later.stamp) (own n entries)
own_rise n [] pairs = λ i j d before within. absurd (omega arith)
own_rise n (entry ∷ entries) pairs = whether (cases_eq entry.agent n) (own_rise n entries (pairs-tail MayPrecede entry entries pairs))
  where
    whether : (entry.agent ≡ n) ⊎ (entry.agent ≡ n → ⊥) → AllPairs (λ (a : Stamped). λ b. a.stamp ≤ b.stamp) (own n entries)
        → AllPairs (λ (a : Stamped). λ b. a.stamp ≤ b.stamp) (own n (entry ∷ entries))
    whether (inl same) rest =
        subst (AllPairs (λ (a : Stamped). λ b. a.stamp ≤ b.stamp)) (sym (own-is n entry entries same))
        (AllPairs-cons (λ (a : Stamped). λ b. a.stamp ≤ b.stamp) (stamped entry) (own n entries)
        (All-from_recursion (λ (b : Stamped). entry.stamp ≤ b.stamp) (own n entries) (own_later n entry entries
        (pairs-head MayPrecede entry entries pairs))) rest)
    whether (inr apart) rest = subst (AllPairs (λ (a : Stamped). λ b. a.stamp ≤ b.stamp)) (sym (own-other n entry entries apart)) rest

pub journals_stand : JournalsStand
journals_stand journals events n merge rises =
    let own_entries = own_rise n merge.entries merge.ordered in
    one_order is_earlier (IsStrictWeakOrder-by_number (λ (entry : Stamped). entry.stamp)) (own n merge.entries) (entries_of journals n)
    (λ i j d before within. le-ltb (slice_index_or (own n merge.entries) j d).stamp (slice_index_or (own n merge.entries) i d).stamp
    (own_entries i j d before within))
    (λ i j d before within. le-ltb (slice_index_or (entries_of journals n) j d).stamp (slice_index_or
    (entries_of journals n) i d).stamp (rises i j d before within))
    (λ x. ties_are x (own n merge.entries) ∙ merge.kept n x.stamp ∙ sym (ties_are x (entries_of journals n)))
