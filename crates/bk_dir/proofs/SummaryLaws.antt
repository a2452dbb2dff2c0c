-- The laws of a summary, from those of the least number below a count.
use Rattle.std.proofs.Common.{◌≡◌, ◌≢◌, inl, inr, ℕ, ◌<◌, true, false, not, eqb, Option, Some, None, refl, ap, sym, ◌∙◌, subst, arith}
use Rattle.std.specs.Prelude.{◌&&◌, IfSome, MatchOption, is_some, unwrap_or}
use Rattle.std.proofs.lemmas.Bool.{and_parts, and_from, and_cases, cases_eq, eqb-true, eq-eqb, ne_eqb, not-true, both_ways, eqb-false}
use Rattle.bk_base.specs.Places.{Shape}
use Rattle.bk_base.specs.States.{is_readable, is_owner_like}
use Rattle.bk_base.specs.Counting.{least_below}
use Rattle.bk_base.specs.declared.coh.Coh.{Coh}
use Rattle.bk_base.specs.declared.coh.Coh.TheVariants.{I, S}
use Rattle.bk_base.proofs.Below.{least_below-none, least_below-some, first_below-none, first_below-some}
use Rattle.bk_dir.proofs.Bits.{bits-small, bits-say}
use Rattle.bk_dir.proofs.EntryTests.{holds_at, answers_at, shares_at}
use Rattle.bk_dir.specs.declared.entry.Entry.{Entry}
use Rattle.bk_dir.specs.declared.entry.Query.{Query}
use Rattle.bk_dir.specs.declared.entry.Summary.{Summary}
use Rattle.bk_dir.specs.Contents.{Contents}
use Rattle.bk_dir.specs.Summaries.{holds, is_shared, state_at, found, owner_way, shares, with_cache, owner_at, owner, owner_state, is_other, has_bit, summary}
use Rattle.bk_dir.specs.Laws.{Holds, AnswersFor, Shares, IsLeastHolder, FoundSays, OwnSays, IsOwner, NoOwner, OwnerSays, IsOther, OthersSay, VictimSays}

-- THE TESTS of an entry, as facts

holds-says : (entry : Entry) (tag : ℕ) → holds entry tag ≡ true → Holds entry tag
holds-says entry tag h =
    let parts = and_parts (is_readable entry.state) (eqb entry.tag tag) h in
    record { is_valid = parts.0; is_tag = eqb-true entry.tag tag parts.1 }

holds-not : (entry : Entry) (tag : ℕ) → holds entry tag ≡ false → ¬ Holds entry tag
holds-not entry tag h p =
    both_ways (holds entry tag) h (and_from (is_readable entry.state) (eqb entry.tag tag) p.is_valid (eq-eqb entry.tag tag p.is_tag))

answers-says : (entry : Entry) (tag : ℕ) → (holds entry tag && is_owner_like entry.state) ≡ true → AnswersFor entry tag
answers-says entry tag h =
    let parts = and_parts (holds entry tag) (is_owner_like entry.state) h in
    record { holds = holds-says entry tag parts.0; is_owner_like = parts.1 }

answers-not : (entry : Entry) (tag : ℕ) → (holds entry tag && is_owner_like entry.state) ≡ false → ¬ AnswersFor entry tag
answers-not entry tag h p =
    elim (and_cases (holds entry tag) (is_owner_like entry.state) h) [
      | inl e ↦ holds-not entry tag e p.holds
      | inr e ↦ both_ways (is_owner_like entry.state) e p.is_owner_like
    ]

shared-only : (y : Coh) → is_shared y ≡ true → y ≡ S
shared-only y h = grind arith

shares-says : (entry : Entry) (tag : ℕ) → (holds entry tag && is_shared entry.state) ≡ true → Shares entry tag
shares-says entry tag h =
    let parts = and_parts (holds entry tag) (is_shared entry.state) h in
    record { is_shared = shared-only entry.state parts.1; is_tag = (holds-says entry tag parts.0).is_tag }

shares-made : (entry : Entry) (tag : ℕ) → Shares entry tag → (holds entry tag && is_shared entry.state) ≡ true
shares-made entry tag p = and_from (holds entry tag) (is_shared entry.state)
    (and_from (is_readable entry.state) (eqb entry.tag tag) (ap is_readable p.is_shared) (eq-eqb entry.tag tag p.is_tag))
    (ap is_shared p.is_shared)

-- FOUND and OWN

found-says : (k : Shape) (d : Contents) (c set tag : ℕ) (answer : Option ℕ) → found k d c set tag ≡ answer
    → FoundSays k d c set tag answer
found-says k d c set tag None e = λ w l. holds-not (d.entries c set w) tag (least_below-none k.ways (holds_at d c set tag) e w l)
found-says k d c set tag (Some w) e =
    let least = least_below-some k.ways (holds_at d c set tag) w e in
    record {
      within = least.0;
      holds = holds-says (d.entries c set w) tag least.1;
      least = λ v l. holds-not (d.entries c set v) tag (least.2 v l);
    }

pub found-law : (k : Shape) (d : Contents) (c set tag : ℕ) → FoundSays k d c set tag (found k d c set tag)
found-law k d c set tag = found-says k d c set tag (found k d c set tag) refl

own-says : (k : Shape) (d : Contents) (query : Query) (summary : Summary) (answer : Option ℕ)
    → found k d query.cache query.set query.tag ≡ answer
    → summary.own ≡ state_at d query.cache query.set answer → summary.own_way ≡ unwrap_or answer 0 → OwnSays k d query summary
own-says k d query summary None e state way =
    inr (record { none = found-says k d query.cache query.set query.tag None e; way = way; state = state })
own-says k d query summary (Some w) e state way = inl (record {
  way = subst (λ v. IsLeastHolder k d query.cache query.set query.tag v) (sym way)
      (found-says k d query.cache query.set query.tag (Some w) e);
  state = state ∙ ap (λ v. (d.entries query.cache query.set v).state) (sym way);
})

pub own-law : (k : Shape) (d : Contents) (query : Query) → OwnSays k d query (summary k d query)
own-law k d query = own-says k d query (summary k d query) (found k d query.cache query.set query.tag) refl refl refl

-- OWNER

-- a cache other than the asker is the owner by its least way that answers for the block
owner_at-other : (k : Shape) (d : Contents) (query : Query) (c : ℕ) → c ≢ query.cache
    → owner_at k d query c ≡ with_cache c (owner_way k d c query.set query.tag)
owner_at-other k d query c differ = rw (ne_eqb c query.cache differ) refl

owner_at-asker : (k : Shape) (d : Contents) (query : Query) (c : ℕ) → c ≡ query.cache → owner_at k d query c ≡ None
owner_at-asker k d query c same = rw (eq-eqb c query.cache same) refl

with_cache-none : (c : ℕ) (o : Option ℕ) → with_cache c o ≡ None → o ≡ None
with_cache-none c None h = refl
with_cache-none c (Some w) h = absurd (cc)

with_cache-some : (c : ℕ) (o : Option ℕ) (at : ℕ × ℕ) → with_cache c o ≡ Some at → (c ≡ at.0) × (o ≡ Some at.1)
with_cache-some c None at h = absurd (cc)
with_cache-some c (Some w) at h = let e : (c, w) ≡ at = cc in (ap (λ (p : ℕ × ℕ). p.0) e, ap (λ (p : ℕ × ℕ). Some p.1) e)

no-answer : (k : Shape) (d : Contents) (c set tag : ℕ) → owner_way k d c set tag ≡ None → (w : ℕ) → w < k.ways
    → ¬ AnswersFor (d.entries c set w) tag
no-answer k d c set tag e w l =
    answers-not (d.entries c set w) tag (least_below-none k.ways (answers_at d c set tag) e w l)

no-owner : (k : Shape) (d : Contents) (query : Query) (n : ℕ) → ((c : ℕ) → c < n → owner_at k d query c ≡ None)
    → (c w : ℕ) → c < n → c ≢ query.cache → w < k.ways → ¬ AnswersFor (d.entries c query.set w) query.tag
no-owner k d query n none c w l differ =
    no-answer k d c query.set query.tag
    (with_cache-none c (owner_way k d c query.set query.tag) (sym (owner_at-other k d query c differ) ∙ none c l)) w

the-owner : (k : Shape) (d : Contents) (query : Query) (c w : ℕ) → c < k.caches → c ≢ query.cache
    → owner_way k d c query.set query.tag ≡ Some w → ((e : ℕ) → e < c → owner_at k d query e ≡ None) → IsOwner k d query c w
the-owner k d query c w l differ e before =
    let least = least_below-some k.ways (answers_at d c query.set query.tag) w e in
    record {
      cache_within = l;
      is_other = differ;
      way_within = least.0;
      answers = answers-says (d.entries c query.set w) query.tag least.1;
      least_way = λ v lv. answers-not (d.entries c query.set v) query.tag (least.2 v lv);
      least_cache = no-owner k d query c before;
    }

owner-found : (k : Shape) (d : Contents) (query : Query) (at : ℕ × ℕ) (c : ℕ) → c < k.caches → owner_at k d query c ≡ Some at
    → ((e : ℕ) → e < c → owner_at k d query e ≡ None) → IsOwner k d query at.0 at.1
owner-found k d query at c l e before =
    elim (cases_eq c query.cache) [
      | inl same ↦ absurd (let none = owner_at-asker k d query c same in cc)
      | inr differ ↦
          let parts = with_cache-some c (owner_way k d c query.set query.tag) at (sym (owner_at-other k d query c differ) ∙ e) in
          subst (λ o. IsOwner k d query o at.1) parts.0 (the-owner k d query c at.1 l differ parts.1 before)
    ]

owner-says : (k : Shape) (d : Contents) (query : Query) (answer : Option (ℕ × ℕ)) → owner k d query ≡ answer
    → MatchOption answer (NoOwner k d query × (owner_state d query.set answer ≡ I))
    (λ at. IsOwner k d query at.0 at.1 × (owner_state d query.set answer ≡ (d.entries at.0 query.set at.1).state))
owner-says k d query None e = (no-owner k d query k.caches (first_below-none k.caches (owner_at k d query) e), refl)
owner-says k d query (Some at) e =
    let least = first_below-some k.caches (owner_at k d query) at e in
    (owner-found k d query at least.0 least.1 least.2 least.3, refl)

pub owner-law : (k : Shape) (d : Contents) (query : Query) → OwnerSays k d query (summary k d query)
owner-law k d query = owner-says k d query (owner k d query) refl

-- the numbers of an owner
owner-bounds : (k : Shape) (d : Contents) (query : Query) (answer : Option (ℕ × ℕ)) → owner k d query ≡ answer
    → IfSome answer (λ at. (at.0 < k.caches) × (at.1 < k.ways)) × IfSome answer (λ at. at.0 ≢ query.cache)
owner-bounds k d query None e = (tt, tt)
owner-bounds k d query (Some at) e =
    let found = (owner-says k d query (Some at) e).0 in
    ((found.cache_within, found.way_within), found.is_other)

pub owner-within : (k : Shape) (d : Contents) (query : Query) (answer : Option (ℕ × ℕ)) → answer ≡ owner k d query
    → IfSome answer (λ at. (at.0 < k.caches) × (at.1 < k.ways))
owner-within k d query answer e = (owner-bounds k d query answer (sym e)).0

pub owner-other : (k : Shape) (d : Contents) (query : Query) (answer : Option (ℕ × ℕ)) → answer ≡ owner k d query
    → IfSome answer (λ at. at.0 ≢ query.cache)
owner-other k d query answer e = (owner-bounds k d query answer (sym e)).1

-- OTHERS

shares-at : (k : Shape) (d : Contents) (c set tag w : ℕ) → w < k.ways → Shares (d.entries c set w) tag → (answer : Option ℕ)
    → least_below k.ways (shares_at d c set tag) ≡ answer → is_some answer ≡ true
shares-at k d c set tag w l p None e =
    absurd (both_ways (shares_at d c set tag w)
    (least_below-none k.ways (shares_at d c set tag) e w l) (shares-made (d.entries c set w) tag p))
shares-at k d c set tag w l p (Some v) e = refl

sharer : (k : Shape) (d : Contents) (c set tag : ℕ) (answer : Option ℕ)
    → least_below k.ways (shares_at d c set tag) ≡ answer → is_some answer ≡ true
    → (w : ℕ) × (w < k.ways) × Shares (d.entries c set w) tag
sharer k d c set tag None e h = absurd (cc)
sharer k d c set tag (Some w) e h =
    let least = least_below-some k.ways (shares_at d c set tag) w e in
    (w, least.0, shares-says (d.entries c set w) tag least.1)

is_other-says : (k : Shape) (d : Contents) (query : Query) (c : ℕ) → is_other k d query c ≡ true → IsOther k d query c
is_other-says k d query c h =
    let parts = and_parts (not (eqb c query.cache)) (shares k d c query.set query.tag) h in
    let at = sharer k d c query.set query.tag (least_below k.ways (shares_at d c query.set query.tag)) refl parts.1 in
    record { is_other = eqb-false c query.cache (not-true (eqb c query.cache) parts.0); way = at.0; within = at.1; shares = at.2 }

is_other-made : (k : Shape) (d : Contents) (query : Query) (c : ℕ) → IsOther k d query c → is_other k d query c ≡ true
is_other-made k d query c p =
    and_from (not (eqb c query.cache)) (shares k d c query.set query.tag) (ap not (ne_eqb c query.cache p.is_other))
    (shares-at k d c query.set query.tag p.way p.within p.shares
    (least_below k.ways (shares_at d c query.set query.tag)) refl)

pub bits-law : (k : Shape) (d : Contents) (query : Query) (c : ℕ) → c < k.caches
    → has_bit (summary k d query).others c ≡ is_other k d query c
bits-law k d query c l = bits-say k.caches (is_other k d query) c l

pub others-law : (k : Shape) (d : Contents) (query : Query) → OthersSay k d query (summary k d query)
others-law k d query = record {
  bits = λ c l. (
    λ h. is_other-says k d query c (sym (bits-law k d query c l) ∙ h),
    λ p. bits-law k d query c l ∙ is_other-made k d query c p,
  );
  no_more = bits-small k.caches (is_other k d query);
}

-- VICTIM

pub victim-law : (k : Shape) (d : Contents) (query : Query) → VictimSays d query (summary k d query)
victim-law k d query = grind arith
