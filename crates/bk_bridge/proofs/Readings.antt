-- The engine's summary of a directory is what the table machine reads of it.
use Rattle.std.proofs.Common.{◌≡◌, ℕ, zero, suc, ◌+◌, ◌<◌, ◌≤◌, ◌^◌, Bool, true, false, cond, eqb, ltb, not, ◌&&◌, ◌||◌, ◌==◌, refl, sym, ap, subst, ◌∙◌, List, ◌∷◌, Option, Some, None, arith}
use Rattle.std.specs.Prelude.{is_some, option_map, if◌then◌else◌}
use Rattle.std.proofs.lemmas.Bool.{lt-ltb}
use Rattle.std.proofs.lemmas.Bool.Decides.{nat_tests}
use Rattle.std.proofs.lemmas.Nat.{pow_pos}
use Rattle.bk_base.specs.Places.{Shape}
use Rattle.bk_base.specs.Counting.{or_else, first_below, least_below, is_nil}
use Rattle.bk_base.specs.States.{is_readable}
use Rattle.bk_base.specs.declared.coh.Coh.{Coh}
use Rattle.bk_base.specs.declared.coh.Coh.TheVariants.{I, S, E, F, M, O}
use Rattle.bk_dir.specs.declared.entry.Query.{Query}
use Rattle.bk_dir.specs.Contents.{Contents}
use Rattle.bk_dir.specs.Summaries.{holds, is_shared, found, owner_way, shares, state_at, with_cache, owner_at, owner, owner_state, is_other, bits_below, has_bit, summary}
use Rattle.bk_dir.proofs.SummaryLaws.{bits-law}
use Rattle.bk_engine.specs.Sends.{is_owner}
use Rattle.bk_engine.proofs.Outward.{owner-within}
use Rattle.bk_machine.specs.Actions.{invalidation_targets}
use Rattle.bk_machine.specs.Directory as machine
use Rattle.bk_machine.specs.Entries.{times}
use Rattle.bk_machine.proofs.Summary.{times-passing}
use Rattle.bk_bridge.specs.Readings.{seen, ReadsAlike}

-- THE LEAST OF SEVERAL

-- of two tests that agree
least-same : (n : ℕ) (p q : ℕ → Bool) → ((i : ℕ) → p i ≡ q i) → least_below n p ≡ least_below n q
least-same zero p q h = refl
least-same (suc n) p q h =
    ap (λ (o : Option ℕ). or_else o (if p n then Some n else None)) (least-same n p q h)
    ∙ ap (λ (b : Bool). or_else (least_below n q) (if b then Some n else None)) (h n)

module _ (k : Shape) (d : Contents) (asked : Query) where
  state-same : (c : ℕ) (o : Option ℕ) → state_at d c asked.set o ≡ machine.state_at (seen d asked.set c) o
  state-same c None = refl
  state-same c (Some w) = refl

  -- OWNER

  abbrev owns : ℕ → Bool
  owns c = not (eqb c asked.cache) && is_some (machine.owner_way k.ways (seen d asked.set) asked.tag c)

  one-owner : (c : ℕ) → option_map (λ at. at.0) (owner_at k d asked c) ≡ (if owns c then Some c else None)
  one-owner c = go (eqb c asked.cache) (owner_way k d c asked.set asked.tag)
    where
      go : (b : Bool) (o : Option ℕ) → option_map (λ at. at.0) (if b then None else with_cache c o)
          ≡ (if not b && is_some o then Some c else None)
      go true o = refl
      go false None = refl
      go false (Some w) = refl

  or-owner : (a b : Option (ℕ × ℕ)) → option_map (λ at. at.0) (or_else a b)
      ≡ or_else (option_map (λ at. at.0) a) (option_map (λ at. at.0) b)
  or-owner None b = refl
  or-owner (Some at) b = refl

  owners-same : (n : ℕ) → option_map (λ at. at.0) (first_below n (owner_at k d asked)) ≡ least_below n owns
  owners-same zero = refl
  owners-same (suc n) =
      or-owner (first_below n (owner_at k d asked)) (owner_at k d asked n)
      ∙ ap (λ (o : Option ℕ). or_else (option_map (λ at. at.0) (first_below n (owner_at k d asked))) o) (one-owner n)
      ∙ ap (λ (o : Option ℕ). or_else o (if owns n then Some n else None)) (owners-same n)

  owner-same : option_map (λ at. at.0) (owner k d asked) ≡ machine.owner k.caches k.ways (seen d asked.set) asked.cache asked.tag
  owner-same = owners-same k.caches

  at-way : (c : ℕ) (at : ℕ × ℕ) → owner_at k d asked c ≡ Some at → owner_way k d at.0 asked.set asked.tag ≡ Some at.1
  at-way c at e = go (eqb c asked.cache) (owner_way k d c asked.set asked.tag) refl e
    where
      go : (b : Bool) (o : Option ℕ) → owner_way k d c asked.set asked.tag ≡ o → (if b then None else with_cache c o) ≡ Some at
          → owner_way k d at.0 asked.set asked.tag ≡ Some at.1
      go true o h e = absurd (cc)
      go false None h e = absurd (cc)
      go false (Some w) h e = let same : (c, w) ≡ at = cc
          in subst (λ (p : ℕ × ℕ). owner_way k d p.0 asked.set asked.tag ≡ Some p.1) same h

  below-way : (n : ℕ) (at : ℕ × ℕ) → first_below n (owner_at k d asked) ≡ Some at
      → owner_way k d at.0 asked.set asked.tag ≡ Some at.1
  below-way zero at e = absurd (cc)
  below-way (suc n) at e = go (first_below n (owner_at k d asked)) refl (below-way n at) e
    where
      go : (o : Option (ℕ × ℕ)) → first_below n (owner_at k d asked) ≡ o
          → (first_below n (owner_at k d asked) ≡ Some at → owner_way k d at.0 asked.set asked.tag ≡ Some at.1)
          → or_else o (owner_at k d asked n) ≡ Some at → owner_way k d at.0 asked.set asked.tag ≡ Some at.1
      go None h before e = at-way n at e
      go (Some x) h before e = before (h ∙ e)

  way-of : (at : ℕ × ℕ) → owner k d asked ≡ Some at → machine.owner_way k.ways (seen d asked.set) asked.tag at.0 ≡ Some at.1
  way-of at e = below-way k.caches at e

  owner_state-same : (o : Option (ℕ × ℕ)) → owner k d asked ≡ o
      → owner_state d asked.set o ≡ machine.owner_state k.caches k.ways (seen d asked.set) asked.cache asked.tag
  owner_state-same None e =
      ap (machine.state_of_owner k.ways (seen d asked.set) asked.tag) (sym (ap (option_map (λ at. at.0)) e) ∙ owner-same)
  owner_state-same (Some at) e =
      ap (machine.state_at (seen d asked.set at.0)) (sym (way-of at e))
      ∙ ap (machine.state_of_owner k.ways (seen d asked.set) asked.tag) (sym (ap (option_map (λ at. at.0)) e) ∙ owner-same)

  -- OTHERS

  abbrev shared : ℕ → Bool
  shared c = not (eqb c asked.cache) && machine.shares k.ways (seen d asked.set) asked.tag c

  other-same : (c : ℕ) → is_other k d asked c ≡ shared c
  other-same c = ap (λ (b : Bool). not (eqb c asked.cache) && b) shares-same
    where
      is_shared-same : (y : Coh) → is_shared y ≡ machine.is_shared y
      is_shared-same I = refl
      is_shared-same S = refl
      is_shared-same E = refl
      is_shared-same F = refl
      is_shared-same M = refl
      is_shared-same O = refl

      shares-same : shares k d c asked.set asked.tag ≡ machine.shares k.ways (seen d asked.set) asked.tag c
      shares-same =
          let old : ℕ → Bool = λ w. holds (d.entries c asked.set w) asked.tag && is_shared (d.entries c asked.set w).state in
          let new : ℕ → Bool = λ w. holds (d.entries c asked.set w) asked.tag && machine.is_shared (d.entries c asked.set w).state in
          ap is_some (least-same k.ways old new
          (λ w. ap (λ (b : Bool). holds (d.entries c asked.set w) asked.tag && b) (is_shared-same (d.entries c asked.set w).state)))

  none-same : (n : ℕ) → (bits_below n (is_other k d asked) == 0) ≡ is_nil (machine.passing_below n shared)
  none-same zero = refl
  none-same (suc n) = go (is_other k d asked n) (shared n) (other-same n) (none-same n)
    where
      go : (a b : Bool) → a ≡ b → (bits_below n (is_other k d asked) == 0) ≡ is_nil (machine.passing_below n shared)
          → ((bits_below n (is_other k d asked) + (if a then 2 ^ n else 0)) == 0)
          ≡ is_nil (cond b (n ∷ machine.passing_below n shared) (machine.passing_below n shared))
      go true true e h = let some : 0 < 2 ^ n = pow_pos n in grind (arith, nat_tests)
      go false false e h = grind (arith, nat_tests)
      go true false e h = absurd (cc)
      go false true e h = absurd (cc)

  -- INVALIDATIONS

  bit-same : (c : ℕ) → c < k.caches → has_bit (summary k d asked).others c ≡ shared c
  bit-same c l = bits-law k d asked c l ∙ other-same c

  owner-tested : (o : Option (ℕ × ℕ)) (c : ℕ)
      → is_owner o c ≡ elim (option_map (λ at. at.0) o) as (λ o. Bool) [ None ↦ false | Some e ↦ eqb c e ]
  owner-tested None c = refl
  owner-tested (Some at) c = refl

  victim-same : (summary k d asked).victim ≡ machine.victim asked.placed (seen d asked.set) asked.cache asked.tag asked.way
  victim-same = go asked.placed (eqb (d.entries asked.cache asked.set asked.way).tag asked.tag)
      (d.entries asked.cache asked.set asked.way).state
    where
      go : (p b : Bool) (y : Coh) → (if p && not b then y else I) ≡ cond (p && (is_readable y && not b)) y I
      go false b y = refl
      go true true I = refl
      go true true S = refl
      go true true E = refl
      go true true F = refl
      go true true M = refl
      go true true O = refl
      go true false I = refl
      go true false S = refl
      go true false E = refl
      go true false F = refl
      go true false M = refl
      go true false O = refl

-- how often a cache stands in the list, where each of these stands in it once
sent-once : (test : Bool) (o : Option ℕ) (os : List ℕ) (q : ℕ → Bool) (c : ℕ) → ((i : ℕ) → times i os ≡ cond (q i) 1 0)
    → (q c || (test && elim o as (λ o. Bool) [ None ↦ false | Some e ↦ eqb c e ]))
    ≡ eqb (times c (invalidation_targets test o os)) 1
sent-once false o os q c h = rw (h c) (plain (q c))
  where
    plain : (b : Bool) → (b || false) ≡ eqb (cond b 1 0) 1
    plain true = refl
    plain false = refl
sent-once true None os q c h = rw (h c) (plain (q c))
  where
    plain : (b : Bool) → (b || false) ≡ eqb (cond b 1 0) 1
    plain true = refl
    plain false = refl
sent-once true (Some e) os q c h = go (q e) refl (h e)
  where
    go : (b : Bool) → q e ≡ b → times e os ≡ cond b 1 0 → (q c || eqb c e)
        ≡ eqb (times c (cond (eqb (times e os) 0) (e ∷ os) os)) 1
    go true i j = let t = h c in grind (arith, nat_tests)
    go false i j = let t = h c in grind (arith, nat_tests)

-- a cache beyond the configuration is no owner
beyond-owner : (k : Shape) (d : Contents) (asked : Query) (c : ℕ) (o : Option (ℕ × ℕ)) → owner k d asked ≡ o → k.caches ≤ c
    → is_owner o c ≡ false
beyond-owner k d asked c None e l = refl
beyond-owner k d asked c (Some at) e l = let below : at.0 < k.caches = (owner-within k d asked at e).cache_within
    in grind (arith, nat_tests)

pub at-least : (c n : ℕ) → n ≤ c → ltb c n ≡ false
at-least c n l = grind (arith, nat_tests)

no-one : (test a b o : Bool) → a ≡ false → o ≡ false → ((a && b) || (test && o)) ≡ false
no-one true a b o e f = rw (e, f) refl
no-one false a b o e f = rw e refl

-- each field by its lemma above
pub reads_alike : (k : Shape) (d : Contents) (asked : Query) → ReadsAlike k d asked (summary k d asked)
reads_alike k d asked = record {
  own = state-same k d asked asked.cache (found k d asked.cache asked.set asked.tag);
  own_way = refl;
  owner = owner-same k d asked;
  owner_way = way-of k d asked;
  owner_state = owner_state-same k d asked (owner k d asked) refl;
  no_others = none-same k d asked k.caches;
  victim = victim-same k d asked;
  invalidated = λ w c l.
      let os : List ℕ = machine.others k.caches k.ways (seen d asked.set) asked.cache asked.tag in
      let q : ℕ → Bool = λ i. ltb i k.caches && shared k d asked i in
      let here : shared k d asked c ≡ q c = rw (lt-ltb c k.caches l) refl in
      ap (λ (b : Bool). b || (w && is_owner (owner k d asked) c)) (bit-same k d asked c l ∙ here)
      ∙ ap (λ (b : Bool). q c || (w && b)) (owner-tested k d asked (owner k d asked) c
      ∙ ap (λ (o : Option ℕ). elim o as (λ o. Bool) [ None ↦ false | Some e ↦ eqb c e ]) (owner-same k d asked))
      ∙ sent-once w (machine.owner k.caches k.ways (seen d asked.set) asked.cache asked.tag) os q c
      (times-passing k.caches (shared k d asked));
  nobody_else = λ w c l.
      let os : List ℕ = machine.others k.caches k.ways (seen d asked.set) asked.cache asked.tag in
      let q : ℕ → Bool = λ i. ltb i k.caches && shared k d asked i in
      sym (sent-once w (machine.owner k.caches k.ways (seen d asked.set) asked.cache asked.tag) os q c
      (times-passing k.caches (shared k d asked)))
      ∙ ap (λ (b : Bool). q c || (w && b)) (sym (owner-tested k d asked (owner k d asked) c
      ∙ ap (λ (o : Option ℕ). elim o as (λ o. Bool) [ None ↦ false | Some e ↦ eqb c e ]) (owner-same k d asked)))
      ∙ no-one w (ltb c k.caches) (shared k d asked c) (is_owner (owner k d asked) c) (at-least c k.caches l)
      (beyond-owner k d asked c (owner k d asked) refl l);
}
