-- The loops that wipe invalidated entries, one way and one cache after the other.
use Rattle.std.proofs.Common.{◌≡◌, ℕ, ◌+◌, ◌/◌, ◌^◌, ◌<◌, ◌≤◌, Bool, true, false, ◌&&◌, cond, eqb, refl, ap, sym, ◌∙◌, subst, inl, inr, arith, Option, Some, None}
use Rattle.std.specs.Prelude.{nat_lt, if◌then◌else◌, IfSome}
use Rattle.std.proofs.Math.Nat.{pow-le-pow_right, div-eq_of_lt}
use Rattle.std.proofs.lemmas.Bool.{cases_eq, cases_lt, cond-true, cond-false, eq-eqb, ne_eqb, lt-ltb, le-ltb, and_right, and_left, or_from, and_from}
use Rattle.std.proofs.lemmas.Bool.Decides.{nat_tests}
use mathlib.Core.Path.{fun_ext}
use Rattle.bk_base.specs.Places.{Shape, group_of, tag_at}
use Rattle.bk_base.specs.Tables.{put}
use Rattle.bk_dir.specs.declared.entry.Entry.{Entry}
use Rattle.bk_dir.specs.declared.entry.Summary.{Summary}
use Rattle.bk_dir.specs.Contents.{Contents, with_entry}
use Rattle.bk_dir.specs.Summaries.{has_bit}
use Rattle.bk_engine.specs.declared.parts.Held.{Held}
use Rattle.bk_engine.specs.Changes.{wiped_entry, wiped_ways, with_invalid_block, wiped_ways_below, with_wiped_ways, with_wiped_ways_below, with_wiped_caches_below}
use Rattle.bk_engine.specs.Sends.{is_owner, is_invalidated}

-- TABLES: the value that was set, another one, one set twice, and one set to what it was

pub put-at : {X : Type 0} (f : ℕ → X) (number : ℕ) (v : X) → put f number v number ≡ v
unfolding put
put-at f k v = cond-true (eqb k k) v (f k) (eq-eqb k k refl)

pub put-other : {X : Type 0} (f : ℕ → X) (number : ℕ) (v : X) (j : ℕ) → (j ≡ number → ⊥) → put f number v j ≡ f j
unfolding put
put-other f k v j ne = cond-false (eqb j k) v (f j) (ne_eqb j k ne)

put-twice : {X : Type 0} (f : ℕ → X) (number : ℕ) (u v : X) → put (put f number u) number v ≡ put f number v
put-twice f number u v = fun_ext (λ j. elim (cases_eq j number) [
  | inl e ↦ subst (λ i. put (put f number u) number v i ≡ put f number v i) (sym e) (put-at (put f number u) number v
      ∙ sym (put-at f number v))
  | inr n ↦ put-other (put f number u) number v j n ∙ put-other f number u j n ∙ sym (put-other f number v j n)
])

put-same : {X : Type 0} (f : ℕ → X) (number : ℕ) → put f number (f number) ≡ f
put-same f number = fun_ext (λ j. elim (cases_eq j number) [
  | inl e ↦ subst (λ i. put f number (f number) i ≡ f i) (sym e) (put-at f number (f number))
  | inr n ↦ put-other f number (f number) j n
])

-- WAYS

below-none : (tag : ℕ) (f : ℕ → Entry) → wiped_ways_below 0 tag f ≡ f
below-none tag f = fun_ext (λ w. cond-false (nat_lt w 0) (wiped_entry tag (f w)) (f w) (le-ltb w 0 (omega arith)))

-- being below n and below n + 1 are the same, but for n
same-below : (w n : ℕ) → (w ≡ n → ⊥) → nat_lt w n ≡ nat_lt w (n + 1)
same-below w n ne = grind (arith, nat_tests)

-- one way more
below-more : (n tag : ℕ) (f : ℕ → Entry) → put (wiped_ways_below n tag f) n (wiped_entry tag (wiped_ways_below n tag f n))
    ≡ wiped_ways_below (n + 1) tag f
below-more n tag f = fun_ext (λ w. elim (cases_eq w n) [
  | inl e ↦ subst (λ i. put (wiped_ways_below n tag f) n (wiped_entry tag (wiped_ways_below n tag f n)) i
      ≡ wiped_ways_below (n + 1) tag f i) (sym e)
      (put-at (wiped_ways_below n tag f) n (wiped_entry tag (wiped_ways_below n tag f n))
      ∙ ap (wiped_entry tag) (cond-false (nat_lt n n) (wiped_entry tag (f n)) (f n) (le-ltb n n (omega arith)))
      ∙ sym (cond-true (nat_lt n (n + 1)) (wiped_entry tag (f n)) (f n) (lt-ltb n (n + 1) (omega arith))))
  | inr ne ↦ put-other (wiped_ways_below n tag f) n (wiped_entry tag (wiped_ways_below n tag f n)) w ne
      ∙ ap (λ b. cond b (wiped_entry tag (f w)) (f w)) (same-below w n ne)
])

pub ways-none : (d : Contents) (c set tag : ℕ) → d ≡ with_wiped_ways_below 0 d c set tag
ways-none d c set tag = ap (λ (e : ℕ → ℕ → ℕ → Entry). record d { entries = e })
    (sym (ap (λ f. put d.entries c (put (d.entries c) set f)) (below-none tag (d.entries c set))
    ∙ ap (λ f. put d.entries c f) (put-same (d.entries c) set)
    ∙ put-same d.entries c))

-- one entry of a table whose set was put there before
entry-again : (f : ℕ → ℕ → ℕ → Entry) (c set w : ℕ) (g : ℕ → Entry) (x : Entry)
    → (let e : ℕ → ℕ → ℕ → Entry = put f c (put (f c) set g) in put e c (put (e c) set (put (e c set) w x)))
    ≡ put f c (put (f c) set (put g w x))
entry-again f c set w g x =
    let e : ℕ → ℕ → ℕ → Entry = put f c (put (f c) set g) in
    let at : e c ≡ put (f c) set g = put-at f c (put (f c) set g) in
    ap (λ (r : ℕ → ℕ → Entry). put e c (put r set (put (r set) w x))) at
    ∙ put-twice f c (put (f c) set g) (put (put (f c) set g) set (put (put (f c) set g set) w x))
    ∙ ap (λ (r : ℕ → ℕ → Entry). put f c r) (put-twice (f c) set g (put (put (f c) set g set) w x))
    ∙ ap (λ (r : ℕ → Entry). put f c (put (f c) set (put r w x))) (put-at (f c) set g)

entry-at : (f : ℕ → ℕ → ℕ → Entry) (c set : ℕ) (g : ℕ → Entry) (w : ℕ) → put f c (put (f c) set g) c set w ≡ g w
entry-at f c set g w = ap (λ (r : ℕ → ℕ → Entry). r set w) (put-at f c (put (f c) set g))
    ∙ ap (λ (r : ℕ → Entry). r w) (put-at (f c) set g)

-- one way more
pub ways-more : (n : ℕ) (d : Contents) (c set tag : ℕ) (now : Contents) → now ≡ with_wiped_ways_below n d c set tag
    → with_entry now c set n (wiped_entry tag (now.entries c set n)) ≡ with_wiped_ways_below (n + 1) d c set tag
ways-more n d c set tag now same =
    ap (λ (contents : Contents). with_entry contents c set n (wiped_entry tag (contents.entries c set n))) same
    ∙ ap (λ (x : Entry). with_entry (with_wiped_ways_below n d c set tag) c set n (wiped_entry tag x))
    (entry-at d.entries c set (wiped_ways_below n tag (d.entries c set)) n)
    ∙ ap (λ (e : ℕ → ℕ → ℕ → Entry). record d { entries = e })
    (entry-again d.entries c set n (wiped_ways_below n tag (d.entries c set)) (wiped_entry tag (wiped_ways_below n tag (d.entries c set) n))
    ∙ ap (λ (g : ℕ → Entry). put d.entries c (put (d.entries c) set g)) (below-more n tag (d.entries c set)))

-- CACHES

pub caches-none : (k : Shape) (chosen : ℕ → Bool) (d : Contents) (set tag : ℕ) → d ≡ with_wiped_caches_below k 0 chosen d set tag
caches-none k chosen d set tag = ap (λ (e : ℕ → ℕ → ℕ → Entry). record d { entries = e })
    (fun_ext (λ c. sym (cond-false (nat_lt c 0 && chosen c) (put (d.entries c) set (wiped_ways k tag (d.entries c set))) (d.entries c)
    (and_left (nat_lt c 0) (chosen c) (le-ltb c 0 (omega arith))))))

-- one cache more that isn't chosen
pub caches-passed : (k : Shape) (n : ℕ) (chosen : ℕ → Bool) (d : Contents) (set tag : ℕ) → chosen n ≡ false
    → with_wiped_caches_below k n chosen d set tag ≡ with_wiped_caches_below k (n + 1) chosen d set tag
caches-passed k n chosen d set tag off = ap (λ (e : ℕ → ℕ → ℕ → Entry). record d { entries = e })
    (fun_ext (λ c. ap (λ b. cond b (put (d.entries c) set (wiped_ways k tag (d.entries c set))) (d.entries c)) (elim (cases_eq c n) [
      | inl e ↦ subst (λ i. (nat_lt i n && chosen i) ≡ (nat_lt i (n + 1) && chosen i)) (sym e)
          (and_right (nat_lt n n) (chosen n) off ∙ sym (and_right (nat_lt n (n + 1)) (chosen n) off))
      | inr ne ↦ ap (λ b. b && chosen c) (same-below c n ne)
    ])))

-- one cache more that is chosen
pub caches-more : (k : Shape) (n : ℕ) (chosen : ℕ → Bool) (d : Contents) (set tag : ℕ) (now : Contents) → chosen n ≡ true
    → now ≡ with_wiped_caches_below k n chosen d set tag
    → with_wiped_ways k now n set tag ≡ with_wiped_caches_below k (n + 1) chosen d set tag
caches-more k n chosen d set tag now on same =
    let f : ℕ → ℕ → ℕ → Entry =
    λ c. cond (nat_lt c n && chosen c) (put (d.entries c) set (wiped_ways k tag (d.entries c set))) (d.entries c) in
    let g : ℕ → ℕ → ℕ → Entry =
    λ c. cond (nat_lt c (n + 1) && chosen c) (put (d.entries c) set (wiped_ways k tag (d.entries c set))) (d.entries c) in
    let here : f n ≡ d.entries n =
    cond-false (nat_lt n n && chosen n) _ _ (and_left (nat_lt n n) (chosen n) (le-ltb n n (omega arith))) in
    let there : put (d.entries n) set (wiped_ways k tag (d.entries n set)) ≡ g n =
    sym (cond-true (nat_lt n (n + 1) && chosen n) _ _ (and_from (nat_lt n (n + 1)) (chosen n) (lt-ltb n (n + 1) (omega arith)) on)) in
    let each : (c : ℕ) → put f n (put (f n) set (wiped_ways k tag (f n set))) c ≡ g c = λ c. elim (cases_eq c n) [
      | inl e ↦ subst (λ i. put f n (put (f n) set (wiped_ways k tag (f n set))) i ≡ g i) (sym e)
          (put-at f n (put (f n) set (wiped_ways k tag (f n set)))
          ∙ ap (λ (r : ℕ → ℕ → Entry). put r set (wiped_ways k tag (r set))) here ∙ there)
      | inr ne ↦ put-other f n (put (f n) set (wiped_ways k tag (f n set))) c ne
          ∙ ap (λ b. cond (b && chosen c) (put (d.entries c) set (wiped_ways k tag (d.entries c set))) (d.entries c)) (same-below c n ne)
    ] in
    ap (λ (contents : Contents). with_wiped_ways k contents n set tag) same
    ∙ ap (λ (e : ℕ → ℕ → ℕ → Entry). record d { entries = e }) (fun_ext each)

beyond : (n c : ℕ) (chosen : ℕ → Bool) → ((i : ℕ) → n ≤ i → chosen i ≡ false) → (nat_lt c n && chosen c) ≡ chosen c
beyond n c chosen none = elim (cases_lt c n) [
  | inl l ↦ ap (λ b. b && chosen c) (lt-ltb c n l)
  | inr g ↦ and_left (nat_lt c n) (chosen c) (le-ltb c n g) ∙ sym (none c g)
]

-- all caches, where none beyond them is chosen
pub caches-all : (k : Shape) (n : ℕ) (chosen : ℕ → Bool) (d : Contents) (set tag : ℕ)
    → ((c : ℕ) → n ≤ c → chosen c ≡ false)
    → with_wiped_caches_below k n chosen d set tag
    ≡ record d { entries = λ c. if chosen c then put (d.entries c) set (wiped_ways k tag (d.entries c set)) else d.entries c }
caches-all k n chosen d set tag none = ap (λ (e : ℕ → ℕ → ℕ → Entry). record d { entries = e })
    (fun_ext (λ c. ap (λ b. cond b (put (d.entries c) set (wiped_ways k tag (d.entries c set))) (d.entries c)) (beyond n c chosen none)))

-- no cache beyond the last is sent an invalidation: it has no bit in others, and the owner is one of the caches
no_bit : (bits n c : ℕ) → bits < 2 ^ n → n ≤ c → has_bit bits c ≡ false
no_bit bits n c l le =
    let more : 2 ^ n ≤ 2 ^ c = pow-le-pow_right (omega arith) le in
    let zeroed : bits / 2 ^ c ≡ 0 = div-eq_of_lt (omega arith) in
    rw zeroed refl

not_owner : (at : Option (ℕ × ℕ)) (n c : ℕ) → IfSome at (λ a. a.0 < n) → n ≤ c → is_owner at c ≡ false
not_owner None n c h le = refl
not_owner (Some at) n c h le = ne_eqb c at.0 (λ e. omega arith)

pub not_invalidated : (with_owner : Bool) (sm : Summary) (n c : ℕ) → sm.others < 2 ^ n → IfSome sm.owner (λ a. a.0 < n) → n ≤ c
    → is_invalidated with_owner sm c ≡ false
not_invalidated with_owner sm n c others owner le =
    or_from (has_bit sm.others c) (with_owner && is_owner sm.owner c) (no_bit sm.others n c others le)
    (and_right with_owner (is_owner sm.owner c) (not_owner sm.owner n c owner le))

-- all caches are passed
pub invalidates-all : (k : Shape) (d : Contents) (held : Held) (with_owner : Bool) (sm : Summary) (n set_number tag : ℕ) (now : Contents)
    → k.caches ≤ n → sm.others < 2 ^ k.caches → IfSome sm.owner (λ a. a.0 < k.caches) → set_number ≡ group_of k held.addr
    → tag ≡ tag_at k held.addr
    → now ≡ with_wiped_caches_below k n (is_invalidated with_owner sm) d set_number tag
    → now ≡ with_invalid_block k d held with_owner sm
invalidates-all k d held with_owner sm n set_number tag now le others owner set block same =
    same ∙ caches-all k n (is_invalidated with_owner sm) d set_number tag
    (λ c l. not_invalidated with_owner sm k.caches c others owner (omega arith))
    ∙ ap (λ (g : ℕ). record d {
      entries = λ c. if is_invalidated with_owner sm c then
          put (d.entries c) g (wiped_ways k tag (d.entries c g)) else d.entries c;
    }) set
    ∙ ap (λ (t : ℕ). record d {
      entries = λ c. if is_invalidated with_owner sm c then
          put (d.entries c) (group_of k held.addr) (wiped_ways k t (d.entries c (group_of k held.addr))) else d.entries c;
    }) block
