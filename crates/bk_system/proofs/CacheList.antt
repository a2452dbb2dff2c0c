-- The caches of a system kept in a list.
use Rattle.std.proofs.Common.{◌≡◌, ℕ, zero, suc, ◌<◌, List, [], ◌∷◌, ◌++◌, Option, Some, Result, refl, ap, sym}
use Rattle.std.proofs.Common.{subst, ◌∙◌, length, get_or, set, arith}
use Rattle.std.specs.Prelude.{slice_get, IfOk}
use Rattle.std.proofs.lemmas.Option.{slice_get_read}
use Rattle.bk_base.specs.Places.{Shape}
use Rattle.bk_base.specs.Tables.{put}
use Rattle.bk_lce.specs.declared.cache_arrays.CacheArrays.{CacheArrays}
use Rattle.bk_lce.specs.declared.line.CacheStep.{CacheStep}
use Rattle.bk_lce.specs.CacheState.{CacheState, opening}
use Rattle.bk_lce.specs.CacheTable.{Transition, Gives, SendsWithin, CompletesOwn}
use Rattle.bk_lce.specs.CacheArrays.{state_of}
use Rattle.bk_system.specs.declared.caches.Caches.{Caches}
use Rattle.bk_system.specs.Numbering.{caches_of, AreCaches}
use Rattle.bk_system.specs.CacheStates.{states_of}
use Rattle.bk_system.proofs.Queues.{at-item, at-more, table-set, put_at}

-- what holds of each item at its place, after one was written or put at the end
each-set : {X : Type 0} (xs : List X) (c : ℕ) (x : X) (P : ℕ → X → Type 0)
    → ((j : ℕ) (y : X) → slice_get xs j ≡ Some y → P j y) → P c x
    → (j : ℕ) (y : X) → slice_get (set xs c x) j ≡ Some y → P j y
each-set [] c x P h p j y e = h j y e
each-set (z ∷ zs) zero x P h p zero y e = let same : x ≡ y = cc in subst (P 0) same p
each-set (z ∷ zs) zero x P h p (suc j) y e = h (suc j) y e
each-set (z ∷ zs) (suc c) x P h p zero y e = h 0 y e
each-set (z ∷ zs) (suc c) x P h p (suc j) y e = each-set zs c x (λ i. P (suc i)) (λ i. h (suc i)) p j y e

each-more : {X : Type 0} (xs : List X) (x : X) (P : ℕ → X → Type 0) → ((j : ℕ) (y : X) → slice_get xs j ≡ Some y → P j y)
    → P (length xs) x
    → (j : ℕ) (y : X) → slice_get (xs ++ x ∷ []) j ≡ Some y → P j y
each-more [] x P h p zero y e = let same : x ≡ y = cc in subst (P 0) same p
each-more [] x P h p (suc j) y e = h (suc j) y e
each-more (z ∷ zs) x P h p zero y e = h 0 y e
each-more (z ∷ zs) x P h p (suc j) y e = each-more zs x (λ i. P (suc i)) (λ i. h (suc i)) p j y e

pub own-set : (k : Shape) (xs : List CacheArrays) (c : ℕ) (x : CacheArrays) → AreCaches k xs → x.number ≡ c → x.config ≡ k
    → AreCaches k (set xs c x)
own-set k xs c x h n e = each-set xs c x (λ (j : ℕ) (y : CacheArrays). (y.number ≡ j) × (y.config ≡ k)) h (n, e)

pub own-more : (k : Shape) (xs : List CacheArrays) (x : CacheArrays) → AreCaches k xs → x.number ≡ length xs → x.config ≡ k
    → AreCaches k (xs ++ x ∷ [])
own-more k xs x h n e = each-more xs x (λ (j : ℕ) (y : CacheArrays). (y.number ≡ j) × (y.config ≡ k)) h (n, e)

pub own-none : (k : Shape) → AreCaches k []
own-none k j y e = absurd (cc)

pub own-item : (k : Shape) (xs : List CacheArrays) (n c : ℕ) (x : CacheArrays) → AreCaches k xs → n ≡ length xs → c < n
    → x ≡ get_or xs c x
    → (x.number ≡ c) × (x.config ≡ k)
own-item k xs n c x h e l is = h c x (slice_get_read xs n c x e l is)

-- what the caches of the list hold
pub caches-item : (k : Shape) (xs : List CacheArrays) (c : ℕ) (x : CacheArrays) → c < length xs → x ≡ get_or xs c x
    → caches_of k xs c ≡ state_of x
unfolding caches_of
caches-item k xs c x l e = at-item state_of (opening k) xs c x l e

pub caches-set : (k : Shape) (xs : List CacheArrays) (c : ℕ) (x : CacheArrays) → c < length xs
    → caches_of k (set xs c x) ≡ put (caches_of k xs) c (state_of x)
unfolding caches_of
caches-set k xs c x l = table-set state_of (opening k) xs c x l

-- the cache that was written
pub caches-at : (k : Shape) (xs : List CacheArrays) (c : ℕ) (x : CacheArrays) → c < length xs
    → caches_of k (set xs c x) c ≡ state_of x
caches-at k xs c x l = ap (λ (f : ℕ → CacheState). f c) (caches-set k xs c x l) ∙ put_at (caches_of k xs) c (state_of x)

-- all others stay
pub caches-others : (k : Shape) (xs : List CacheArrays) (c : ℕ) (x : CacheArrays) → c < length xs
    → caches_of k (set xs c x) ≡ put (caches_of k xs) c (caches_of k (set xs c x) c)
caches-others k xs c x l = caches-set k xs c x l ∙ ap (λ (cache : CacheState). put (caches_of k xs) c cache) (sym (caches-at k xs c x l))

-- one more cache that was never used
pub caches-more : (k : Shape) (xs : List CacheArrays) (x : CacheArrays) → state_of x ≡ opening k
    → ((c : ℕ) → caches_of k xs c ≡ opening k)
    → (c : ℕ) → caches_of k (xs ++ x ∷ []) c ≡ opening k
unfolding caches_of
caches-more k xs x e h c = at-more state_of (opening k) xs x e h c

pub caches-none : (k : Shape) (c : ℕ) → caches_of k [] c ≡ opening k
unfolding caches_of
caches-none k c = refl

-- what a cache's call gave, by the system's configuration and the cache's place
gives-along : {E : Type 0} (row : Shape → CacheState → ℕ → Option Transition) (x y : CacheArrays) (xs : List CacheArrays)
    (k : Shape) (c : ℕ)
    (r : Result CacheStep E)
    → (x.number ≡ c) × (x.config ≡ k) → c < length xs → x ≡ get_or xs c x
    → Gives (row x.config (state_of x) x.number) (state_of x) (state_of y) r
    → Gives (row k (caches_of k xs c) c) (caches_of k xs c) (caches_of k (set xs c y) c) r
gives-along row x y xs k c r own l e h =
    let n : state_of x ≡ caches_of k xs c = sym (caches-item k xs c x l e) in
    let m : state_of y ≡ caches_of k (set xs c y) c = sym (caches-at k xs c y l) in
    let P : Shape → ℕ → CacheState → CacheState
    → Type 0 = λ (config : Shape) (number : ℕ) (old new : CacheState). Gives (row config old number) old new r in
    subst (λ (new : CacheState). P k c (caches_of k xs c) new) m
    (subst (λ (old : CacheState). P k c old (state_of y)) n
    (subst (λ (number : ℕ). P k number (state_of x) (state_of y)) own.0
    (subst (λ (config : Shape). P config x.number (state_of x) (state_of y)) own.1 h)))

-- What a call of the cache of number c says of all caches y, where the cache is x before it and z after it. Each fact about x is moved
-- along the two that y keeps of its caches: x has the number c, and the configuration of y.
pub record IsCall {E : Type 0} (row : Shape → CacheState → ℕ → Option Transition) (y : Caches) (c : ℕ) (z : CacheArrays)
    (r : Result CacheStep E) : Type 0 where
  pub gives : Gives (row y.config (states_of y c) c) (states_of y c) (caches_of y.config (set y.arrays.items c z) c) r
  pub others : caches_of y.config (set y.arrays.items c z) ≡ put (states_of y) c (caches_of y.config (set y.arrays.items c z) c)
  pub within : IfOk r (SendsWithin y.config)
  pub own : IfOk r (CompletesOwn c)

module _ (y : Caches) (c : ℕ) (x : CacheArrays) (l : c < y.config.caches) (is : x ≡ get_or y.arrays.items c x) where
  pub own-here : (x.number ≡ c) × (x.config ≡ y.config)
  own-here = own-item y.config y.arrays.items y.arrays.len c x y.own y.arrays.ok.0 (omega (arith, y.each, l)) is

  pub own-after : (z : CacheArrays) → z.number ≡ x.number → z.config ≡ x.config → AreCaches y.config (set y.arrays.items c z)
  own-after z n e = own-set y.config y.arrays.items c z y.own (n ∙ own-here.0) (e ∙ own-here.1)

  pub call-told : {E : Type 0} (row : Shape → CacheState → ℕ → Option Transition) (z : CacheArrays) (r : Result CacheStep E)
      → Gives (row x.config (state_of x) x.number) (state_of x) (state_of z) r → IfOk r (SendsWithin x.config)
      → IfOk r (CompletesOwn x.number) → IsCall row y c z r
  call-told row z r gives within own =
      let there : c < length y.arrays.items = omega (arith, y.arrays.ok.0, y.each, l) in
      record {
        gives = gives-along row x z y.arrays.items y.config c r own-here there is gives;
        others = caches-others y.config y.arrays.items c z there;
        within = subst (λ (k : Shape). IfOk r (SendsWithin k)) own-here.1 within;
        own = subst (λ (n : ℕ). IfOk r (CompletesOwn n)) own-here.0 own;
      }
