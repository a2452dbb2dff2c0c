-- The fill channels, by receiver and sender.
use Rattle.std.proofs.Common.{◌≡◌, ◌≢◌, ℕ, ◌<◌, List, [], ◌∷◌, ◌++◌, Bool, true, false, Option, Some, refl, ap, sym, subst, ◌∙◌, inl, inr, arith}
use Rattle.std.specs.Prelude.{nat_lt, ◌&&◌, if◌then◌else◌}
use Rattle.std.proofs.lemmas.Bool.{cases_eq}
use Rattle.std.proofs.lemmas.Bool.Decides.{nat_tests}
use mathlib.Core.Path.{fun_ext}
use Rattle.bk_base.specs.Places.{Shape}
use Rattle.bk_base.specs.Tables.{put}
use Rattle.bk_base.specs.declared.config.TheConstants.{MOST_CACHES}
use Rattle.bk_msg.specs.declared.row.Row.{Row}
use Rattle.bk_msg.specs.declared.row.Network.{Network}
use Rattle.bk_msg.specs.declared.row.Network.TheVariants.{Fill}
use Rattle.bk_msg.specs.Networks.{network_of, receiver_of}
use Rattle.bk_msg.specs.Within.{IsWithin}
use Rattle.bk_system.specs.Numbering.{fill_place, fills_of}
use Rattle.bk_system.specs.Events.{fills_with, is_fill}
use Rattle.bk_system.proofs.Queues.{put_at, put_other}

lt : (a b : ℕ) → a < b → nat_lt a b ≡ true
lt a b l = grind (arith, nat_tests)

-- a channel that there is
pub fills-at : (q : ℕ → List Row) (to from : ℕ) → to < MOST_CACHES → from < MOST_CACHES
    → fills_of q to from ≡ q (fill_place to from)
unfolding fills_of
fills-at q to from a b = rw (lt to MOST_CACHES a, lt from MOST_CACHES b) refl

in-range : (a b : ℕ) → (nat_lt a MOST_CACHES && nat_lt b MOST_CACHES) ≡ true → b < MOST_CACHES
in-range a b e = grind (arith, nat_tests)

if-same : (b : Bool) (xs ys : List Row) → (b ≡ true → xs ≡ ys) → (if b then xs else []) ≡ (if b then ys else [])
if-same true xs ys h = h refl
if-same false xs ys h = refl

-- places tell receiver and sender apart
other-place : (a b to from : ℕ) → b < MOST_CACHES → from < MOST_CACHES → ((a ≡ to) × (b ≡ from) → ⊥)
    → fill_place a b ≢ fill_place to from
other-place a b to from l m n e = n (omega arith, omega arith)

-- the channels to the receiver
to-receiver : (q : ℕ → List Row) (to from : ℕ) (ms : List Row) (b : ℕ) → to < MOST_CACHES → from < MOST_CACHES
    → fills_of (put q (fill_place to from) ms) to b ≡ put (fills_of q to) from ms b
unfolding fills_of
to-receiver q to from ms b l m =
    elim (cases_eq b from) [
      | inl same ↦ subst (λ (j : ℕ). fills_of (put q (fill_place to from) ms) to j ≡ put (fills_of q to) from ms j) (sym same)
          (fills-at (put q (fill_place to from) ms) to from l m ∙ put_at q (fill_place to from) ms
          ∙ sym (put_at (fills_of q to) from ms))
      | inr differ ↦ if-same (nat_lt to MOST_CACHES && nat_lt b MOST_CACHES) (put q (fill_place to from) ms (fill_place to b))
          (q (fill_place to b))
          (λ e. put_other q (fill_place to from) ms (fill_place to b) (other-place to b to from (in-range to b e) m (λ h. differ h.1)))
          ∙ sym (put_other (fills_of q to) from ms b differ)
    ]

-- the channels to another receiver
to-other : (q : ℕ → List Row) (to from : ℕ) (ms : List Row) (a b : ℕ) → from < MOST_CACHES → a ≢ to
    → fills_of (put q (fill_place to from) ms) a b ≡ fills_of q a b
unfolding fills_of
to-other q to from ms a b m n =
    if-same (nat_lt a MOST_CACHES && nat_lt b MOST_CACHES) (put q (fill_place to from) ms (fill_place a b)) (q (fill_place a b))
    (λ e. put_other q (fill_place to from) ms (fill_place a b) (other-place a b to from (in-range a b e) m (λ h. n h.0)))

-- one channel changed
fills-one : (q : ℕ → List Row) (to from : ℕ) (ms : List Row) (a b : ℕ) → to < MOST_CACHES → from < MOST_CACHES
    → fills_of (put q (fill_place to from) ms) a b ≡ put (fills_of q) to (put (fills_of q to) from ms) a b
fills-one q to from ms a b l m =
    elim (cases_eq a to) [
      | inl same ↦ subst (λ (j : ℕ). fills_of (put q (fill_place to from) ms) j b
          ≡ put (fills_of q) to (put (fills_of q to) from ms) j b) (sym same)
          (to-receiver q to from ms b l m
          ∙ ap (λ (f : ℕ → List Row). f b) (sym (put_at (fills_of q) to (put (fills_of q to) from ms))))
      | inr differ ↦ to-other q to from ms a b m differ
          ∙ ap (λ (f : ℕ → List Row). f b) (sym (put_other (fills_of q) to (put (fills_of q to) from ms) a differ))
    ]

pub fills-put : (q : ℕ → List Row) (to from : ℕ) (ms : List Row) → to < MOST_CACHES → from < MOST_CACHES
    → fills_of (put q (fill_place to from) ms) ≡ put (fills_of q) to (put (fills_of q to) from ms)
fills-put q to from ms l m = fun_ext (λ a. fun_ext (λ b. fills-one q to from ms a b l m))

-- who receives a fill is a cache
pub fill-receiver : (k : Shape) (m : Row) → network_of m ≡ Fill → IsWithin k m → receiver_of m < k.caches
fill-receiver k m e h = grind arith

-- a fill that was sent
pub fill-sent : (q new : ℕ → List Row) (c : ℕ) (sent : Option Row) (m : Row) (to place : ℕ)
    → sent ≡ Some m → network_of m ≡ Fill → to ≡ receiver_of m → place ≡ fill_place to c
    → c < MOST_CACHES → to < MOST_CACHES
    → new ≡ put q place (q place ++ m ∷ []) → fills_of new ≡ fills_with c sent (fills_of q)
fill-sent q new c sent m to place es network is at l r e =
    ap fills_of (e ∙ ap (λ (p : ℕ). put q p (q p ++ m ∷ [])) at) ∙ fills-put q to c (q (fill_place to c) ++ m ∷ []) r l
    ∙ ap (λ (ms : List Row). put (fills_of q) to (put (fills_of q to) c (ms ++ m ∷ []))) (sym (fills-at q to c r l))
    ∙ ap (λ (j : ℕ). put (fills_of q) j (put (fills_of q j) c (fills_of q j c ++ m ∷ []))) is
    ∙ sym (with-fill (network_of m) (receiver_of m) m network) ∙ ap (λ (o : Option Row). fills_with c o (fills_of q)) (sym es)
  where
    with-fill : (network : Network) (j : ℕ) (m : Row) → network ≡ Fill
        → (if is_fill network then put (fills_of q) j (put (fills_of q j) c (fills_of q j c ++ m ∷ [])) else fills_of q)
        ≡ put (fills_of q) j (put (fills_of q j) c (fills_of q j c ++ m ∷ []))
    with-fill network j m e = rw e refl

-- where all channels are empty
pub fills-none : fills_of (λ c. []) ≡ λ to from. []
unfolding fills_of
fills-none = fun_ext (λ a. fun_ext (λ b. either (nat_lt a MOST_CACHES && nat_lt b MOST_CACHES) []))
  where
    either : (b : Bool) (ms : List Row) → (if b then ms else ms) ≡ ms
    either true ms = refl
    either false ms = refl
