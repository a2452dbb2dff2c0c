-- What the engine reads from the directory for a request: own, owner, others and victim. The directory of a way group is given
-- as its entries by cache and way. `r` is the cache that asks, `t` the block's tag.
use Rattle.std.specs.Prelude.{ℕ, zero, suc, Bool, true, false, not, ◌&&◌, List, [], ◌∷◌, Option, Some, None, is_some, if◌then◌else◌, ◌==◌}
use Rattle.bk_base.specs.Counting.{least_below}
use Rattle.bk_base.specs.declared.coh.Coh.{Coh}
use Rattle.bk_base.specs.declared.coh.Coh.TheVariants.{I, S, E, F, M, O}
use Rattle.bk_base.specs.States.{is_owner_like, is_readable}
use Rattle.bk_machine.specs.Entries.{Entry, holds}

-- the numbers below n that pass a test, the greatest first
abbrev pub passing_below : ℕ → (ℕ → Bool) → List ℕ
passing_below zero p = []
passing_below (suc n) p = if p n then n ∷ passing_below n p else passing_below n p

-- the least way of a cache that holds the tag
abbrev pub found_way : ℕ → (ℕ → Entry) → ℕ → Option ℕ
found_way ways h t = least_below ways (λ v. holds (h v) t)

-- the state at a way, I where there is none
abbrev pub state_at : (ℕ → Entry) → Option ℕ → Coh
state_at h None = I
state_at h (Some v) = (h v).state

-- own: the state of the least way of the cache that asks which holds the tag, else I
abbrev pub own_way : ℕ → (ℕ → ℕ → Entry) → ℕ → ℕ → Option ℕ
own_way ways d r t = found_way ways (d r) t

abbrev pub own : ℕ → (ℕ → ℕ → Entry) → ℕ → ℕ → Coh
own ways d r t = state_at (d r) (own_way ways d r t)

-- the least way of a cache that holds the tag in an owner-like state
abbrev pub owner_way : ℕ → (ℕ → ℕ → Entry) → ℕ → ℕ → Option ℕ
owner_way ways d t c = least_below ways (λ v. holds (d c v) t && is_owner_like (d c v).state)

-- owner: the least other cache with such a way, and the state there, I where there is no owner
abbrev pub owner : ℕ → ℕ → (ℕ → ℕ → Entry) → ℕ → ℕ → Option ℕ
owner caches ways d r t = least_below caches (λ c. not (c == r) && is_some (owner_way ways d t c))

abbrev pub state_of_owner : ℕ → (ℕ → ℕ → Entry) → ℕ → Option ℕ → Coh
state_of_owner ways d t None = I
state_of_owner ways d t (Some c) = state_at (d c) (owner_way ways d t c)

abbrev pub owner_state : ℕ → ℕ → (ℕ → ℕ → Entry) → ℕ → ℕ → Coh
owner_state caches ways d r t = state_of_owner ways d t (owner caches ways d r t)

abbrev pub is_shared : Coh → Bool
is_shared I = false
is_shared S = true
is_shared E = false
is_shared F = false
is_shared M = false
is_shared O = false

-- others: the other caches with an entry S of the tag
abbrev pub shares : ℕ → (ℕ → ℕ → Entry) → ℕ → ℕ → Bool
shares ways d t c = is_some (least_below ways (λ v. holds (d c v) t && is_shared (d c v).state))

abbrev pub others : ℕ → ℕ → (ℕ → ℕ → Entry) → ℕ → ℕ → List ℕ
others caches ways d r t = passing_below caches (λ c. not (c == r) && shares ways d t c)

-- victim: the state of the entry at the request's way w, where the answer puts a block there (`placed`) and the entry holds
-- another block; else I
abbrev pub victim : Bool → (ℕ → ℕ → Entry) → ℕ → ℕ → ℕ → Coh
victim placed d r t w = if placed && (is_readable (d r w).state && not ((d r w).tag == t)) then (d r w).state else I
