-- What the engine's own reads of the directory say while it serves a transaction, and how much is under way for one.
use Rattle.std.specs.Prelude.{not, Bool, List, ◌++◌, ◌&&◌, ℕ, ◌≡◌, ◌≢◌, ◌+◌, ◌<◌, ◌≤◌, ◌⊎◌, true, false, Some, None, is_some, [], length, ◌==◌}
use Rattle.bk_base.specs.Places.{Shape}
use Rattle.bk_base.specs.declared.coh.Coh.{Coh}
use Rattle.bk_base.specs.declared.coh.Coh.TheVariants.{I}
use Rattle.bk_base.specs.States.{is_writable, is_owner_like}
use Rattle.bk_machine.specs.Entries.{Entry, Holds, times, with_state, wiped_in_caches}
use Rattle.bk_machine.specs.Messages.{Rd, Wr, Response, request_tag}
use Rattle.bk_machine.specs.Transactions.{Debt, Transaction, remove_one}
use Rattle.bk_machine.specs.Directory.{found_way, passing_below}
use Rattle.bk_machine.specs.World.{World, of_group}
use Rattle.bk_machine.specs.Tables.{put2}
use Rattle.bk_machine.specs.Actions.{Permitted, Invalidates, CollectsAck, own_for, own_way_for, owner_for, others_for, OwnerAt}
use Rattle.bk_machine.specs.Values.{read_count}

-- The transaction isn't granted.
pub record OpenReadings (k : Shape) (g : ℕ) (x : Transaction) (world : World) : Type 0 where
  -- who asks to read a block has no entry of it
  pub rd : (t w : ℕ) → x.request ≡ Rd t w → own_for k (world.directory g) x ≡ I
  -- who asks to write one has none, or one at the request's way, in S, F or O
  pub wr : (t w : ℕ) → x.request ≡ Wr t w
      → (own_for k (world.directory g) x ≡ I)
      ⊎ ((own_way_for k (world.directory g) x ≡ Some w) × (is_writable (own_for k (world.directory g) x) ≡ false))
  -- the owner that is found is the only other cache with an owner-like entry
  pub owner : (o w : ℕ) → OwnerAt k (world.directory g) x o w → (c u : ℕ) → c ≢ x.cache
      → Holds (world.directory g c u) (request_tag x.request)
      → is_owner_like (world.directory g c u).state ≡ true → (c ≡ o) × (u ≡ w)
  -- with no owner and no others, no other cache has an entry
  pub nobody : owner_for k (world.directory g) x ≡ None → others_for k (world.directory g) x ≡ [] → (c u : ℕ) → c ≢ x.cache
      → Holds (world.directory g c u) (request_tag x.request) → ⊥

-- A debt is unpaid.
pub record DebtReadings (k : Shape) (g : ℕ) (x : Transaction) (world : World) : Type 0 where
  -- the requester has an entry of the block at no other way than the one that its debt will be paid at
  pub own : (debt : Debt) → x.requester_debt ≡ Some debt → (w : ℕ) → Holds (world.directory g x.cache w) (request_tag x.request)
      → w ≡ debt.way
  -- there is an owner, and it is the entry that the owner's debt will be paid at
  pub owner : (debt : Debt) → x.owner_debt ≡ Some debt → OwnerAt k (world.directory g) x debt.cache debt.way

pub record Readings (k : Shape) (world : World) : Type 0 where
  pub while_open : (g : ℕ) (x : Transaction) → world.transaction ≡ Some (g, x) → x.granted ≡ false → OpenReadings k g x world
  pub while_owing : (g : ℕ) (x : Transaction) → world.transaction ≡ Some (g, x) → DebtReadings k g x world

-- How much is under way in a way group: in each of its channels one or two messages at most, one read of memory at most; and the
-- acks to come, each from another cache of the configuration than the requester, are fewer than the caches.
pub record UnderWay (k : Shape) (world : World) : Type 0 where
  pub requests : (g c : ℕ) → length (of_group g (world.request c)) ≤ 1
  pub commands : (g c : ℕ) → length (of_group g (world.command c)) ≤ 2
  pub fills : (g to from : ℕ) → length (of_group g (world.fill to from)) ≤ 1
  pub responses : (g c : ℕ) → length (of_group g (world.response c)) ≤ 2
  pub memory_reads : (g : ℕ) → read_count (of_group g world.memout) + length (of_group g world.memin) ≤ 1
  pub acks : (g : ℕ) (x : Transaction) → world.transaction ≡ Some (g, x) → x.granted ≡ false → length x.waiting < k.caches
  pub once : (g : ℕ) (x : Transaction) → world.transaction ≡ Some (g, x) → x.granted ≡ false → (c : ℕ)
      → times c x.waiting ≤ 1

-- how many caches other than the requester have an entry of the tag in the directory
abbrev pub holders : Shape → (ℕ → ℕ → Entry) → ℕ → ℕ → ℕ
holders k d r t = length (passing_below k.caches (λ c. not (c == r) && is_some (found_way k.ways (d c) t)))

-- how many acks there may still be for a request: those to come, and one for each holder
abbrev pub acks_left : Shape → (ℕ → ℕ → Entry) → ℕ → ℕ → List ℕ → ℕ
acks_left k d r t waiting = holders k d r t + length waiting

-- A bound on the acks of one operation: at its begin there may be fewer acks than caches. While it is served no invalidation and no
-- flush raises what may still come, each ack that is collected lowers it by one, and no other action touches it.
pub record AcksFall (k : Shape) (world : World) : Type 0 where
  pub begin : (d : ℕ → ℕ → Entry) (r t : ℕ) → r < k.caches → acks_left k d r t [] < k.caches
  pub invalidate : (g : ℕ) (x : Transaction) (f : Bool) (to : List ℕ) → Permitted k g (Invalidates f to x) world
      → acks_left k (wiped_in_caches to (request_tag x.request) (world.directory g)) x.cache (request_tag x.request) (x.waiting ++ to)
      ≤ acks_left k (world.directory g) x.cache (request_tag x.request) x.waiting
  pub flush : (g : ℕ) (x : Transaction) (o w u : ℕ) (y : Coh) → Holds (world.directory g o w) u
      → acks_left k (put2 (world.directory g) o w (with_state (world.directory g o w) y)) x.cache (request_tag x.request) x.waiting
      ≤ acks_left k (world.directory g) x.cache (request_tag x.request) x.waiting
  pub collect : (g : ℕ) (x : Transaction) (c t : ℕ) (rest : List (ℕ × Response)) → Permitted k g (CollectsAck c t rest x) world
      → length (remove_one c x.waiting) + 1 ≡ length x.waiting
