-- The two example runs are listed, and their answers are computed.
use Rattle.std.proofs.Common.{◌≡◌, ℕ, true, false, refl, arith, List, [], ◌∷◌, ◌++◌, drop, take, inl, inr}
use Rattle.std.specs.Prelude.{Some}
use Rattle.bk_base.specs.Places.{Shape}
use Rattle.bk_base.specs.Tables.{put}
use Rattle.bk_machine.specs.Tables.{put2}
use Rattle.bk_machine.specs.Entries.{wiped_in_cache}
use Rattle.bk_machine.specs.Transactions.{Transaction, Idle}
use Rattle.bk_machine.specs.World.{World, empty_world}
use Rattle.bk_machine.specs.Actions.{Ungranted, Ready, Granted}
use Rattle.bk_machine.specs.Runs.{Event, Listed, event_after, run}
use Rattle.bk_machine.specs.Example as first
use Rattle.bk_machine.specs.SecondExample as second

-- what many conditions begin with
is-open : {g : ℕ} {x : Transaction} {world : World} → world.transaction ≡ Some (g, x) → x.granted ≡ false → Ungranted g x world
is-open a b = record { is = a; ungranted = b }

is-ready : {g : ℕ} {x : Transaction} {world : World} → world.transaction ≡ Some (g, x) → x.granted ≡ false
    → x.write_back ≡ Idle
    → x.waiting ≡ [] → Ready g x world
is-ready a b c d = record { ungranted = is-open a b; idle = c; acked = d }

is-granted : {g : ℕ} {x : Transaction} {world : World} → world.transaction ≡ Some (g, x) → x.granted ≡ true → Granted g x world
is-granted a b = record { is = a; granted = b }

-- what stands in a piece behind its first n events is listed there
abbrev ListedFrom : ℕ → Shape → List Event → World → Type 0
ListedFrom n k es world = Listed k (drop n es) (run k (take n es) world)

-- pieces one after the other, and that each is listed from the state that the ones before it leave
abbrev joined : List (List Event) → List Event
joined [] = []
joined (x ∷ xs) = x ++ joined xs

abbrev EachListed : Shape → List (List Event) → World → Type 0
EachListed k [] world = Unit {0}
EachListed k (x ∷ xs) world = Listed k x world × EachListed k xs (run k x world)

listed-append : (k : Shape) (xs ys : List Event) (world : World) → Listed k xs world → Listed k ys (run k xs world)
    → Listed k (xs ++ ys) world
listed-append k [] ys world a b = b
listed-append k (x ∷ xs) ys world a b = (a.0, listed-append k xs ys (event_after k world x) a.1 b)

listed-joined : (k : Shape) (xs : List (List Event)) (world : World) → EachListed k xs world → Listed k (joined xs) world
listed-joined k [] world l = tt
listed-joined k (x ∷ xs) world l = listed-append k x (joined xs) world l.0 (listed-joined k xs (run k x world) l.1)

-- THE FIRST RUN: the states between its pieces, that each piece is listed, and the answers

abbrev w1 : World
w1 = run first.shape first.load_events (empty_world 1)

abbrev w2 : World
w2 = run first.shape first.silent_store w1

abbrev w3 : World
w3 = run first.shape first.transfer_events w2

abbrev w4 : World
w4 = run first.shape first.write_back_events w3

abbrev w5 : World
w5 = run first.shape first.uncached_store w4

abbrev w6 : World
w6 = run first.shape first.evict_events w5

loads : Listed first.shape first.load_events (empty_world 1)
unfolding put put2 wiped_in_cache
loads = (
  tt,
  (
    (refl, refl, refl),
    ((is-open refl refl, refl, refl, refl, inl refl, refl), (tt, ((is-open refl refl, refl, refl), granted))),
  ),
)
  where
    granted : ListedFrom 5 first.shape first.load_events (empty_world 1)
    granted = (
      (is-ready refl refl refl refl, refl, refl, refl, (refl, refl)),
      (tt, ((refl, refl), ((is-granted refl refl, refl, refl), ((tt, refl), tt)))),
    )

transfers : Listed first.shape first.transfer_events w2
unfolding put put2 wiped_in_cache
transfers = (
  tt,
  (
    (refl, refl, refl),
    (
      (is-ready refl refl refl refl, refl, refl, record { is_owner = refl; is_way = refl }, refl, refl, λ e. absurd (cc e)),
      (tt, (tt, paid)),
    ),
  ),
)
  where
    paid : ListedFrom 5 first.shape first.transfer_events w2
    paid = ((refl, refl), ((refl, refl), ((is-granted refl refl, refl, refl), ((tt, refl), tt))))

writes_back : Listed first.shape first.write_back_events w3
unfolding put put2 wiped_in_cache
writes_back = (tt, ((refl, refl, refl), ((is-open refl refl, refl, refl), (tt, ((is-open refl refl, refl, refl), ((refl, refl), read))))))
  where
    granted : ListedFrom 10 first.shape first.write_back_events w3
    granted = (
      (is-ready refl refl refl refl, refl, refl, refl, (refl, refl)),
      (tt, ((refl, refl), ((is-granted refl refl, refl, refl), ((tt, refl), tt)))),
    )

    read : ListedFrom 6 first.shape first.write_back_events w3
    read = ((is-open refl refl, refl, refl, refl, inl refl, refl), (tt, (tt, ((is-open refl refl, refl, refl), granted))))

uncached_store : Listed first.shape first.uncached_store w4
unfolding put put2 wiped_in_cache
uncached_store = (
  tt,
  ((refl, refl, refl), ((is-open refl refl, refl, λ e. absurd (cc e)), (tt, ((is-open refl refl, refl, omega arith), written)))),
)
  where
    written : ListedFrom 5 first.shape first.uncached_store w4
    written = (
      (is-ready refl refl refl refl, refl, refl, refl, refl, refl, refl),
      ((is-ready refl refl refl refl, refl, refl), (tt, (tt, ((is-granted refl refl, refl, refl), ((tt, refl), tt))))),
    )

evicts : Listed first.shape first.evict_events w5
unfolding put put2 wiped_in_cache
evicts = (
  tt,
  (
    (refl, refl, refl),
    ((is-open refl refl, refl, refl, inl refl, λ e. absurd (cc e)), (tt, ((is-open refl refl, refl, refl), answered))),
  ),
)
  where
    answered : ListedFrom 5 first.shape first.evict_events w5
    answered = ((is-ready refl refl refl refl, refl, refl), (tt, ((is-granted refl refl, refl, refl), ((tt, refl), tt))))

uncached_load : Listed first.shape first.uncached_load w6
unfolding put put2 wiped_in_cache
uncached_load = (
  tt,
  ((refl, refl, refl), ((is-open refl refl, refl, refl, refl, inl refl, refl), (tt, ((is-open refl refl, refl, refl), answered)))),
)
  where
    answered : ListedFrom 5 first.shape first.uncached_load w6
    answered = ((is-ready refl refl refl refl, refl, refl), (tt, ((is-granted refl refl, refl, refl), ((tt, refl), tt))))

pub first_listed : Listed first.shape first.events (empty_world 1)
first_listed =
    listed-joined first.shape
    (first.load_events ∷ first.silent_store ∷ first.transfer_events ∷ first.write_back_events ∷ first.uncached_store
    ∷ first.evict_events
    ∷ first.uncached_load ∷ []) (empty_world 1)
    (loads, ((tt, tt), (transfers, (writes_back, (uncached_store, (evicts, (uncached_load, tt)))))))

pub first_answers : (run first.shape first.events (empty_world 1)).history ≡ first.answers
unfolding put put2 wiped_in_cache
first_answers = refl

-- THE SECOND RUN, likewise

abbrev v1 : World
v1 = run second.shape second.store_events (empty_world 2)

abbrev v2 : World
v2 = run second.shape second.load_beside_events v1

abbrev v3 : World
v3 = run second.shape second.flush_events v2

abbrev v4 : World
v4 = run second.shape second.share_events v3

abbrev v5 : World
v5 = run second.shape second.wake_events v4

stores : Listed second.shape second.store_events (empty_world 2)
unfolding put put2 wiped_in_cache
stores = (
  tt,
  (
    (refl, refl, refl),
    ((is-open refl refl, refl, refl, refl, inl refl, refl), (tt, ((is-open refl refl, refl, refl), granted))),
  ),
)
  where
    granted : ListedFrom 5 second.shape second.store_events (empty_world 2)
    granted = (
      (is-ready refl refl refl refl, refl, refl, refl, (refl, refl)),
      (tt, ((refl, refl), ((is-granted refl refl, refl, refl), tt))),
    )

loads_beside : Listed second.shape second.load_beside_events v1
unfolding put put2 wiped_in_cache
loads_beside = (
  tt,
  (
    (refl, refl, refl),
    ((refl, refl), ((is-open refl refl, refl, refl, refl, inl refl, refl), (tt, ((is-open refl refl, refl, refl), granted)))),
  ),
)
  where
    granted : ListedFrom 6 second.shape second.load_beside_events v1
    granted = (
      (is-ready refl refl refl refl, refl, refl, refl, inl refl),
      (tt, ((refl, refl), ((is-granted refl refl, refl, refl), ((tt, refl), tt)))),
    )

flushes : Listed second.shape second.flush_events v2
unfolding put put2 wiped_in_cache
flushes = (tt, ((refl, refl, refl), ((is-open refl refl, refl, record { is_owner = refl; is_way = refl }, inr refl), (tt, written))))
  where
    granted : ListedFrom 10 second.shape second.flush_events v2
    granted = (
      (is-ready refl refl refl refl, refl, refl, refl, refl),
      (tt, ((refl, refl), ((is-granted refl refl, refl, refl), ((tt, refl), tt)))),
    )

    read : ListedFrom 7 second.shape second.flush_events v2
    read = ((is-open refl refl, refl, refl, refl, inl refl, refl), (tt, ((is-open refl refl, refl, refl), granted)))

    written : ListedFrom 4 second.shape second.flush_events v2
    written = ((is-open refl refl, refl, refl), ((refl, refl), (tt, read)))

shares : Listed second.shape second.share_events v3
unfolding put put2 wiped_in_cache
shares = (
  tt,
  (
    (refl, refl, refl),
    ((is-open refl refl, refl, refl, refl, inr refl, refl), (tt, ((is-open refl refl, refl, refl), granted))),
  ),
)
  where
    granted : ListedFrom 5 second.shape second.share_events v3
    granted = (
      (is-ready refl refl refl refl, refl, refl, refl, inr refl),
      (tt, ((refl, refl), ((is-granted refl refl, refl, refl), ((tt, refl), tt)))),
    )

wakes : Listed second.shape second.wake_events v4
unfolding put put2 wiped_in_cache
wakes = (tt, ((refl, refl, refl), ((is-open refl refl, refl, λ e. inr refl), (tt, (tt, acked)))))
  where
    woken : ListedFrom 8 second.shape second.wake_events v4
    woken = (
      (is-ready refl refl refl refl, refl, refl, inl refl, refl, refl),
      (tt, ((refl, refl), ((is-granted refl refl, refl, refl), ((tt, refl), tt)))),
    )

    acked : ListedFrom 5 second.shape second.wake_events v4
    acked = ((is-open refl refl, refl, omega arith), (tt, ((is-open refl refl, refl, omega arith), woken)))

has_both : Listed second.shape second.both_events v5
unfolding put put2 wiped_in_cache
has_both = (
  tt,
  (
    (refl, refl, refl),
    ((is-open refl refl, refl, refl, refl, inl refl, refl), (tt, ((is-open refl refl, refl, refl), granted))),
  ),
)
  where
    granted : ListedFrom 5 second.shape second.both_events v5
    granted = (
      (is-ready refl refl refl refl, refl, refl, refl, (refl, refl)),
      (tt, ((refl, refl), ((is-granted refl refl, refl, refl), ((tt, refl), (tt, tt))))),
    )

pub second_listed : Listed second.shape second.events (empty_world 2)
second_listed =
    listed-joined second.shape (second.store_events ∷ second.load_beside_events ∷ second.flush_events ∷ second.share_events
    ∷ second.wake_events ∷ second.both_events ∷ []) (empty_world 2)
    (stores, (loads_beside, (flushes, (shares, (wakes, (has_both, tt))))))

pub second_answers : (run second.shape second.events (empty_world 2)).history ≡ second.answers
unfolding put put2 wiped_in_cache
second_answers = refl
