-- The rows of a cache's events, from what the code has tested and called.
use Rattle.std.proofs.Common.{◌≡◌, ◌∙◌, ℕ, ◌<◌, List, Bool, true, false, Option, Some, None, refl, ap, sym, arith}
use Rattle.std.specs.Prelude.{nat_lt, ◌&&◌, if◌then◌else◌, slice_get, drop}
use Rattle.std.specs.Option.{option_to_list}
use Rattle.std.proofs.lemmas.Bool.Decides.{nat_tests}
use Rattle.bk_base.specs.Places.{Shape}
use Rattle.bk_base.specs.Tables.{put}
use Rattle.bk_base.specs.declared.op.Op.{Op}
use Rattle.bk_base.specs.declared.op.Done.{Done}
use Rattle.bk_base.specs.declared.config.TheConstants.{MOST_CACHES}
use Rattle.bk_msg.specs.declared.row.Row.{Row}
use Rattle.bk_lce.specs.CacheState.{CacheState}
use Rattle.bk_lce.specs.CacheTable as table
use Rattle.bk_lce.specs.CacheTable.{Transition}
use Rattle.bk_system.specs.State.{State}
use Rattle.bk_system.specs.Events.{first, cache_row, issue_taken, command_taken, fill_of, fill_taken}
use Rattle.bk_system.specs.Numbering.{fill_place, fills_of}
use Rattle.bk_system.specs.EventCalls.{with_step}
use Rattle.bk_system.proofs.Queues.{put-same}
use Rattle.bk_system.proofs.Fills.{fills-at, fills-put}

pub below : (a b : ℕ) → a < b → nat_lt a b ≡ true
below a b l = grind (arith, nat_tests)

pub is-below : (a b : ℕ) → nat_lt a b ≡ true → a < b
is-below a b e = grind (arith, nat_tests)

-- the row is that of the cache's table
pub issue-row : (k : Shape) (s : State) (c : ℕ) (op : Op) (way : ℕ) → c < k.caches → way < k.ways
    → issue_taken k s c op way ≡ table.issue k (s.caches c) c op way
issue-row k s c op way l m = rw (below c k.caches l, below way k.ways m) refl

pub command-row : (k : Shape) (s : State) (c : ℕ) (m : Row) → c < k.caches → first (s.command c) ≡ Some m
    → command_taken k s c ≡ table.command k (s.caches c) c m
command-row k s c m l e = rw (below c k.caches l, e) refl

pub fill-row : (k : Shape) (s : State) (to from : ℕ) (m : Row) → to < k.caches → from < k.caches → first (s.fill to from) ≡ Some m
    → fill_taken k s to from ≡ table.fill k (s.caches to) to m
fill-row k s to from m l f e = rw (below to k.caches l, below from k.caches f, e) refl

-- without a head there is no row
pub fill-none : (k : Shape) (s : State) (to from : ℕ) → first (s.fill to from) ≡ None → fill_taken k s to from ≡ None
fill-none k s to from e = ap (λ (o : Option Row). if nat_lt to k.caches && nat_lt from k.caches then fill_of k s to o else None) e
    ∙ either (nat_lt to k.caches && nat_lt from k.caches) None
  where
    either : (b : Bool) (o : Option Transition) → (if b then o else o) ≡ o
    either true o = refl
    either false o = refl

-- the caches of a call that changed nothing
pub caches-kept : (f g : ℕ → CacheState) (c : ℕ) → g ≡ put f c (g c) → g c ≡ f c → g ≡ f
caches-kept f g c e h = e ∙ put-same f c (g c) h

-- the head of a fill channel
pub fill-head : (q : ℕ → List Row) (to from : ℕ) (o : Option Row) (place : ℕ) → to < MOST_CACHES → from < MOST_CACHES
    → place ≡ fill_place to from
    → o ≡ slice_get (q place) 0 → o ≡ first (fills_of q to from)
fill-head q to from o place l m p e = e ∙ ap (λ (j : ℕ). slice_get (q j) 0) p ∙ ap first (sym (fills-at q to from l m))

-- the fill channels without the head of one
pub fill-popped : (q r : ℕ → List Row) (to from place : ℕ) → to < MOST_CACHES → from < MOST_CACHES
    → place ≡ fill_place to from
    → r ≡ put q place (drop 1 (q place))
    → fills_of r ≡ put (fills_of q) to (put (fills_of q to) from (drop 1 (fills_of q to from)))
fill-popped q r to from place l m p e =
    ap fills_of (e ∙ ap (λ (j : ℕ). put q j (drop 1 (q j))) p) ∙ fills-put q to from (drop 1 (q (fill_place to from))) l m
    ∙ ap (λ (ms : List Row). put (fills_of q) to (put (fills_of q to) from (drop 1 ms))) (sym (fills-at q to from l m))

-- A step that the table gave, concluded: the row of the event.
pub took : (s new : State) (c : ℕ) (o : Option Transition) (caches : ℕ → CacheState) (command : ℕ → List Row) (fill : ℕ → ℕ
    → List Row) (cache : CacheState) (sent : Option Row) (done : Option Done) (way : ℕ) (out : List Row)
    → o ≡ Some (record { state = cache; sent = sent; done = done; way = way }) → caches ≡ put s.caches c cache
    → new ≡ with_step (record s { caches = caches; command = command; fill = fill }) c sent done → out ≡ option_to_list sent
    → cache_row (record s { command = command; fill = fill }) c o ≡ Some (record { state = new; sent = out })
took s new c o caches command fill cache sent done way out e g h w =
    let left : with_step (record s { caches = put s.caches c cache; command = command; fill = fill }) c sent done ≡ new
    = ap (λ (f : ℕ → CacheState). with_step (record s { caches = f; command = command; fill = fill }) c sent done) (sym g) ∙ sym h in
    ap (cache_row (record s { command = command; fill = fill }) c) e ∙ (λ i. Some (record { state = left i; sent = sym w i }))
