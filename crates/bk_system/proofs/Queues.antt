-- The channels of a network kept in a list.
use Rattle.std.proofs.Common.{◌≡◌, ◌≢◌, ℕ, zero, suc, ◌<◌, ◌≤◌, List, [], ◌∷◌, ◌++◌, Bool, true, false, cond, eqb, Option, Some, None, refl, ap, sym, ◌∙◌, length, get_or, set, arith}
use Rattle.std.specs.Prelude.{slice_get}
use Rattle.std.specs.Option.{option_map_or}
use Rattle.std.proofs.lemmas.Bool.Decides.{nat_tests}
use mathlib.Core.Path.{fun_ext}
use Rattle.std.specs.Option.{option_copied, IfSome}
use Rattle.std.specs.Prelude.{⊤, All}
use Rattle.bk_engine.specs.Step.{IsOutward}
use Rattle.std.proofs.Common.{Result, Ok, Err}
use Rattle.std.specs.Result.{OnOk}
use Rattle.std.specs.Vec.{vec_len}
use Rattle.std.specs.Borrow.{Bor}
use Rattle.std.proofs.Common.{◌+◌, drop, subst}
use Rattle.bk_base.specs.Places.{Shape}
use Rattle.bk_msg.specs.declared.row.Row.{Row}
use Rattle.bk_msg.specs.Within.{IsWithin}
use Rattle.bk_base.specs.Tables.{put}
use Rattle.bk_system.specs.declared.channels.Channels.{Channels}
use Rattle.bk_system.specs.declared.queue.Queue.{Queue}
use Rattle.bk_system.specs.Queues.{items_of, room_of, queues_of, EachWithin, AreWithin}
use Rattle.bk_system.specs.Channels.{queue, room}

-- f of the value at a place, or a default past the end
abbrev pub at : {X Y : Type 0} → (X → Y) → Y → List X → ℕ → Y
at f d xs number = option_map_or f (slice_get xs number) d

suc-zero : (number : ℕ) → eqb (suc number) 0 ≡ false
suc-zero number = grind (arith, nat_tests)

zero-suc : (i : ℕ) → eqb 0 (suc i) ≡ false
zero-suc i = grind (arith, nat_tests)

suc-suc : (number i : ℕ) → eqb (suc number) (suc i) ≡ eqb number i
suc-suc number i = grind (arith, nat_tests)

pub at-set : {X Y : Type 0} (f : X → Y) (d : Y) (xs : List X) (i : ℕ) (x : X) (number : ℕ) → i < length xs
    → at f d (set xs i x) number ≡ cond (eqb number i) (f x) (at f d xs number)
at-set f d [] i x number l = absurd (omega arith)
at-set f d (y ∷ ys) zero x zero l = refl
at-set f d (y ∷ ys) zero x (suc number) l = rw (suc-zero number) refl
at-set f d (y ∷ ys) (suc i) x zero l = rw (zero-suc i) refl
at-set f d (y ∷ ys) (suc i) x (suc number) l = rw (suc-suc number i) (at-set f d ys i x number (omega arith))

pub table-set : {X Y : Type 0} (f : X → Y) (d : Y) (xs : List X) (i : ℕ) (x : X) → i < length xs
    → at f d (set xs i x) ≡ put (at f d xs) i (f x)
unfolding put
table-set f d xs i x l = fun_ext (λ k. at-set f d xs i x k l)

-- the value itself
pub at-item : {X Y : Type 0} (f : X → Y) (d : Y) (xs : List X) (i : ℕ) (x : X) → i < length xs → x ≡ get_or xs i x
    → at f d xs i ≡ f x
at-item f d [] i x l e = absurd (omega arith)
at-item f d (y ∷ ys) zero x l e = ap f (sym e)
at-item f d (y ∷ ys) (suc i) x l e = at-item f d ys i x (omega arith) e

pub at-past : {X Y : Type 0} (f : X → Y) (d : Y) (xs : List X) (i : ℕ) → length xs ≤ i → at f d xs i ≡ d
at-past f d [] i l = refl
at-past f d (y ∷ ys) zero l = absurd (omega arith)
at-past f d (y ∷ ys) (suc i) l = at-past f d ys i (omega arith)

-- the same value again
pub put-same : {X : Type 0} (f : ℕ → X) (number : ℕ) (x : X) → x ≡ f number → put f number x ≡ f
unfolding put
put-same f number x e = fun_ext (λ j. same-at f number x j e)
  where
    same-at : {X : Type 0} (f : ℕ → X) (number : ℕ) (x : X) (j : ℕ) → x ≡ f number → cond (eqb j number) x (f j) ≡ f j
    same-at f number x j e = grind (arith, nat_tests)

-- the value that was put
pub put_at : {X : Type 0} (f : ℕ → X) (number : ℕ) (x : X) → put f number x number ≡ x
unfolding put
put_at f k x = grind (arith, nat_tests)

-- the other values
pub put_other : {X : Type 0} (f : ℕ → X) (number : ℕ) (x : X) (j : ℕ) → j ≢ number → put f number x j ≡ f j
unfolding put
put_other f k x j n = grind (arith, nat_tests)

pub queue-set : (a b : Channels) (c : ℕ) (q : Queue) → b.queues.items ≡ set a.queues.items c q → c < vec_len a.queues
    → queue b ≡ put (queue a) c (items_of q)
unfolding queue
queue-set a b c q e l =
    let lt : c < length a.queues.items = omega (arith, a.queues.ok.0) in
    ap (λ (qs : List Queue). at items_of [] qs) e ∙ table-set items_of [] a.queues.items c q lt

-- the channel whose queue was changed
pub queue-at : (a b : Channels) (c : ℕ) (q : Queue) → b.queues.items ≡ set a.queues.items c q → c < vec_len a.queues
    → queue b c ≡ items_of q
queue-at a b c q e l = ap (λ (f : ℕ → List Row). f c) (queue-set a b c q e l) ∙ put_at (queue a) c (items_of q)

pub queue-item : (a : Channels) (c : ℕ) (q : Queue) → c < vec_len a.queues → q ≡ get_or a.queues.items c q
    → queue a c ≡ items_of q
unfolding queue
queue-item a c q l e =
    let lt : c < length a.queues.items = omega (arith, a.queues.ok.0) in
    at-item items_of [] a.queues.items c q lt e

pub queue-past : (a : Channels) (c : ℕ) → vec_len a.queues ≤ c → queue a c ≡ []
unfolding queue
queue-past a c l =
    let le : length a.queues.items ≤ c = omega (arith, a.queues.ok.0) in
    at-past items_of [] a.queues.items c le

pub queue-empty : (a : Channels) → ((number : ℕ) → at {Y = List Row} items_of [] a.queues.items number ≡ [])
    → queue a ≡ λ c. []
unfolding queue
queue-empty a h = fun_ext h

-- one more value that is the default
pub at-more : {X Y : Type 0} (f : X → Y) (d : Y) (xs : List X) (x : X) → f x ≡ d → ((number : ℕ) → at f d xs number ≡ d)
    → (number : ℕ)
    → at f d (xs ++ x ∷ []) number ≡ d
at-more f d [] x e h zero = e
at-more f d [] x e h (suc number) = refl
at-more f d (y ∷ ys) x e h zero = h zero
at-more f d (y ∷ ys) x e h (suc number) = at-more f d ys x e (λ j. h (suc j)) number

-- ROOM

pub room-set : (a b : Channels) (c : ℕ) (q : Queue) → b.queues.items ≡ set a.queues.items c q → c < vec_len a.queues
    → room b ≡ put (room a) c (room_of q)
unfolding room
room-set a b c q e l =
    let lt : c < length a.queues.items = omega (arith, a.queues.ok.0) in
    ap (λ (qs : List Queue). at room_of 0 qs) e
    ∙ table-set room_of 0 a.queues.items c q lt

pub room-item : (a : Channels) (c : ℕ) (q : Queue) → c < vec_len a.queues → q ≡ get_or a.queues.items c q
    → room a c ≡ room_of q
unfolding room
room-item a c q l e =
    let lt : c < length a.queues.items = omega (arith, a.queues.ok.0) in
    at-item room_of 0 a.queues.items c q lt e

at-some : {X : Type 0} (f : X → ℕ) (xs : List X) (i : ℕ) → 1 ≤ at f 0 xs i → i < length xs
at-some f [] i h = absurd (omega (arith, h))
at-some f (x ∷ xs) zero h = omega arith
at-some f (x ∷ xs) (suc i) h = let l : i < length xs = at-some f xs i h in omega arith

-- a channel that has room is there
pub room-there : (a : Channels) (c : ℕ) → 1 ≤ room a c → c < vec_len a.queues
unfolding room
room-there a c h =
    let l : c < length a.queues.items = at-some room_of a.queues.items c h in
    omega (arith, a.queues.ok.0)

-- one number changed in a table of numbers by at most n
put-le : (f : ℕ → ℕ) (number v n : ℕ) → f number ≤ v + n → (j : ℕ) → f j ≤ put f number v j + n
unfolding put
put-le f number v n l j = near (eqb j number) (λ e. ap f (same j number e))
  where
    same : (j number : ℕ) → eqb j number ≡ true → j ≡ number
    same j number e = grind (arith, nat_tests)

    near : (b : Bool) → (b ≡ true → f j ≡ f number) → f j ≤ cond b v (f j) + n
    near true e = let is : f j ≡ f number = e refl in omega arith
    near false e = omega arith

-- the room of a channel whose queue was changed
pub room-at : (a b : Channels) (c : ℕ) (q : Queue) → b.queues.items ≡ set a.queues.items c q → c < vec_len a.queues
    → room b c ≡ room_of q
room-at a b c q e l = ap (λ (f : ℕ → ℕ). f c) (room-set a b c q e l) ∙ put_at (room a) c (room_of q)

-- a channel whose queue has lost at most n of its room
pub room-changed : (a b : Channels) (c : ℕ) (q : Queue) (n : ℕ) → b.queues.items ≡ set a.queues.items c q → c < vec_len a.queues
    → room a c ≤ room_of q + n → (j : ℕ) → room a j ≤ room b j + n
room-changed a b c q n e l le j =
    subst (λ (f : ℕ → ℕ). room a j ≤ f j + n) (sym (room-set a b c q e l))
    (put-le (room a) c (room_of q) n le j)

-- a channel whose queue has lost none of its room
pub room-kept : (a b : Channels) (c : ℕ) (q : Queue) → b.queues.items ≡ set a.queues.items c q → c < vec_len a.queues
    → room a c ≤ room_of q → (j : ℕ) → room a j ≤ room b j
room-kept a b c q e l le j = let same : room a j ≤ room b j + 0 = room-changed a b c q 0 e l (omega arith) j in omega arith

-- a channel whose queue was given room
pub room-made : {E : Type 0} (a b : Channels) (c : ℕ) (q : Queue) (more : ℕ) (r : Result ⊤ E)
    → b.queues.items ≡ set a.queues.items c q
    → c < vec_len a.queues → OnOk r (more ≤ room_of q) → OnOk r (more ≤ room b c)
room-made a b c q more (Ok _) e l h = let is : room b c ≡ room_of q = room-at a b c q e l in omega arith
room-made a b c q more (Err _) e l h = h

-- WITHIN A CONFIGURATION

cond-within : (k : Shape) (b : Bool) (xs ys : List Row) → EachWithin k xs → EachWithin k ys → EachWithin k (cond b xs ys)
cond-within k true xs ys p q = p
cond-within k false xs ys p q = q

pub within-set : (k : Shape) (xs : List Queue) (c : ℕ) (q : Queue) → c < length xs → AreWithin k (queues_of xs)
    → EachWithin k (items_of q)
    → AreWithin k (queues_of (set xs c q))
within-set k xs c q l h p j =
    subst (EachWithin k) (sym (at-set items_of [] xs c q j l)) (cond-within k (eqb j c) (items_of q) (queues_of xs j) p (h j))

pub within-item : (k : Shape) (xs : List Queue) (c : ℕ) (q : Queue) → c < length xs → q ≡ get_or xs c q
    → AreWithin k (queues_of xs)
    → EachWithin k (items_of q)
within-item k xs c q l e h = subst (EachWithin k) (at-item items_of [] xs c q l e) (h c)

pub within-append : (k : Shape) (xs : List Row) (m : Row) → EachWithin k xs → IsWithin k m → EachWithin k (xs ++ m ∷ [])
within-append k [] m h p = (p, tt)
within-append k (x ∷ xs) m h p = (h.0, within-append k xs m h.1 p)

pub within-rest : (k : Shape) (xs : List Row) → EachWithin k xs → EachWithin k (drop 1 xs)
within-rest k [] h = tt
within-rest k (x ∷ xs) h = h.1

pub within-first : (k : Shape) (xs : List Row) (r : Option (Bor Row)) → option_copied r ≡ slice_get xs 0 → EachWithin k xs
    → IfSome r (λ b. IsWithin k b.now)
within-first k xs None h p = tt
within-first k [] (Some b) h p = absurd (cc)
within-first k (x ∷ xs) (Some b) h p = let same : b.now ≡ x = cc in subst (IsWithin k) (sym same) p.0

pub within-empty : (k : Shape) (channel : ℕ → List Row) → ((c : ℕ) → channel c ≡ []) → AreWithin k channel
within-empty k channel h c = subst (EachWithin k) (sym (h c)) tt

-- a message of those that the engine sends
pub outward-at : (k : Shape) (xs : List Row) (i : ℕ) (m : Row) → All (IsOutward k) xs → i < length xs → m ≡ get_or xs i m
    → IsWithin k m
outward-at k xs i m h l e = subst (IsWithin k) (sym e) (h i m l).within
