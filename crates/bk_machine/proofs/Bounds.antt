-- How much is under way for one operation.
use Rattle.std.proofs.Common.{◌≡◌, ℕ, zero, suc, ◌+◌, ◌<◌, ◌≤◌, ◌≢◌, Bool, true, false, refl, arith, List, [], ◌∷◌, ◌++◌, length, sym, ◌∙◌, subst}
use Rattle.std.specs.Prelude.{Option, Some, if◌then◌else◌, ◌==◌, nat_lt}
use Rattle.std.proofs.lemmas.Bool.Decides.{nat_tests}
use Rattle.bk_base.specs.Places.{Shape}
use Rattle.bk_machine.specs.Entries.{times}
use Rattle.bk_machine.specs.Messages.{Request, ToCache, FillMessage, Response, op_tag}
use Rattle.bk_machine.specs.Transactions.{InProgress, Transaction, paid_directory}
use Rattle.bk_machine.specs.World.{World, option_of_group, view}
use Rattle.bk_machine.specs.Phases.{Flush, Ack, NoInv, Flight, Phase, Free, Open, Flying, Settling, flush_command, inv_command, flight_command, commands_of, flight_fill, fills_of, flush_response, inv_response, responses_of, is_taken, requests_of}
use Rattle.bk_machine.specs.Copies.{Standing, Invalidating}
use Rattle.bk_machine.specs.Values.{is_reading}
use Rattle.bk_machine.specs.Invariant.{Taker, acks_due, Invariant, WayInRange}
use Rattle.bk_machine.specs.Readings.{UnderWay}
use Rattle.bk_machine.proofs.Foreign.{option_of_group-back}
use Rattle.bk_machine.proofs.Opened.{AtOpen, opened, record_of}

-- the channels of a group at a phase

commands-two : (p : Phase) (c : ℕ) → length (commands_of p c) ≤ 2
commands-two Free c = omega arith
commands-two (Open r b fl inv) c = lem fl (inv c)
  where
    lem : (fl : Flush) (a : Ack) → length (flush_command fl c ++ inv_command (op_tag b.op) a) ≤ 2
    lem fl a = grind (arith, nat_tests)
commands-two (Flying r b f) c = lem f
  where
    lem : (f : Flight) → length (flight_command f r b c) ≤ 2
    lem f = grind (arith, nat_tests)
commands-two (Settling r t) c = omega arith

responses-two : (p : Phase) (c : ℕ) → length (responses_of p c) ≤ 2
responses-two Free c = omega arith
responses-two (Open r b fl inv) c = lem fl (inv c)
  where
    lem : (fl : Flush) (a : Ack) → length (flush_response fl c ++ inv_response (op_tag b.op) a) ≤ 2
    lem fl a = grind (arith, nat_tests)
responses-two (Flying r b f) c = omega arith
responses-two (Settling r t) c = grind (arith, nat_tests)

fills-one : (p : Phase) (c o : ℕ) → length (fills_of p c o) ≤ 1
fills-one Free c o = omega arith
fills-one (Open r b fl inv) c o = omega arith
fills-one (Flying r b f) c o = lem f
  where
    lem : (f : Flight) → length (flight_fill f r b c o) ≤ 1
    lem f = grind (arith, nat_tests)
fills-one (Settling r t) c o = omega arith

requests-one : (taken : Bool) (o : Option InProgress) → length (requests_of taken o) ≤ 1
requests-one taken o = grind arith

one-if : (b : Bool) → (if b then 1 else 0) ≤ 1
one-if true = omega arith
one-if false = omega arith

-- A list of numbers below n, each in it once at most, and not r, is shorter than n.

-- how many times the numbers below n stand in a list
abbrev pub counted : ℕ → List ℕ → ℕ
counted zero xs = 0
counted (suc n) xs = counted n xs + times n xs

counted-none : (n : ℕ) → counted n [] ≡ 0
counted-none zero = refl
counted-none (suc n) = lem (counted n []) (counted-none n)
  where
    lem : (a : ℕ) → a ≡ 0 → a + 0 ≡ 0
    lem a e = omega arith

counted-more : (n number : ℕ) (xs : List ℕ) → counted n (number ∷ xs) ≡ (if nat_lt number n then 1 else 0) + counted n xs
counted-more zero number xs = grind (arith, nat_tests)
counted-more (suc n) number xs = lem (counted n (number ∷ xs)) (counted n xs) (times n xs) (counted-more n number xs)
  where
    lem : (a b d : ℕ) → a ≡ (if nat_lt number n then 1 else 0) + b
        → a + ((if n == number then 1 else 0) + d) ≡ (if nat_lt number (suc n) then 1 else 0) + (b + d)
    lem a b d e = grind (arith, nat_tests)

pub length-counted : (n : ℕ) (xs : List ℕ) → ((c : ℕ) → times c xs ≢ 0 → c < n) → length xs ≡ counted n xs
length-counted n [] f = sym (counted-none n)
length-counted n (x ∷ xs) f = here (length-counted n xs (λ c number. f c (λ e. number (last (if c == x then 1 else 0) (times c xs) e))))
    ∙ sym (counted-more n x xs)
  where
    last : (a b : ℕ) → a + b ≡ 0 → b ≡ 0
    last a b e = omega arith

    stands : (if x == x then 1 else 0) + times x xs ≢ 0
    stands e = lem (times x xs) e
      where
        lem : (number : ℕ) → (if x == x then 1 else 0) + number ≡ 0 → ⊥
        lem number e = grind (arith, nat_tests)

    here : length xs ≡ counted n xs → suc (length xs) ≡ (if nat_lt x n then 1 else 0) + counted n xs
    here e = lem (counted n xs) (length xs) e (f x stands)
      where
        lem : (a b : ℕ) → b ≡ a → x < n → suc b ≡ (if nat_lt x n then 1 else 0) + a
        lem a b e l = grind (arith, nat_tests)

counted-few : (n r : ℕ) (xs : List ℕ) → ((c : ℕ) → times c xs ≤ 1) → times r xs ≡ 0
    → counted n xs + (if nat_lt r n then 1 else 0) ≤ n
counted-few zero r xs f z = grind (arith, nat_tests)
counted-few (suc n) r xs f z =
    lem (counted n xs) (times n xs) (λ e. subst (λ (i : ℕ). times i xs ≡ 0) e z) (f n) (counted-few n r xs f z)
  where
    lem : (a b : ℕ) → (r ≡ n → b ≡ 0) → b ≤ 1 → a + (if nat_lt r n then 1 else 0) ≤ n
        → (a + b) + (if nat_lt r (suc n) then 1 else 0) ≤ suc n
    lem a b g h l = grind (arith, nat_tests)

few : (n r : ℕ) (xs : List ℕ) → ((c : ℕ) → times c xs ≤ 1) → times r xs ≡ 0 → r < n
    → ((c : ℕ) → times c xs ≢ 0 → c < n) → length xs < n
few n r xs f z l g = lem (length xs) (counted n xs) (length-counted n xs g) (counted-few n r xs f z)
  where
    lem : (a b : ℕ) → a ≡ b → b + (if nat_lt r n then 1 else 0) ≤ n → a < n
    lem a b e h = grind (arith, nat_tests)

acks_due-one : (a : Ack) (n : ℕ) → n ≡ acks_due a → n ≤ 1
acks_due-one a n e = grind arith

acks_due-none : (a : Ack) (n : ℕ) → n ≡ acks_due a → a ≡ NoInv → n ≡ 0
acks_due-none a n e f = grind arith

module _ (k : Shape) (world : World) (inv : Invariant k world) (group : ℕ) (x : Transaction) (is : world.transaction ≡ Some (group, x))
    (g : x.granted ≡ false) where
  at : AtOpen (inv.groups group).0 x
  at = opened k world inv group x is g

  invalidating : Invalidating at.cache (op_tag at.busy.op) at.flush at.acks
      (paid_directory (view group world).transaction (world.directory group)) (world.entries group)
  invalidating = (subst
      (λ (p : Phase). Standing p (paid_directory (view group world).transaction (world.directory group)) (world.entries group)) at.is
      (inv.groups group).1.copies.standing).1

  requester-range : WayInRange k at.cache at.busy.way
  requester-range =
      inv.ranges.busy at.cache (
        group,
        at.busy,
      ) (option_of_group-back group (world.busy at.cache) at.busy
      (subst (λ (p : Phase). Taker p (view group world).busy) at.is (inv.groups group).1.taker))

  pub waits-once : (c : ℕ) → times c x.waiting ≤ 1
  waits-once c = acks_due-one (at.acks c) (times c x.waiting) (at.at.acks c)

  pub waits-few : length x.waiting < k.caches
  waits-few = few k.caches at.cache x.waiting waits-once
      (acks_due-none (at.acks at.cache) (times at.cache x.waiting) (at.at.acks at.cache) invalidating.not_own) requester-range.cache
      (record_of k world inv group x is).from

pub under_way : (k : Shape) (world : World) → Invariant k world → UnderWay k world
under_way k world inv = record {
  requests =
      λ s c. subst (λ (xs : List Request). length xs ≤ 1) (sym ((inv.groups s).1.requests c))
      (requests-one (is_taken (inv.groups s).0 c) (option_of_group s (world.busy c)));
  commands = λ s c. subst (λ (xs : List ToCache). length xs ≤ 2) (sym ((inv.groups s).1.commands c)) (commands-two (inv.groups s).0 c);
  fills = λ s c o. subst (λ (xs : List FillMessage). length xs ≤ 1) (sym ((inv.groups s).1.fills c o)) (fills-one (inv.groups s).0 c o);
  responses = λ s c. subst (λ (xs : List Response). length xs ≤ 2) (sym ((inv.groups s).1.responses c))
      (responses-two (inv.groups s).0 c);
  memory_reads = λ s. subst (λ (n : ℕ). n ≤ 1) (sym (inv.groups s).1.channels.count)
      (one-if (is_reading (option_of_group s world.transaction)));
  acks = λ s x is g. waits-few k world inv s x is g;
  once = λ s x is g. waits-once k world inv s x is g;
}
