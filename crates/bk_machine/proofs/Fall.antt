-- The number of acks that a transaction has had or may still have falls: see `acks_left`.
use Rattle.std.proofs.Common.{◌≡◌, ℕ, zero, suc, ◌+◌, ◌<◌, ◌≤◌, ◌≢◌, Bool, true, false, not, ◌&&◌, refl, arith, List, [], ◌∷◌, ◌++◌, length, sym, ◌∙◌, subst, ap, is_some}
use Rattle.std.specs.Prelude.{Option, Some, None, if◌then◌else◌, ◌==◌, nat_lt}
use Rattle.std.proofs.lemmas.Bool.Decides.{nat_tests}
use Rattle.bk_base.specs.Places.{Shape}
use Rattle.bk_base.specs.declared.coh.Coh.{Coh}
use Rattle.bk_base.specs.States.{is_readable}
use Rattle.bk_machine.specs.Tables.{put2}
use Rattle.bk_machine.specs.Entries.{Entry, Holds, times, wiped_entry, wiped_in_caches, with_state}
use Rattle.bk_machine.specs.Directory.{found_way, passing_below}
use Rattle.bk_machine.specs.Messages.{Response, InvAck, request_tag}
use Rattle.bk_machine.specs.Transactions.{Transaction, remove_one}
use Rattle.bk_machine.specs.World.{World}
use Rattle.bk_machine.specs.Actions.{Permitted, Invalidates, owner_for, others_for, invalidation_targets}
use Rattle.bk_machine.specs.Invariant.{Invariant}
use Rattle.bk_machine.specs.Claims.{Collectable}
use Rattle.bk_machine.specs.Readings.{holders, acks_left, AcksFall}
use Rattle.bk_machine.proofs.Summary.{found, not_found}
use Rattle.bk_machine.proofs.DirectoryReads.{Readable, Recipients, recipients}
use Rattle.bk_machine.proofs.Opened.{readable}
use Rattle.bk_machine.proofs.Collectable.{collectable}
use Rattle.bk_machine.proofs.Bounds.{counted, length-counted}

-- numbers that pass a test, and a list of numbers that pass another, are no more than those that pass the weaker one
passing-fewer : (n : ℕ) (p q : ℕ → Bool) (to : List ℕ)
    → ((c : ℕ) → (if q c then 1 else 0) + times c to ≤ (if p c then 1 else 0))
    → length (passing_below n q) + counted n to ≤ length (passing_below n p)
passing-fewer zero p q to f = omega arith
passing-fewer (suc n) p q to f = lem (q n) (p n) (f n) (passing-fewer n p q to f)
  where
    lem : (b y : Bool) → (if b then 1 else 0) + times n to ≤ (if y then 1 else 0)
        → length (passing_below n q) + counted n to ≤ length (passing_below n p)
        → length (if b then n ∷ passing_below n q else passing_below n q) + (counted n to + times n to)
        ≤ length (if y then n ∷ passing_below n p else passing_below n p)
    lem true true e g = omega arith
    lem true false e g = omega arith
    lem false true e g = omega arith
    lem false false e g = omega arith

length-append : (xs ys : List ℕ) → length (xs ++ ys) ≡ length xs + length ys
length-append [] ys = omega arith
length-append (x ∷ xs) ys = lem (length (xs ++ ys)) (length xs) (length ys) (length-append xs ys)
  where
    lem : (a b c : ℕ) → a ≡ b + c → suc a ≡ suc b + c
    lem a b c e = omega arith

-- where each entry held after is held before, a cache that has the tag after has it before
less : (ways : ℕ) (h k : ℕ → Entry) (t : ℕ) → ((w : ℕ) → w < ways → Holds (k w) t → Holds (h w) t)
    → is_some (found_way ways k t) ≡ true
    → is_some (found_way ways h t) ≡ true
less ways h k t f e = lem (found_way ways k t) (found_way ways h t) refl refl e
  where
    lem : (o q : Option ℕ) → found_way ways k t ≡ o → found_way ways h t ≡ q → is_some o ≡ true → is_some q ≡ true
    lem (Some w) (Some u) a b e = refl
    lem (Some w) None a b e = absurd (not_found ways h t b w (found ways k t w a).0 (f w (found ways k t w a).0 (found ways k t w a).1))
    lem None q a b e = absurd (cc e)

gone : (ways : ℕ) (k : ℕ → Entry) (t : ℕ) → ((w : ℕ) → Holds (k w) t → ⊥) → is_some (found_way ways k t) ≡ false
gone ways k t f = lem (found_way ways k t) refl
  where
    lem : (o : Option ℕ) → found_way ways k t ≡ o → is_some o ≡ false
    lem None a = refl
    lem (Some w) a = absurd (f w (found ways k t w a).1)

there : (ways : ℕ) (k : ℕ → Entry) (t w : ℕ) → w < ways → Holds (k w) t → is_some (found_way ways k t) ≡ true
there ways k t w l h = lem (found_way ways k t) refl
  where
    lem : (o : Option ℕ) → found_way ways k t ≡ o → is_some o ≡ true
    lem None a = absurd (not_found ways k t a w l h)
    lem (Some u) a = refl

wiped-none : (t : ℕ) (h : Entry) → Holds (wiped_entry t h) t → ⊥
wiped-none t h k = lem k.is_valid k.is_tag
  where
    lem : is_readable (wiped_entry t h).state ≡ true → (wiped_entry t h).tag ≡ t → ⊥
    lem a b = grind (arith, nat_tests)

-- an invalidation takes as many holders as it is sent to
invalidation-falls : (k : Shape) (d : ℕ → ℕ → Entry) (r t : ℕ) (to : List ℕ) → times r to ≡ 0
    → ((c : ℕ) → times c to ≤ 1)
    → ((c : ℕ) → times c to ≡ 1 → (c < k.caches) × ((w : ℕ) × (w < k.ways) × Holds (d c w) t))
    → holders k (wiped_in_caches to t d) r t + length to ≤ holders k d r t
invalidation-falls k d r t to none once has-it =
    subst (λ (number : ℕ). holders k (wiped_in_caches to t d) r t + number ≤ holders k d r t)
    (sym (length-counted k.caches to (λ c n. (has-it c (one (times c to) (once c) n)).0)))
    (passing-fewer k.caches _ _ to each)
  where
    one : (number : ℕ) → number ≤ 1 → number ≢ 0 → number ≡ 1
    one number l n = omega arith

    each : (c : ℕ) → (if not (c == r) && is_some (found_way k.ways (wiped_in_caches to t d c) t) then 1 else 0) + times c to
        ≤ (if not (c == r) && is_some (found_way k.ways (d c) t) then 1 else 0)
    each c = decide (times c to == 1) refl
      where
        is1 : (times c to == 1) ≡ true → times c to ≡ 1
        is1 q = grind (arith, nat_tests)

        is0 : (times c to == 1) ≡ false → times c to ≤ 1 → times c to ≡ 0
        is0 q l = grind (arith, nat_tests)

        other : times c to ≡ 1 → (c == r) ≡ false
        other q = apart (c == r) refl
          where
            is : (c == r) ≡ true → r ≡ c
            is e = grind (arith, nat_tests)

            clash : times c to ≡ 1 → times c to ≡ 0 → ⊥
            clash a b = grind arith

            apart : (b : Bool) → (c == r) ≡ b → b ≡ false
            apart true e = absurd (clash q (subst (λ (i : ℕ). times i to ≡ 0) (is e) none))
            apart false e = refl

        sent : (test y z : Bool) (number : ℕ) → test ≡ false → y ≡ false → z ≡ true → number ≡ 1
            → (if not test && y then 1 else 0) + number ≤ (if not test && z then 1 else 0)
        sent test y z number a b e f = grind arith

        same : (test : Bool) (number : ℕ) → number ≡ 0 → (if test then 1 else 0) + number ≤ (if test then 1 else 0)
        same test number e = grind arith

        wiped-here : times c to ≡ 1
            → is_some (found_way k.ways (λ w. if times c to == 1 then wiped_entry t (d c w) else d c w) t) ≡ false
        wiped-here q = gone k.ways _ t
            (λ w h. wiped-none t (d c w)
            (subst (λ (b : Bool). Holds (if b then wiped_entry t (d c w) else d c w) t) (is-true (times c to) q) h))
          where
            is-true : (number : ℕ) → number ≡ 1 → (number == 1) ≡ true
            is-true number q = grind (arith, nat_tests)

        decide : (b : Bool) → (times c to == 1) ≡ b
            → (if not (c == r) && is_some (found_way k.ways (wiped_in_caches to t d c) t) then 1 else 0) + times c to
            ≤ (if not (c == r) && is_some (found_way k.ways (d c) t) then 1 else 0)
        decide true q =
            let h = has-it c (is1 q) in
            sent (c == r) _ _ (times c to) (other (is1 q)) (wiped-here (is1 q)) (there k.ways (d c) t h.1.0 h.1.1 h.1.2) (is1 q)
        decide false q = subst
            (λ (b : Bool). (if not (c == r) && is_some (found_way k.ways (λ w. if b then wiped_entry t (d c w) else d c w) t)
            then 1 else 0)
            + times c to ≤ (if not (c == r) && is_some (found_way k.ways (d c) t) then 1 else 0))
            (sym q) (same (not (c == r) && is_some (found_way k.ways (d c) t)) (times c to) (is0 q (once c)))

put2-kept : (d : ℕ → ℕ → Entry) (o w : ℕ) (y : Coh) (u : ℕ) → Holds (d o w) u → (c i t : ℕ)
    → Holds (put2 d o w (with_state (d o w) y) c i) t → Holds (d c i) t
unfolding put2
put2-kept d o v y u h c i t k = lem h.is_valid
  where
    lem : is_readable (d o v).state ≡ true → Holds (d c i) t
    lem a = grind (arith, nat_tests)

few-holders : (n r : ℕ) (p : ℕ → Bool) → length (passing_below n (λ c. not (c == r) && p c)) + (if nat_lt r n then 1 else 0) ≤ n
few-holders zero r p = grind (arith, nat_tests)
few-holders (suc n) r p = lem (p n) (length (passing_below n (λ c. not (c == r) && p c))) refl (few-holders n r p)
  where
    size : (b : Bool)
        → length (if b then n ∷ passing_below n (λ c. not (c == r) && p c) else passing_below n (λ c. not (c == r) && p c))
        ≡ (if b then 1 else 0) + length (passing_below n (λ c. not (c == r) && p c))
    size true = omega arith
    size false = omega arith

    num : (y : Bool) (number : ℕ) → number + (if nat_lt r n then 1 else 0) ≤ n
        → (if not (n == r) && y then 1 else 0) + number + (if nat_lt r (suc n) then 1 else 0) ≤ suc n
    num y number a = grind (arith, nat_tests)

    lem : (y : Bool) (number : ℕ) → length (passing_below n (λ c. not (c == r) && p c)) ≡ number
        → length (passing_below n (λ c. not (c == r) && p c)) + (if nat_lt r n then 1 else 0) ≤ n
        → length (if not (n == r) && y then n ∷ passing_below n (λ c. not (c == r) && p c)
        else passing_below n (λ c. not (c == r) && p c))
        + (if nat_lt r (suc n) then 1 else 0) ≤ suc n
    lem y number e a =
        subst (λ (i : ℕ). i + (if nat_lt r (suc n) then 1 else 0) ≤ suc n) (sym (size (not (n == r) && y)))
        (num y (length (passing_below n (λ c. not (c == r) && p c))) a)

-- a flush of a valid entry adds no holder
flush-falls : (k : Shape) (d : ℕ → ℕ → Entry) (r t o w u : ℕ) (y : Coh) → Holds (d o w) u
    → holders k (put2 d o w (with_state (d o w) y)) r t ≤ holders k d r t
flush-falls k d r t o w u y h = plain (holders k (put2 d o w (with_state (d o w) y)) r t) (holders k d r t) (counted k.caches [])
    (passing-fewer k.caches _ _ []
    (λ c. each (not (c == r)) _ _ (less k.ways (d c) (put2 d o w (with_state (d o w) y) c) t (λ i l. kept c i))))
  where
    plain : (a b n : ℕ) → a + n ≤ b → a ≤ b
    plain a b n l = omega arith

    each : (test a b : Bool) → (a ≡ true → b ≡ true) → (if test && a then 1 else 0) + 0 ≤ (if test && b then 1 else 0)
    each test a b f = grind arith

    kept : (c i : ℕ) → Holds (put2 d o w (with_state (d o w) y) c i) t → Holds (d c i) t
    kept c i k = put2-kept d o w y u h c i t k

-- an ack that is in is one fewer to come
collect-falls : (c : ℕ) (xs : List ℕ) → times c xs ≡ 1 → length (remove_one c xs) + 1 ≡ length xs
collect-falls c [] e = absurd (none e)
  where
    none : ◌≡◌ {A = ℕ} 0 1 → ⊥
    none e = grind arith
collect-falls c (x ∷ xs) e = decide (c == x) refl (collect-falls c xs)
  where
    later : (c == x) ≡ false → times c xs ≡ 1
    later q = lem (times c xs) (subst (λ (b : Bool). (if b then 1 else 0) + times c xs ≡ 1) q e)
      where
        lem : (number : ℕ) → 0 + number ≡ 1 → number ≡ 1
        lem number e = omega arith

    more : (number n : ℕ) → number + 1 ≡ n → suc number + 1 ≡ suc n
    more number n e = omega arith

    first : (n : ℕ) → n + 1 ≡ suc n
    first n = omega arith

    decide : (b : Bool) → (c == x) ≡ b → (times c xs ≡ 1 → length (remove_one c xs) + 1 ≡ length xs)
        → length (if b then xs else x ∷ remove_one c xs) + 1 ≡ suc (length xs)
    decide true q f = first (length xs)
    decide false q f = more (length (remove_one c xs)) (length xs) (f (later q))

-- at first there are fewer holders than caches
first-holders : (k : Shape) (d : ℕ → ℕ → Entry) (r t : ℕ) → r < k.caches → holders k d r t < k.caches
first-holders k d r t l = count k.caches l
  where
    count : (n : ℕ) → r < n → length (passing_below n (λ c. not (c == r) && is_some (found_way k.ways (d c) t))) < n
    count n l = lem n (few n) l
      where
        lem : (n : ℕ) → length (passing_below n (λ c. not (c == r) && is_some (found_way k.ways (d c) t)))
            + (if nat_lt r n then 1 else 0) ≤ n → r < n
            → length (passing_below n (λ c. not (c == r) && is_some (found_way k.ways (d c) t))) < n
        lem n a l = num (length (passing_below n (λ c. not (c == r) && is_some (found_way k.ways (d c) t)))) a
          where
            num : (number : ℕ) → number + (if nat_lt r n then 1 else 0) ≤ n → number < n
            num number a = grind (arith, nat_tests)

        few : (n : ℕ) → length (passing_below n (λ c. not (c == r) && is_some (found_way k.ways (d c) t)))
            + (if nat_lt r n then 1 else 0) ≤ n
        few n = few-holders n r (λ c. is_some (found_way k.ways (d c) t))

module _ (k : Shape) (world : World) (inv : Invariant k world) (g : ℕ) (x : Transaction) where
  -- Each cache that is invalidated was a holder before and isn't after: what it adds to the acks it takes from the holders.
  invalidate-step : (f : Bool) (to : List ℕ) → Permitted k g (Invalidates f to x) world
      → acks_left k (wiped_in_caches to (request_tag x.request) (world.directory g)) x.cache (request_tag x.request) (x.waiting ++ to)
      ≤ acks_left k (world.directory g) x.cache (request_tag x.request) x.waiting
  invalidate-step f to p =
      sum (invalidation-falls k (world.directory g) x.cache (request_tag x.request) to
      (at (λ (ts : List ℕ). times x.cache ts ≡ 0) r.not_own)
      (at (λ (ts : List ℕ). (c : ℕ) → times c ts ≤ 1) r.once)
      (λ c e. in-range c (at (λ (ts : List ℕ). (c : ℕ) → times c ts ≡ 1
      → (w : ℕ) × Holds (world.directory g c w) (request_tag x.request)) r.has c e)))
    where
      good : Readable k (world.directory g)
      good = readable k world inv g x p.0.is p.0.ungranted

      r : Recipients k (world.directory g) good x.cache (request_tag x.request)
          (invalidation_targets f (owner_for k (world.directory g) x) (others_for k (world.directory g) x))
      r = recipients k (world.directory g) good x.cache (request_tag x.request) f p.2

      at : (P : List ℕ → Type 0)
          → P (invalidation_targets f (owner_for k (world.directory g) x) (others_for k (world.directory g) x)) → P to
      at P q = subst (λ (ts : List ℕ). P ts) (sym p.1) q

      in-range : (c : ℕ) → (w : ℕ) × Holds (world.directory g c w) (request_tag x.request)
          → (c < k.caches) × ((w : ℕ) × (w < k.ways) × Holds (world.directory g c w) (request_tag x.request))
      in-range c h = ((good.range c h.0 (request_tag x.request) h.1).cache, (h.0, (good.range c h.0 (request_tag x.request) h.1).way, h.1))

      sum : holders k (wiped_in_caches to (request_tag x.request) (world.directory g)) x.cache (request_tag x.request) + length to
          ≤ holders k (world.directory g) x.cache (request_tag x.request)
          → acks_left k (wiped_in_caches to (request_tag x.request) (world.directory g)) x.cache (request_tag x.request) (x.waiting ++ to)
          ≤ acks_left k (world.directory g) x.cache (request_tag x.request) x.waiting
      sum l = num _ _ (length x.waiting) (length to) (length (x.waiting ++ to)) (length-append x.waiting to) l
        where
          num : (a b number n q : ℕ) → q ≡ number + n → a + n ≤ b → a + q ≤ b + number
          num a b number n q e l = omega arith

  flush-step : (o w u : ℕ) (y : Coh) → Holds (world.directory g o w) u
      → acks_left k (put2 (world.directory g) o w (with_state (world.directory g o w) y)) x.cache (request_tag x.request) x.waiting
      ≤ acks_left k (world.directory g) x.cache (request_tag x.request) x.waiting
  flush-step o w u y h = num _ _ (length x.waiting) (flush-falls k (world.directory g) x.cache (request_tag x.request) o w u y h)
    where
      num : (a b number : ℕ) → a ≤ b → a + number ≤ b + number
      num a b number l = omega arith

abbrev served : Option (ℕ × Transaction) → Transaction → Transaction
served None x = x
served (Some p) x = p.1

pub acks_fall : (k : Shape) (world : World) → Invariant k world → AcksFall k world
acks_fall k world inv = record {
  begin = λ d r t l. num (holders k d r t) (first-holders k d r t l);
  invalidate = λ g x f to p. invalidate-step k world inv g x f to p;
  flush = λ g x o v u other h. flush-step k world inv g x o v u other h;
  collect = λ g x c t rest p. collect-falls c x.waiting (waited (collectable world inv.groups) g c t x rest p.0.is p.1);
}
  where
    num : (n : ℕ) → n < k.caches → n + 0 < k.caches
    num n l = omega arith

    waited : Collectable world → (g c t : ℕ) (x : Transaction) (rest : List (ℕ × Response)) → world.transaction ≡ Some (g, x)
        → world.response c ≡ (g, InvAck t) ∷ rest
        → times c x.waiting ≡ 1
    waited q g c t x rest is e =
        subst (λ (other : Transaction). times c other.waiting ≡ 1) (same (sym (q.ack g c t rest e).is ∙ is)) (q.ack g c t rest e).so
      where
        same : {a b : Transaction} → ◌≡◌ {A = Option (ℕ × Transaction)} (Some (g, a)) (Some (g, b)) → a ≡ b
        same {a} e = ap (λ (o : Option (ℕ × Transaction)). served o a) e
