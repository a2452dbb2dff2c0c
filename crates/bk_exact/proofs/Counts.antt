-- How many invalidations an `inv` sends: one to each cache of the machine's list.
use Rattle.std.proofs.Common.{◌≡◌, ◌≢◌, ℕ, zero, suc, ◌+◌, ◌<◌, ◌≤◌, Bool, true, false, cond, eqb, ltb, refl, ◌∙◌, arith, List, [], ◌∷◌, length, length-append}
use Rattle.std.specs.Prelude.{if◌then◌else◌}
use Rattle.std.proofs.lemmas.Bool.Decides.{nat_tests}
use Rattle.bk_base.specs.Counting.{join_below}
use Rattle.bk_base.specs.Places.{block_start}
use Rattle.bk_msg.specs.declared.row.Row.TheVariants as rows
use Rattle.bk_msg.specs.declared.row.TheConstants.{ENGINE}
use Rattle.bk_dir.specs.declared.entry.Summary.{Summary}
use Rattle.bk_engine.specs.declared.parts.Held.{Held}
use Rattle.bk_engine.specs.Sends.{is_invalidated, inv_to}
use Rattle.bk_machine.specs.Entries.{times}

-- how often the numbers below n stand in a list, all together
abbrev total : ℕ → List ℕ → ℕ
total zero xs = 0
total (suc n) xs = total n xs + times n xs

-- none stands in the empty list
total-none : (n : ℕ) → total n [] ≡ 0
total-none zero = refl
total-none (suc n) = let e = total-none n in omega (arith, e)

-- one more number counts where it is below n
total-cons : (n number : ℕ) (xs : List ℕ) → total n (number ∷ xs) ≡ cond (ltb number n) 1 0 + total n xs
total-cons zero number xs = grind (arith, nat_tests)
total-cons (suc n) number xs = lem (total n (number ∷ xs)) (total n xs) (times n xs) (total-cons n number xs)
  where
    lem : (a b c : ℕ) → a ≡ cond (ltb number n) 1 0 + b → a + (cond (eqb n number) 1 0 + c)
        ≡ cond (ltb number (suc n)) 1 0 + (b + c)
    lem a b c e = grind (arith, nat_tests)

-- a list of numbers below n
pub total-length : (n : ℕ) (xs : List ℕ) → ((c : ℕ) → times c xs ≢ 0 → c < n) → total n xs ≡ length xs
total-length n [] h = total-none n
total-length n (x ∷ xs) h =
    total-cons n x xs
    ∙ lem (total n xs) (length xs) (total-length n xs (λ c q. h c (λ z. q (more (cond (eqb c x) 1 0) (times c xs) z))))
    (h x (first (times x xs)))
  where
    more : (a b : ℕ) → a + b ≡ 0 → b ≡ 0
    more a b z = omega (arith, z)

    first : (b : ℕ) → cond (eqb x x) 1 0 + b ≢ 0
    first b z = grind (arith, nat_tests)

    lem : (a b : ℕ) → a ≡ b → x < n → cond (ltb x n) 1 0 + a ≡ suc b
    lem a b e l = grind (arith, nat_tests)

-- of each number, which stands in the list once at most, as many messages are sent
pub invs-length : (n : ℕ) (h : Held) (f : Bool) (summary : Summary) (to : List ℕ)
    → ((c : ℕ) → c < n → is_invalidated f summary c ≡ eqb (times c to) 1)
    → ((c : ℕ) → times c to ≤ 1)
    → length (join_below n (inv_to h f summary)) ≡ total n to
invs-length zero h f summary to i o = refl
invs-length (suc n) h f summary to i o =
    length-append (join_below n (inv_to h f summary)) (inv_to h f summary n)
    ∙ both _ _ _ _ (invs-length n h f summary to (λ c l. i c (up c l)) o) (sent (is_invalidated f summary n) (i n (last n)) (o n))
  where
    up : (c : ℕ) → c < n → c < suc n
    up c l = omega (arith, l)

    last : (n : ℕ) → n < suc n
    last n = omega arith

    both : (a b c d : ℕ) → a ≡ c → b ≡ d → a + b ≡ c + d
    both a b c d p q = omega (arith, p, q)

    sent : (b : Bool) → b ≡ eqb (times n to) 1 → times n to ≤ 1
        → length (if b then rows.Inv ENGINE n (block_start h.addr) ∷ [] else []) ≡ times n to
    sent true j l = lem (times n to) j
      where
        lem : (t : ℕ) → true ≡ eqb t 1 → 1 ≡ t
        lem t j = grind (arith, nat_tests)
    sent false j l = grind (arith, nat_tests)
