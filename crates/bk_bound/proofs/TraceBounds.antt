-- Where a list issues the operations of a trace in order, it issues no more than the trace has, and is within its budget.
use Rattle.std.proofs.Common.{◌≡◌, ◌≢◌, ℕ, zero, suc, ◌+◌, ◌*◌, ◌<◌, ◌≤◌, ◌==◌, Bool, true, false, refl, sym, ap, ◌∙◌, arith, List, [], ◌∷◌, length, None}
use Rattle.std.specs.Prelude.{if◌then◌else◌, nat_lt, ◌&&◌, IsTrue, is_some}
use Rattle.std.proofs.Math.Nat.{mul-le-mul_left}
use Rattle.std.proofs.lemmas.Bool.{ltb-true}
use Rattle.std.proofs.lemmas.Bool.Decides.{nat_tests}
use Rattle.std.proofs.lemmas.List.{length-append}
use Rattle.bk_base.specs.Places.{Shape, InProfile}
use Rattle.bk_base.specs.declared.op.Op.{Op}
use Rattle.bk_isa.specs.declared.form.Form.{Form}
use Rattle.bk_image.specs.Images.{Parts}
use Rattle.bk_check.specs.Accepted.{Accepted, IsMade}
use Rattle.bk_trace.specs.Traces.{operations_of}
use Rattle.bk_lce.specs.CacheTable as table
use Rattle.bk_system.specs.declared.event.Event.{Event}
use Rattle.bk_system.specs.declared.event.Event.TheVariants as events
use Rattle.bk_system.specs.Lawful.{AreLawful}
use Rattle.bk_system.specs.State.{State, opening}
use Rattle.bk_system.specs.Events.{cache_row}
use Rattle.bk_system.specs.Runs.{after, is_enabled, IsTight, IsTightFrom, IsInOrder, IsPrefix, issued_by}
use Rattle.bk_bound.specs.Bound.{issues, budget, IsWithinBudget, AcceptedImagesAreBounded}
use Rattle.bk_bound.proofs.EventBounds.{spare, has-few}
use Rattle.bk_bound.proofs.Sums.{sum_below, sum-none, sum-up, sum-one, sum-more}

prefix-short : (xs ys : List Op) → IsPrefix xs ys → length xs ≤ length ys
prefix-short xs ys p =
    num (length xs) (length p.0) (length ys) (sym (length-append xs p.0) ∙ ap (λ (zs : List Op). length zs) p.1)
  where
    num : (a b c : ℕ) → a + b ≡ c → a ≤ c
    num a b c e = omega (arith, e)

-- ONE OPERATION MORE, of one cache

one-longer : (b : Bool) (op : Op) (ops : List Op) → length (if b then op ∷ ops else ops) ≤ length ops + 1
one-longer true op ops = num (length ops)
  where
    num : (n : ℕ) → suc n ≤ n + 1
    num n = omega arith
one-longer false op ops = num (length ops)
  where
    num : (n : ℕ) → n ≤ n + 1
    num n = omega arith

other-cache : (c i : ℕ) (op : Op) (ops : List Op) → i ≢ c → length (if c == i then op ∷ ops else ops) ≡ length ops
other-cache c i op ops differs = go (c == i) refl
  where
    no : (c == i) ≡ true → ⊥
    no e = differs (grind (arith, nat_tests))

    go : (b : Bool) → (c == i) ≡ b → length (if b then op ∷ ops else ops) ≡ length ops
    go true e = absurd (no e)
    go false e = refl

own-cache : (c : ℕ) (op : Op) (ops : List Op) → length (if c == c then op ∷ ops else ops) ≡ suc (length ops)
own-cache c op ops = go (c == c) same
  where
    same : (c == c) ≡ true
    same = grind (arith, nat_tests)

    go : (b : Bool) → b ≡ true → length (if b then op ∷ ops else ops) ≡ suc (length ops)
    go true e = refl
    go false e = absurd (cc)

-- THE TRACE: its caches have no more lines than it

lines-all : (n : ℕ) (lines : List (ℕ × Op)) → sum_below n (λ c. length (operations_of c lines)) ≤ length lines
lines-all n [] = num (sum_below n (λ c. 0)) (sum-none n)
  where
    num : (a : ℕ) → a ≡ 0 → a ≤ 0
    num a e = omega (arith, e)
lines-all n (line ∷ lines) =
    num _ (sum_below n (λ c. length (operations_of c lines))) (length lines)
    (sum-more n line.0 1 (λ c. length (operations_of c lines))
    (λ c. length (if line.0 == c then line.1 ∷ operations_of c lines else operations_of c lines))
    (λ i e. other-cache line.0 i line.1 (operations_of i lines) e) (one-longer (line.0 == line.0) line.1 (operations_of line.0 lines)))
    (lines-all n lines)
  where
    num : (a b n : ℕ) → a ≤ b + 1 → b ≤ n → a ≤ suc n
    num a b n l q = omega (arith, l, q)

-- THE LIST: each Issue that is enabled is of a cache of the configuration

issue-cache : (k : Shape) (program : List Form) (s : State) (c way : ℕ) (op : Op)
    → IsTrue (is_enabled k program s (events.Issue c way op)) → c < k.caches
issue-cache k program s c way op t = go (nat_lt c k.caches) (nat_lt way k.ways) refl t
  where
    go : (a b : Bool) → nat_lt c k.caches ≡ a
        → IsTrue (is_some (cache_row s c (if a && b then table.issue k (s.caches c) c op way else None)))
        → c < k.caches
    go true b i t = ltb-true c k.caches i
    go false b i t = absurd (cc)

none-more : (a b : ℕ) → a ≤ b → 0 + a ≤ b
none-more a b l = omega (arith, l)

issues-all : (k : Shape) (program : List Form) (s : State) (es : List Event) → IsTightFrom k program s es
    → issues es ≤ sum_below k.caches (λ c. length (issued_by c es))
issues-all k program s [] t = none (sum_below k.caches (λ c. 0))
  where
    none : (n : ℕ) → 0 ≤ n
    none n = omega arith
issues-all k program s (events.Issue c way op ∷ es) t =
    num (issues es) (sum_below k.caches (λ i. length (issued_by i es))) _ (length (issued_by c es)) _
    (issues-all k program (after k program s (events.Issue c way op)) es t.1)
    (sum-one k.caches c (λ i. length (issued_by i es)) (λ i. length (if c == i then op ∷ issued_by i es else issued_by i es))
    (λ i e. other-cache c i op (issued_by i es) e) (issue-cache k program s c way op t.0))
    (own-cache c op (issued_by c es))
  where
    num : (n a b i j : ℕ) → n ≤ a → b + i ≡ a + j → j ≡ suc i → 1 + n ≤ b
    num n a b i j l e q = omega (arith, l, e, q)
issues-all k program s (events.Command c ∷ es) t =
    none-more (issues es) _ (issues-all k program (after k program s (events.Command c)) es t.1)
issues-all k program s (events.Fill to from ∷ es) t =
    none-more (issues es) _ (issues-all k program (after k program s (events.Fill to from)) es t.1)
issues-all k program s (events.Memory ∷ es) t =
    none-more (issues es) _ (issues-all k program (after k program s events.Memory) es t.1)
issues-all k program s (events.Engine choice ∷ es) t =
    none-more (issues es) _ (issues-all k program (after k program s (events.Engine choice)) es t.1)

issued-few : (k : Shape) (program : List Form) (lines : List (ℕ × Op)) (es : List Event) → IsTightFrom k program (opening k) es
    → IsInOrder k lines es → issues es ≤ length lines
issued-few k program lines es t in_order =
    num (issues es) _ _ (length lines) (issues-all k program (opening k) es t)
    (sum-up k.caches (λ c. length (issued_by c es)) (λ c. length (operations_of c lines))
    (λ c l. prefix-short (issued_by c es) (operations_of c lines) (in_order c l))) (lines-all k.caches lines)
  where
    num : (a b c d : ℕ) → a ≤ b → b ≤ c → c ≤ d → a ≤ d
    num a b c d p q r = omega (arith, p, q, r)

-- BUDGETS

budget-up : (k : Shape) (n a b : ℕ) → a ≤ b → budget k n a ≤ budget k n b
budget-up k n a b l =
    num ((4 * k.caches + 32) * (n + 4) * a) ((4 * k.caches + 32) * (n + 4) * b) _ _ (mul-le-mul_left ((4 * k.caches + 32) * (n + 4)) l)
    (turned k.caches n a) (turned k.caches n b)
  where
    turned : (c n a : ℕ) → a * (4 * c + 32) * (n + 4) ≡ (4 * c + 32) * (n + 4) * a
    turned c n a = omega arith

    num : (i j p q : ℕ) → i ≤ j → p ≡ i → q ≡ j → p + n ≤ q + n
    num i j p q l e h = omega (arith, l, e, h)

-- an operation has room for one event more
room : (c n : ℕ) → n < 1 * (4 * c + 32) * (n + 4) + n
room c n = num (1 * (4 * c + 32) * (n + 4)) (4 * c * n) parts
  where
    parts : 1 * (4 * c + 32) * (n + 4) ≡ 4 * c * n + 16 * c + 32 * n + 128
    parts = omega arith

    num : (i j : ℕ) → i ≡ j + 16 * c + 32 * n + 128 → n < i + n
    num i j e = omega (arith, e)

module _ (k : Shape) (image : Parts) (lines : List (ℕ × Op)) (es : List Event) (profile : InProfile k) (made : IsMade image)
    (accepted : Accepted image) (lawful : AreLawful es) (tight : IsTight k image.instrs es) (in_order : IsInOrder k lines es) where
  abbrev n : ℕ
  n = length image.instrs

  few : issues es ≤ length lines
  few = issued-few k image.instrs lines es tight in_order

  all : length es ≤ budget k n (issues es)
  all = (has-few k image profile made accepted es lawful tight).all

  fewer : (i : ℕ) → issues es ≡ i → 1 ≤ length lines → length es < budget k n (length lines)
  fewer zero e one =
      num (length es) (budget k n (issues es)) (budget k n 0) (budget k n 1) (budget k n (length lines)) all (ap (budget k n) e)
      (none k.caches n) (room k.caches n) (budget-up k n 1 (length lines) one)
    where
      none : (c n : ℕ) → 0 * (4 * c + 32) * (n + 4) + n ≡ n
      none c n = omega arith

      num : (a i j o p : ℕ) → a ≤ i → i ≡ j → j ≡ n → n < o → o ≤ p → a < p
      num a i j o p q r u v l = omega (arith, q, r, u, v, l)
  fewer (suc j) e one =
      num (length es) (issues es) (budget k n (issues es)) (budget k n (length lines)) (spare k image profile made accepted es lawful tight)
      (budget-up k n (issues es) (length lines) few) e
    where
      num : (a i b c : ℕ) → a + i * 114 ≤ b → b ≤ c → i ≡ suc j → a < c
      num a i b c p q e = omega (arith, p, q, e)

  within-budget : IsWithinBudget k image.instrs lines es
  within-budget = record {
    issued = few;
    within = both (length es) (budget k n (issues es)) (budget k n (length lines)) all (budget-up k n (issues es) (length lines) few);
    fewer = fewer (issues es) refl;
  }
    where
      both : (a b c : ℕ) → a ≤ b → b ≤ c → a ≤ c
      both a b c p q = omega (arith, p, q)

-- THE STATEMENT

pub bounded : AcceptedImagesAreBounded
bounded image made accepted = record {
  lists = λ k es profile lawful tight. has-few k image profile made accepted es lawful tight;
  traces = λ k lines es profile lawful tight in_order. within-budget k image lines es profile made accepted lawful tight in_order;
}
