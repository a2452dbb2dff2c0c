-- The opening state is the empty machine, and well formed.
use Rattle.std.proofs.Common.{◌≡◌, ℕ, zero, suc, ◌+◌, ◌/◌, ◌^◌, ◌<◌, ◌≤◌, ltb, ◌&&◌, Bool, true, false, cond, refl, ap, ◌∙◌, arith, List, [], ◌∷◌, ◌++◌, get_or, replicate, None}
use Rattle.std.proofs.lemmas.Bool.Decides.{nat_tests}
use Rattle.std.proofs.lemmas.Nat.{le-div}
use mathlib.Core.Path.{fun_ext}
use Rattle.bk_base.specs.Places.{Shape, InProfile, is_set_count}
use Rattle.bk_base.specs.Counting.{join_below}
use Rattle.bk_system.specs.State.{opening}
use Rattle.bk_machine.specs.Products.{words_of}
use Rattle.bk_machine.specs.World.{empty_world, ways_from}
use Rattle.bk_bridge.specs.Worlds.{world_of}
use Rattle.bk_bridge.specs.Formed.{WellFormed}
use Rattle.bk_bridge.proofs.Same.{world}

zeros : (n i : ℕ) → ◌≡◌ {A = ℕ} (get_or (replicate n 0) i 0) 0
zeros zero i = refl
zeros (suc n) zero = refl
zeros (suc n) (suc i) = zeros n i

eight-zeros : ◌≡◌ {A = ℕ → ℕ} (words_of (replicate 8 0)) (λ i. 0)
eight-zeros = fun_ext (λ i. zeros 8 i)

one_more : (n number : ℕ) → ways_from n number ++ (number + n) ∷ [] ≡ ways_from (suc n) number
one_more zero number = ap (λ (i : ℕ). i ∷ []) (omega arith)
one_more (suc n) number = ap (λ (i : ℕ). number ∷ (ways_from n (number + 1) ++ i ∷ [])) (omega arith)
    ∙ ap (λ (ws : List ℕ). number ∷ ws) (one_more n (number + 1))

in-order : (n : ℕ) → join_below n (λ w. w ∷ []) ≡ ways_from n 0
in-order zero = refl
in-order (suc n) = ap (λ (ws : List ℕ). ws ++ n ∷ []) (in-order n) ∙ ap (λ (i : ℕ). ways_from n 0 ++ i ∷ []) (omega arith)
    ∙ one_more n 0

same-both : (b : Bool) (n : ℕ) → cond b n n ≡ n
same-both true n = refl
same-both false n = refl

pub opens_empty : (k : Shape) → world_of k (opening k) None ≡ empty_world k.ways
opens_empty k = world (record {
  entries = refl;
  words = λ i s c w. eight-zeros i;
  directory = refl;
  recency = λ i s c. in-order k.ways i;
  busy = refl;
  pending = refl;
  memory = fun_ext (λ s. fun_ext (λ t. fun_ext (λ i. same-both (ltb s k.sets && ltb i 8) 0)));
  request = refl;
  command = refl;
  fill = refl;
  response = refl;
  memout = refl;
  memin = refl;
  transaction = refl;
  history = refl;
  taken_count = refl;
  settled_count = refl;
})

set-count : (n : ℕ) → is_set_count n ≡ true → (0 < n) × (n ≤ 64)
set-count n e = grind (arith, nat_tests)

tags : (n : ℕ) → (0 < n) × (n ≤ 64) → 0 < 2 ^ 34 / n
tags n l = le-div 1 (2 ^ 34) n l.0 (omega arith)

pub opens_formed : (k : Shape) → InProfile k → WellFormed k (opening k)
opens_formed k p = record {
  profile = p;
  lines = λ c s w. refl;
  busy = λ c. tt;
  request = λ c. tt;
  command = λ c. tt;
  fill = λ to from. tt;
  response = λ c. tt;
  memout = tt;
  memin = tt;
  history = tt;
  engine = record { head = tt; held = tt; dirty = tt; got = tt; flags = refl; entries = λ c s w. tags k.sets (set-count k.sets p.sets) };
}
