-- The channels that hold something are those of the configuration's caches, and it is of one of its way groups.
use Rattle.std.proofs.Common.{◌≡◌, ℕ, ◌<◌, ◌≤◌, Bool, true, false, refl, sym, ap, ◌∙◌, subst, arith, List, [], ◌∷◌, Option, Some, None}
use Rattle.std.specs.Prelude.{nat_lt}
use Rattle.std.specs.List.{filter_map, cons_option}
use Rattle.std.proofs.lemmas.Bool.{ltb-true}
use Rattle.std.proofs.lemmas.Bool.Decides.{nat_tests}
use Rattle.bk_base.specs.Places.{Shape, InProfile, group_of}
use Rattle.bk_msg.specs.declared.row.Row.{Row}
use Rattle.bk_msg.specs.declared.row.Row.TheVariants as rows
use Rattle.bk_system.specs.State.{State}
use Rattle.bk_machine.specs.Messages.{Request, ToCache, FillMessage, Response, MemoryBlock}
use Rattle.bk_machine.specs.Products.{as_request, as_command, as_fill, as_response, as_block}
use Rattle.bk_machine.specs.World.{World}
use Rattle.bk_bridge.specs.Ranges.{NoneOutside}
use Rattle.bk_bridge.proofs.Inside.{group-within}
use Rattle.bk_exact.specs.Told.{Told}
use Rattle.bk_exact.specs.Ties.{Tied, told_world}

pub record Inside (k : Shape) (world : World) : Type 0 where
  pub request : (c : ℕ) (y : ℕ × Request) (rest : List (ℕ × Request)) → world.request c ≡ y ∷ rest
      → (c < k.caches) × (y.0 < k.sets)
  pub command : (c : ℕ) (y : ℕ × ToCache) (rest : List (ℕ × ToCache)) → world.command c ≡ y ∷ rest → c < k.caches
  pub fill : (c o : ℕ) (y : ℕ × FillMessage) (rest : List (ℕ × FillMessage)) → world.fill c o ≡ y ∷ rest
      → (c < k.caches) × (o < k.caches)
  pub response : (c : ℕ) (y : ℕ × Response) (rest : List (ℕ × Response)) → world.response c ≡ y ∷ rest → y.0 < k.sets
  pub memin : (y : ℕ × MemoryBlock) (rest : List (ℕ × MemoryBlock)) → world.memin ≡ y ∷ rest → y.0 < k.sets

-- CACHES

-- a cache whose channel holds something isn't beyond the configuration
within : {X : Type 0} (k : Shape) (c : ℕ) (h : Row → Option X) (ms : List Row) (y : X) (rest : List X)
    → (k.caches ≤ c → ms ≡ []) → filter_map h ms ≡ y ∷ rest → c < k.caches
within {X} k c h ms y rest outside e = go (nat_lt c k.caches) refl
  where
    no : [] ≡ y ∷ rest → ⊥
    no i = cc

    above : nat_lt c k.caches ≡ false → k.caches ≤ c
    above i = grind (arith, nat_tests)

    go : (b : Bool) → nat_lt c k.caches ≡ b → c < k.caches
    go true i = ltb-true c k.caches i
    go false i = absurd (no (ap (filter_map h) (sym (outside (above i))) ∙ e))

-- GROUPS

some-first : {X : Type 0} (g n : ℕ) (x y : X) → ◌≡◌ {A = Option (ℕ × X)} (Some (g, x)) (Some (n, y)) → g ≡ n
some-first {X} g n x y e = ap (λ (z : ℕ × X). z.0) (parts e)
  where
    parts : ◌≡◌ {A = Option (ℕ × X)} (Some (g, x)) (Some (n, y)) → ◌≡◌ {A = ℕ × X} (g, x) (n, y)
    parts e = cc

below-by : {X : Type 0} (k : Shape) (addr : ℕ) (x : X) (y : ℕ × X) → InProfile k
    → ◌≡◌ {A = Option (ℕ × X)} (Some (group_of k addr, x)) (Some y) → y.0 < k.sets
below-by {X} k addr x y p e = subst (λ (g : ℕ). g < k.sets) (some-first (group_of k addr) y.0 x y.1 e) (group-within k addr p)

request-group : (k : Shape) (m : Row) (y : ℕ × Request) → InProfile k → as_request k m ≡ Some y → y.0 < k.sets
request-group k (rows.Rd from to way addr) y p e = below-by k addr _ y p e
request-group k (rows.Wr from to way addr) y p e = below-by k addr _ y p e
request-group k (rows.UcRd from to addr) y p e = below-by k addr _ y p e
request-group k (rows.UcWr from to addr word) y p e = below-by k addr _ y p e
request-group k (rows.Evict from to way addr) y p e = below-by k addr _ y p e
request-group k m y p e = absurd (cc)

response-group : (k : Shape) (m : Row) (y : ℕ × Response) → InProfile k → as_response k m ≡ Some y → y.0 < k.sets
response-group k (rows.InvAck from to addr) y p e = below-by k addr _ y p e
response-group k (rows.CohAck from to addr) y p e = below-by k addr _ y p e
response-group k (rows.Wb from to addr words) y p e = below-by k addr _ y p e
response-group k (rows.NullWb from to addr) y p e = below-by k addr _ y p e
response-group k m y p e = absurd (cc)

block-group : (k : Shape) (m : Row) (y : ℕ × MemoryBlock) → InProfile k → as_block k m ≡ Some y → y.0 < k.sets
block-group k (rows.Block from to addr words) y p e = below-by k addr _ y p e
block-group k m y p e = absurd (cc)

-- the first of a channel, as the machine has it
first-group : {X : Type 0} (k : Shape) (h : Row → Option (ℕ × X)) (ms : List Row) (y : ℕ × X) (rest : List (ℕ × X))
    → ((m : Row) (z : ℕ × X) → h m ≡ Some z → z.0 < k.sets) → filter_map h ms ≡ y ∷ rest → y.0 < k.sets
first-group {X} k h [] y rest group e = absurd (cc)
first-group {X} k h (m ∷ ms) y rest group e = go (first-group k h ms y rest group) (h m) refl e
  where
    head : (a b : ℕ × X) (xs ys : List (ℕ × X)) → a ∷ xs ≡ b ∷ ys → a ≡ b
    head a b xs ys e = cc

    go : (filter_map h ms ≡ y ∷ rest → y.0 < k.sets) → (o : Option (ℕ × X)) → h m ≡ o
        → cons_option o (filter_map h ms) ≡ y ∷ rest → y.0 < k.sets
    go later None i e = later e
    go later (Some z) i e = group m y (i ∙ ap (λ (x : ℕ × X). Some x) (head z y _ rest e))

pub told-inside : (k : Shape) (s : State) (told : Told) → InProfile k → Tied k s told → Inside k (told_world k s told)
told-inside k s told profile tied = record {
  request = λ c y rest e. (
    within k c (as_request k) (s.request c) y rest (outside.request c) e,
    first-group k (as_request k) (s.request c) y rest (λ m z. request-group k m z profile) e,
  );
  command = λ c y rest e. within k c (as_command k) (s.command c) y rest (outside.command c) e;
  fill = λ c o y rest e. (
    within k c (as_fill k) (s.fill c o) y rest (outside.fill_to c o) e,
    within k o (as_fill k) (s.fill c o) y rest (outside.fill_from c o) e,
  );
  response = λ c y rest e. first-group k (as_response k) (s.response c) y rest (λ m z. response-group k m z profile) e;
  memin = λ y rest e. first-group k (as_block k) s.memin y rest (λ m z. block-group k m z profile) e;
}
  where
    outside : NoneOutside k s
    outside = tied.range.outside
