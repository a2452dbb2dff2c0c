-- Addresses: an address is its group, tag and place, and a block's first word is at the block's group and tag.
use Rattle.std.proofs.Common.{◌≡◌, ℕ, ◌+◌, ◌*◌, ◌/◌, ◌%◌, ◌<◌, Bool, true, false, eqb, ◌&&◌, refl, sym, ap, ◌∙◌, arith, div-add-mod'}
use Rattle.std.proofs.lemmas.Bool.Decides.{nat_tests}
use Rattle.bk_base.specs.Places.{Shape, InProfile, IsAddr, is_set_count, block_of, block_start, word_of, group_of, tag_at}

pub sets_pos : (k : Shape) → InProfile k → 0 < k.sets
sets_pos k p = lem k.sets p.sets
  where
    lem : (n : ℕ) → is_set_count n ≡ true → 0 < n
    lem n e = grind (arith, nat_tests)

start-block : (a : ℕ) → a / 64 * 64 / 64 ≡ a / 64
start-block a = omega arith

pub block-start : (a : ℕ) → block_of (block_start a) ≡ block_of a
block-start a = start-block a

pub group-start : (k : Shape) (a : ℕ) → group_of k (block_start a) ≡ group_of k a
group-start k a = ap (λ (b : ℕ). b % k.sets) (block-start a)

pub tag-start : (k : Shape) (a : ℕ) → tag_at k (block_start a) ≡ tag_at k a
tag-start k a = ap (λ (b : ℕ). b / k.sets) (block-start a)

pub start_IsAddr : (a : ℕ) → IsAddr a → IsAddr (block_start a)
start_IsAddr a h = record { below = omega arith; aligned = omega arith }

-- two blocks are one where group and tag are the same
pub block_by_parts : (g a b : ℕ) → 0 < g → eqb a b ≡ (eqb (a % g) (b % g) && eqb (a / g) (b / g))
block_by_parts g a b l = go (eqb a b) refl (eqb (a % g) (b % g)) refl (eqb (a / g) (b / g)) refl
  where
    parts : a % g ≡ b % g → a / g ≡ b / g → a ≡ b
    parts e f = sym (div-add-mod' a g) ∙ ap (λ (q : ℕ). q * g + a % g) f ∙ ap (λ (r : ℕ). b / g * g + r) e ∙ div-add-mod' b g

    go : (test : Bool) → eqb a b ≡ test → (y : Bool) → eqb (a % g) (b % g) ≡ y → (z : Bool) → eqb (a / g) (b / g) ≡ z
        → test ≡ (y && z)
    go test p y q z r = grind (arith, nat_tests, parts)

-- the address of a word, by its parts
pub address-block : (b i : ℕ) → i < 8 → (b * 64 + i * 8) / 64 ≡ b
address-block b i l = omega arith

pub address-word : (b i : ℕ) → i < 8 → (b * 64 + i * 8) / 8 % 8 ≡ i
address-word b i l = omega arith

pub address-aligned : (b i : ℕ) → (b * 64 + i * 8) % 8 ≡ 0
address-aligned b i = omega arith

pub word-below : (a : ℕ) → word_of a < 8
word-below a = omega arith

-- two blocks are one where group and tag are the same, of addresses
pub blocks : (k : Shape) (a b : ℕ) → 0 < k.sets
    → eqb (block_of a) (block_of b) ≡ (eqb (group_of k a) (group_of k b) && eqb (tag_at k a) (tag_at k b))
blocks k a b l = block_by_parts k.sets (block_of a) (block_of b) l

-- two words are one where their parts are
pub same_word : (a addr : ℕ) → a % 8 ≡ 0 → addr % 8 ≡ 0 → eqb a addr
    ≡ (eqb (a / 64) (addr / 64) && eqb (a / 8 % 8) (addr / 8 % 8))
same_word a addr e f = grind (arith, nat_tests, lem)
  where
    lem : a / 64 ≡ addr / 64 → a / 8 % 8 ≡ addr / 8 % 8 → a ≡ addr
    lem g h = omega arith

and-assoc : (b y z : Bool) → ((b && y) && z) ≡ (b && (y && z))
and-assoc true y z = refl
and-assoc false y z = refl

pub words_apart : (k : Shape) (a b : ℕ) → 0 < k.sets → IsAddr a → IsAddr b
    → eqb a b ≡ (eqb (group_of k a) (group_of k b) && (eqb (tag_at k a) (tag_at k b) && eqb (word_of a) (word_of b)))
words_apart k a b l f g =
    same_word a b f.aligned g.aligned ∙ ap (λ (y : Bool). y && eqb (word_of a) (word_of b)) (blocks k a b l)
    ∙ and-assoc (eqb (group_of k a) (group_of k b)) (eqb (tag_at k a) (tag_at k b)) (eqb (word_of a) (word_of b))
