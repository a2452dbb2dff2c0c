-- What a write of the memory is by group, tag and place: a block's words, or one word.
use Rattle.std.proofs.Common.{◌≡◌, ℕ, ◌+◌, ◌*◌, ◌/◌, ◌%◌, ◌<◌, Bool, cond, eqb, ltb, ◌&&◌, sym, ap, ◌∙◌, arith, List, length, get_or, mod-lt, lt-ltb, div-add-mod'}
use Rattle.std.proofs.lemmas.Bool.Decides.{nat_tests}
use Rattle.std.proofs.lemmas.Nat.{div-mul-add, mod-mul-add}
use Rattle.std.proofs.lemmas.List.{get_or_past}
use mathlib.Core.Path.{fun_ext}
use Rattle.bk_base.specs.Places.{Shape, block_of, block_start, word_of, group_of, tag_at, address_in}
use Rattle.bk_base.specs.Tables.{put}
use Rattle.bk_system.specs.Memory.{with_block, words_from}
use Rattle.bk_machine.specs.Messages.{becomes}
use Rattle.bk_machine.specs.Products.{words_of}
use Rattle.bk_machine.specs.Words.{write_block, write_word}
use Rattle.bk_bridge.specs.Worlds.{word_at}
use Rattle.bk_bridge.proofs.Places.{block_by_parts, same_word, address-block, address-word, address-aligned}

-- a block's number, by its parts
same_block : (k : Shape) (g t addr : ℕ) → g < k.sets → eqb (t * k.sets + g) (block_of addr)
    ≡ (eqb g (group_of k addr) && eqb t (tag_at k addr))
same_block k g t addr l =
    block_by_parts k.sets (t * k.sets + g) (block_of addr) (omega arith)
    ∙ ap (λ (r : ℕ). eqb r (group_of k addr) && eqb ((t * k.sets + g) / k.sets) (tag_at k addr)) (mod-mul-add t k.sets g l)
    ∙ ap (λ (q : ℕ). eqb g (group_of k addr) && eqb q (tag_at k addr)) (div-mul-add t k.sets g l)

-- a word of the memory after a block was written
block-at : (k : Shape) (memory : ℕ → ℕ) (addr : ℕ) (ws : List ℕ) (g t i : ℕ) → g < k.sets → i < 8
    → with_block memory addr ws (address_in k g t + i * 8)
    ≡ cond (eqb g (group_of k addr) && eqb t (tag_at k addr)) (get_or ws i 0) (memory (address_in k g t + i * 8))
block-at k memory addr ws g t i l h = lem (t * k.sets + g) (same_block k g t addr l)
  where
    lem : (b : ℕ) → eqb b (block_of addr) ≡ (eqb g (group_of k addr) && eqb t (tag_at k addr))
        → with_block memory addr ws (b * 64 + i * 8) ≡ cond (eqb g (group_of k addr) && eqb t (tag_at k addr)) (get_or ws i 0)
        (memory (b * 64 + i * 8))
    lem b e = grind (arith, nat_tests, address-block b i h, address-word b i h, address-aligned b i)

pub block_written : (k : Shape) (memory : ℕ → ℕ) (addr : ℕ) (ws : List ℕ) → 0 < k.sets → length ws ≡ 8
    → word_at k (with_block memory addr ws) ≡ put (word_at k memory) (group_of k addr)
    (write_block (word_at k memory (group_of k addr)) (tag_at k addr) (words_of ws))
unfolding put
block_written k memory addr ws l e = fun_ext (λ g. fun_ext (λ t. fun_ext (λ i. at g t i)))
  where
    inside : group_of k addr < k.sets
    inside = mod-lt _ l

    at : (g t i : ℕ) → word_at k (with_block memory addr ws) g t i
        ≡ put (word_at k memory) (group_of k addr) (write_block (word_at k memory (group_of k addr)) (tag_at k addr) (words_of ws)) g t i
    at g t i = grind (arith, nat_tests, block-at k memory addr ws g t i, get_or_past ws i 0, inside)

word-at : (k : Shape) (memory : ℕ → ℕ) (addr n g t i : ℕ) → addr % 8 ≡ 0 → g < k.sets → i < 8
    → put memory addr n (address_in k g t + i * 8)
    ≡ cond ((eqb g (group_of k addr) && eqb t (tag_at k addr)) && eqb i (word_of addr)) n (memory (address_in k g t + i * 8))
unfolding put
word-at k memory addr n s t i f l h = lem (t * k.sets + s) (same_block k s t addr l)
  where
    lem : (b : ℕ) → eqb b (block_of addr) ≡ (eqb s (group_of k addr) && eqb t (tag_at k addr))
        → cond (eqb (b * 64 + i * 8) addr) n (memory (b * 64 + i * 8))
        ≡ cond ((eqb s (group_of k addr) && eqb t (tag_at k addr)) && eqb i (word_of addr)) n (memory (b * 64 + i * 8))
    lem b e =
        ap (λ (x : Bool). cond x n (memory (b * 64 + i * 8)))
        (same_word (b * 64 + i * 8) addr (address-aligned b i) f
        ∙ ap (λ (x : ℕ). eqb x (block_of addr) && eqb ((b * 64 + i * 8) / 8 % 8) (word_of addr)) (address-block b i h)
        ∙ ap (λ (x : ℕ). eqb b (block_of addr) && eqb x (word_of addr)) (address-word b i h)
        ∙ ap (λ (x : Bool). x && eqb i (word_of addr)) e)

pub word_written : (k : Shape) (memory : ℕ → ℕ) (addr n : ℕ) → 0 < k.sets → addr % 8 ≡ 0
    → word_at k (put memory addr n)
    ≡ put (word_at k memory) (group_of k addr) (write_word (word_at k memory (group_of k addr)) (tag_at k addr) (word_of addr) (becomes n))
unfolding put
word_written k memory addr n l f = fun_ext (λ g. fun_ext (λ t. fun_ext (λ i. at g t i)))
  where
    inside : group_of k addr < k.sets
    inside = mod-lt _ l

    place : word_of addr < 8
    place = omega arith

    at : (g t i : ℕ) → word_at k (put memory addr n) g t i
        ≡ put (word_at k memory) (group_of k addr)
        (write_word (word_at k memory (group_of k addr)) (tag_at k addr) (word_of addr) (becomes n)) g t i
    at g t i = grind (arith, nat_tests, word-at k memory addr n g t i f, inside, place)

-- what a Read answers: the words of the block, and 0 past them
eight_at : (m : ℕ → ℕ) (a i : ℕ) → words_of (words_from m a) i ≡ cond (ltb i 8) (m (a + i * 8)) 0
eight_at m a i = grind (arith, nat_tests, words_of (words_from m a) i)

pub block_read : (k : Shape) (memory : ℕ → ℕ) (addr : ℕ) → 0 < k.sets
    → words_of (words_from memory (block_start addr)) ≡ word_at k memory (group_of k addr) (tag_at k addr)
block_read k memory addr l = fun_ext (λ i. eight_at memory (block_start addr) i ∙ at i)
  where
    inside : group_of k addr < k.sets
    inside = mod-lt _ l

    parts : tag_at k addr * k.sets + group_of k addr ≡ block_of addr
    parts = div-add-mod' (block_of addr) k.sets

    at : (i : ℕ) → cond (ltb i 8) (memory (block_start addr + i * 8)) 0 ≡ word_at k memory (group_of k addr) (tag_at k addr) i
    at i = ap (λ (b : ℕ). cond (ltb i 8) (memory (b * 64 + i * 8)) 0) (sym parts)
        ∙ ap (λ (test : Bool). cond (test && ltb i 8) (memory (address_in k (group_of k addr) (tag_at k addr) + i * 8)) 0)
        (sym (lt-ltb _ _ inside))
