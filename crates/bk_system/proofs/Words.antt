-- The words of a memory whose blocks are kept in a map.
use Rattle.std.proofs.Common.{◌≡◌, ◌≢◌, ℕ, zero, suc, ◌+◌, ◌*◌, ◌%◌, ◌<◌, List, [], ◌∷◌, length, get_or, set, Bool, true, false, cond, eqb, Option, Some, refl, ap, sym, ◌∙◌, arith, get_or-set_same, get_or-set_other}
use Rattle.std.specs.Prelude.{unwrap_or, replicate, ◌&&◌, ◌==◌, if◌then◌else◌, slice_index}
use Rattle.std.specs.Ordering.{nat_cmp}
use Rattle.std.specs.BTreeMap.{get, is_at}
use Rattle.std.specs.Map.{lookup}
use Rattle.std.proofs.lemmas.Bool.Decides.{nat_tests}
use mathlib.Core.Path.{fun_ext}
use Rattle.bk_base.specs.Places.{block_of, word_of, block_start}
use Rattle.bk_base.specs.Tables.{put}
use Rattle.bk_system.specs.declared.memory.MainMemory.{MainMemory}
use Rattle.bk_system.specs.Channels.{word_at}
use Rattle.bk_system.specs.Memory.{words_from, with_block}

-- the block of a number
abbrev pub block_in : MainMemory → ℕ → List ℕ
block_in memory b = unwrap_or (get nat_cmp memory.blocks b) (replicate 8 0)

-- its word at an address
abbrev word_in : (ℕ → List ℕ) → ℕ → ℕ
word_in f a = if a % 8 == 0 then slice_index (f (block_of a)) (word_of a) else 0

no-word : (number : ℕ) → get_or {A = ℕ} (replicate 8 0) number 0 ≡ 0
no-word number = none 8 number
  where
    none : (n number : ℕ) → get_or {A = ℕ} (replicate n 0) number 0 ≡ 0
    none zero number = refl
    none (suc n) zero = refl
    none (suc n) (suc number) = none n number

chosen : (b : Bool) (n : ℕ) → n ≡ 0 → (if b then n else 0) ≡ 0
chosen true n e = e
chosen false n e = refl

-- an empty map
pub words-empty : (memory : MainMemory) → memory.blocks.entries ≡ [] → word_at memory ≡ λ a. 0
unfolding word_at
words-empty m h = fun_ext (λ a. ap (λ es. word_in (λ b. unwrap_or (lookup (is_at (nat_cmp b)) es) (replicate 8 0)) a) h
    ∙ chosen (a % 8 == 0) (get_or (replicate 8 0) (word_of a) 0) (no-word (word_of a)))

-- the same entries
pub words-same : (memory n : MainMemory) → n.blocks.entries ≡ memory.blocks.entries → word_at n ≡ word_at memory
unfolding word_at
words-same m n h = fun_ext (λ a. ap (λ es. word_in (λ b. unwrap_or (lookup (is_at (nat_cmp b)) es) (replicate 8 0)) a) h)

-- READING

eight : (xs : List ℕ) → length xs ≡ 8 → xs ≡ get_or xs 0 0 ∷ get_or xs 1 0 ∷ get_or xs 2 0 ∷ get_or xs 3 0 ∷ get_or xs 4 0
    ∷ get_or xs 5 0
    ∷ get_or xs 6 0 ∷ get_or xs 7 0 ∷ []
eight (a ∷ b ∷ c ∷ d ∷ e ∷ f ∷ g ∷ h ∷ []) l = refl
eight _ l = absurd (omega arith)

block-of : (b j : ℕ) → j < 8 → block_of (b * 64 + 8 * j) ≡ b
block-of b j l = omega arith

word-of : (b j : ℕ) → j < 8 → word_of (b * 64 + 8 * j) ≡ j
word-of b j l = omega arith

aligned : (b j : ℕ) → ((b * 64 + 8 * j) % 8 == 0) ≡ true
aligned b j = let e : (b * 64 + 8 * j) % 8 ≡ 0 = omega arith in grind (arith, nat_tests)

-- word number j of a block
place : (f : ℕ → List ℕ) (b j a : ℕ) → j < 8 → a ≡ b * 64 + 8 * j → get_or (f b) j 0 ≡ word_in f a
place f b j a l e = rw (e, aligned b j, block-of b j l, word-of b j l) refl

-- the words of a block that is read
pub words-read : (memory : MainMemory) (addr : ℕ) (words : List ℕ) → words ≡ block_in memory (block_of addr) → length words ≡ 8
    → words ≡ words_from (word_at memory) (block_start addr)
unfolding word_at
words-read m addr words e l =
    let b = block_of addr in
    let at = λ (j a : ℕ) (lt : j < 8) (is : a ≡ b * 64 + 8 * j). ap (λ (ws : List ℕ). get_or ws j 0) e
    ∙ place (block_in m) b j a lt is in
    let s = block_start addr in
    eight words l ∙ (λ i. at 0 s (omega arith) (omega arith) i ∷ at 1 (s + 8) (omega arith) (omega arith) i
    ∷ at 2 (s + 16) (omega arith) (omega arith) i ∷ at 3 (s + 24) (omega arith) (omega arith) i
    ∷ at 4 (s + 32) (omega arith) (omega arith) i ∷ at 5 (s + 40) (omega arith) (omega arith) i
    ∷ at 6 (s + 48) (omega arith) (omega arith) i ∷ at 7 (s + 56) (omega arith) (omega arith) i ∷ [])

-- WRITING

same-block : (a q : ℕ) → is_at (nat_cmp a) q ≡ eqb q a
same-block a q = grind (arith, nat_tests)

-- the block of a number, after one was written
block-put : (memory n : MainMemory) (b : ℕ) (words : List ℕ)
    → ((q : ℕ) → get nat_cmp n.blocks q ≡ cond (is_at (nat_cmp b) q) (Some words) (get nat_cmp memory.blocks q)) → (q : ℕ)
    → block_in n q ≡ cond (eqb q b) words (block_in memory q)
block-put memory n b words h q =
    ap (λ (o : Option (List ℕ)). unwrap_or o (replicate 8 0)) (h q
    ∙ ap (λ (test : Bool). cond test (Some words) (get nat_cmp memory.blocks q)) (same-block b q))
    ∙ either (eqb q b) words (get nat_cmp memory.blocks q)
  where
    either : (test : Bool) (words : List ℕ) (o : Option (List ℕ))
        → unwrap_or (cond test (Some words) o) (replicate 8 0) ≡ cond test words (unwrap_or o (replicate 8 0))
    either true words o = refl
    either false words o = refl

-- a block that is written
pub words-block : (memory n : MainMemory) (addr : ℕ) (words : List ℕ)
    → ((q : ℕ) → get nat_cmp n.blocks q ≡ cond (is_at (nat_cmp (block_of addr)) q) (Some words) (get nat_cmp memory.blocks q))
    → word_at n ≡ with_block (word_at memory) addr words
unfolding word_at
words-block m n addr words h = fun_ext (λ a.
    ap (λ (ws : List ℕ). if a % 8 == 0 then get_or ws (word_of a) 0 else 0) (block-put m n (block_of addr) words h (block_of a))
    ∙ either (block_of a == block_of addr) (a % 8 == 0) words (block_in m (block_of a)) (word_of a))
  where
    either : (b u : Bool) (xs ys : List ℕ) (j : ℕ) → (if u then get_or (cond b xs ys) j 0 else 0)
        ≡ (if b && u then get_or xs j 0 else (if u then get_or ys j 0 else 0))
    either true true xs ys j = refl
    either true false xs ys j = refl
    either false true xs ys j = refl
    either false false xs ys j = refl

-- addresses of words are told apart by block and place
same-word : (a addr : ℕ) → a % 8 ≡ 0 → addr % 8 ≡ 0 → block_of a ≡ block_of addr → word_of a ≡ word_of addr → a ≡ addr
same-word a addr p q e w = omega arith

-- a word of a block after the one at place j was written: at its own address (own) it is the new one, at others the old one
word-set : (aligned here own : Bool) (xs words : List ℕ) (i j word : ℕ) → (here ≡ true → xs ≡ words)
    → (own ≡ true → (aligned ≡ true) × (here ≡ true) × (i ≡ j))
    → (aligned ≡ true → here ≡ true → own ≡ false → i ≢ j) → j < length words
    → (if aligned then get_or (cond here (set words j word) xs) i 0 else 0) ≡ cond own word (if aligned then get_or xs i 0 else 0)
word-set true true true xs words i j word e same differ l = rw ((same refl).2) (get_or-set_same words j word 0 l)
word-set true true false xs words i j word e same differ l = get_or-set_other words j i word 0 (differ refl refl refl)
    ∙ ap (λ (ws : List ℕ). get_or ws i 0) (sym (e refl))
word-set true false true xs words i j word e same differ l = absurd (let h = (same refl).1 in cc)
word-set true false false xs words i j word e same differ l = refl
word-set false here true xs words i j word e same differ l = absurd (let h = (same refl).0 in cc)
word-set false here false xs words i j word e same differ l = refl

is : (a b : ℕ) → eqb a b ≡ true → a ≡ b
is a b e = grind (arith, nat_tests)

is-so : (a b : ℕ) → a ≡ b → eqb a b ≡ true
is-so a b e = grind (arith, nat_tests)

is-not : (a b : ℕ) → eqb a b ≡ false → a ≢ b
is-not a b e = grind (arith, nat_tests)

-- a word that is written
pub words-word : (memory n : MainMemory) (addr word : ℕ) (words : List ℕ) → words ≡ block_in memory (block_of addr)
    → addr % 8 ≡ 0
    → length words ≡ 8
    → ((q : ℕ) → get nat_cmp n.blocks q
    ≡ cond (is_at (nat_cmp (block_of addr)) q) (Some (set words (word_of addr) word)) (get nat_cmp memory.blocks q))
    → word_at n ≡ put (word_at memory) addr word
unfolding word_at put
words-word m n addr word words e al l h = fun_ext (λ a.
    ap (λ (ws : List ℕ). if a % 8 == 0 then get_or ws (word_of a) 0
    else 0) (block-put m n (block_of addr) (set words (word_of addr) word) h (block_of a))
    ∙ word-set (a % 8 == 0) (eqb (block_of a) (block_of addr)) (eqb a addr) (block_in m (block_of a)) words (word_of a)
    (word_of addr) word
    (λ here. ap (block_in m) (is (block_of a) (block_of addr) here) ∙ sym e)
    (λ own. let s = is a addr own in (
      is-so (a % 8) 0 (ap (λ (q : ℕ). q % 8) s ∙ al),
      is-so (block_of a) (block_of addr) (ap block_of s),
      ap word_of s,
    ))
    (λ aligned here own w. is-not a addr own (same-word a addr (is (a % 8) 0 aligned) al (is (block_of a) (block_of addr) here) w))
    (omega arith))
