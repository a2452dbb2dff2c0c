-- One cache's state written, as the machine sees it: lines by group, cache and way, recency by group and cache.
use Rattle.std.proofs.Common.{◌≡◌, ℕ, ◌<◌, cond, eqb, not, refl, ap, ◌∙◌, arith, List, [], ◌∷◌, Option, length, get_or, set, filter, get_or-set_same, get_or-set_other}
use Rattle.std.proofs.lemmas.Bool.Decides.{nat_tests}
use mathlib.Core.Path.{fun_ext}
use Rattle.bk_base.specs.Places.{Shape}
use Rattle.bk_base.specs.Tables.{put}
use Rattle.bk_lce.specs.declared.line.Line.{Line}
use Rattle.bk_lce.specs.CacheState.{CacheState, to_front, used}
use Rattle.bk_lce.specs.CacheTable as table
use Rattle.bk_machine.specs.Tables.{put2}
use Rattle.bk_machine.specs.Entries.{Entry, wiped_entry, wiped_in_cache}
use Rattle.bk_machine.specs.Products.{words_of}
use Rattle.bk_machine.specs.Steps.{without}
use Rattle.bk_machine.specs.Transactions.{InProgress}
use Rattle.bk_bridge.specs.Worlds.{entry_of, begun_of}
use Rattle.bk_bridge.proofs.Tables.{put-same, put-of, put-turned}

-- what the machine sees of a cache's state
abbrev pub seen_entries : CacheState → ℕ → ℕ → Entry
seen_entries cache g w = entry_of (cache.lines g w)

abbrev pub seen_words : CacheState → ℕ → ℕ → ℕ → ℕ
seen_words cache g w = words_of (cache.lines g w).words

abbrev pub seen_recency : CacheState → ℕ → List ℕ
seen_recency cache = cache.recency

abbrev pub seen_busy : Shape → CacheState → Option (ℕ × InProgress)
seen_busy k cache = begun_of k cache.busy

-- WRITES OF ONE CACHE, for anything that is read of a cache's state by group and way, or by group

pub table-kept : {X : Type 0} (f : CacheState → ℕ → ℕ → X) (m : ℕ → CacheState) (c : ℕ) (cache : CacheState)
    → ((g w : ℕ) → f cache g w ≡ f (m c) g w)
    → ◌≡◌ {A = ℕ → ℕ → ℕ → X} (λ g i w. f (put m c cache i) g w) (λ g i w. f (m i) g w)
table-kept {X} f m c cache e =
    ap (λ (h : ℕ → ℕ → ℕ → X). λ g i w. h i g w) (put-same f m c cache (fun_ext (λ g. fun_ext (λ w. e g w))))

pub table-written : {X : Type 0} (f : CacheState → ℕ → ℕ → X) (m : ℕ
    → CacheState) (c : ℕ) (cache : CacheState) (group v : ℕ) (y : X)
    → ((g w : ℕ) → f cache g w ≡ put (f (m c)) group (put (f (m c) group) v y) g w)
    → ◌≡◌ {A = ℕ → ℕ → ℕ → X} (λ g i w. f (put m c cache i) g w)
    (put (λ g i w. f (m i) g w) group (put2 (λ i w. f (m i) group w) c v y))
table-written {X} f m c cache group v y e =
    ap (λ (h : ℕ → ℕ → ℕ → X). λ g i w. h i g w) (put-of f m c cache (f cache) refl)
    ∙ put-turned (λ i. f (m i)) c group v (f cache) y e

pub pair-kept : {X : Type 0} (f : CacheState → ℕ → X) (m : ℕ → CacheState) (c : ℕ) (cache : CacheState) → f cache ≡ f (m c)
    → ◌≡◌ {A = ℕ → ℕ → X} (λ g i. f (put m c cache i) g) (λ g i. f (m i) g)
pair-kept {X} f m c cache e = ap (λ (h : ℕ → ℕ → X). λ g i. h i g) (put-same f m c cache e)

pub pair-written : {X : Type 0} (f : CacheState → ℕ → X) (m : ℕ → CacheState) (c : ℕ) (cache : CacheState) (group : ℕ) (y : X)
    → ((g : ℕ) → f cache g ≡ put (f (m c)) group y g)
    → ◌≡◌ {A = ℕ → ℕ → X} (λ g i. f (put m c cache i) g) (put2 (λ g i. f (m i) g) group c y)
unfolding put put2
pair-written {X} f m c n s y e = ap (λ (h : ℕ → ℕ → X). λ g i. h i g) (put-of f m c n (f n) refl)
    ∙ fun_ext (λ g. fun_ext (λ i. at g i))
  where
    at : (g i : ℕ) → put (λ i. f (m i)) c (f n) i g ≡ put2 (λ g i. f (m i) g) s c y g i
    at g i = grind (arith, nat_tests, e g)

-- LINES

-- one line written: what is read of it
pub line-of : {X Y : Type 0} (f : X → Y) (m : ℕ → ℕ → X) (group v : ℕ) (x : X) (g w : ℕ)
    → f (put m group (put (m group) v x) g w) ≡ put (λ g w. f (m g w)) group (put (λ w. f (m group w)) v (f x)) g w
unfolding put
line-of f m s v x g w = grind (arith, nat_tests)

-- what a write doesn't change of its line, it changes nowhere
pub line-same : {X Y : Type 0} (f : X → Y) (m : ℕ → ℕ → X) (group v : ℕ) (x : X) → f x ≡ f (m group v) → (g w : ℕ)
    → f (put m group (put (m group) v x) g w) ≡ f (m g w)
unfolding put
line-same f m s v x e g w = grind (arith, nat_tests)

-- all lines of a set that hold a tag become I
pub wiped-of : (m : ℕ → ℕ → Line) (group t g w : ℕ)
    → entry_of (put m group (λ w. table.wiped_line t (m group w)) g w)
    ≡ put {X = ℕ → Entry} (λ g w. entry_of (m g w)) group (λ w. wiped_entry t (entry_of (m group w))) g w
unfolding put
wiped-of m s t g w = grind (arith, nat_tests)

pub wiped-words : (m : ℕ → ℕ → Line) (group t g w : ℕ) → words_of (put m group (λ w. table.wiped_line t (m group w)) g w).words
    ≡ words_of (m g w).words
unfolding put
wiped-words m s t g w = grind (arith, nat_tests)

-- WORDS

-- a word written in a line of eight
pub word_set : (ws : List ℕ) (j n : ℕ) → length ws ≡ 8 → j < 8 → words_of (set ws j n) ≡ put (words_of ws) j n
unfolding put
word_set ws j n e l = fun_ext (λ i. at i)
  where
    at : (i : ℕ) → get_or (set ws j n) i 0 ≡ cond (eqb i j) n (get_or ws i 0)
    at i = grind (arith, nat_tests, get_or-set_same ws j n 0, get_or-set_other ws j i n 0)

-- RECENCY

pub filter-without : (w : ℕ) (xs : List ℕ) → filter (λ i. not (eqb i w)) xs ≡ without w xs
filter-without w [] = refl
filter-without w (x ∷ xs) = lem (filter-without w xs)
  where
    lem : filter (λ i. not (eqb i w)) xs ≡ without w xs → filter (λ i. not (eqb i w)) (x ∷ xs) ≡ without w (x ∷ xs)
    lem e = grind (arith, nat_tests)

pub front : (w : ℕ) (xs : List ℕ) → to_front w xs ≡ w ∷ without w xs
front w xs = ap (λ (ys : List ℕ). w ∷ ys) (filter-without w xs)

pub used-recency : (cache : CacheState) (group w g : ℕ) → (used cache group w).recency g
    ≡ put cache.recency group (w ∷ without w (cache.recency group)) g
used-recency cache group w g = ap (λ (ys : List ℕ). put cache.recency group ys g) (front w (cache.recency group))

-- cache c drops a tag of a group
pub table-wiped : (m : ℕ → CacheState) (c group t : ℕ) (cache : CacheState)
    → ((g w : ℕ) → entry_of (cache.lines g w) ≡ put {X = ℕ → Entry} (λ g w. entry_of ((m c).lines g w)) group
    (λ w. wiped_entry t (entry_of ((m c).lines group w))) g w)
    → ◌≡◌ {A = ℕ → ℕ → ℕ → Entry} (λ g i w. entry_of ((put m c cache i).lines g w))
    (put (λ g i w. entry_of ((m i).lines g w)) group (wiped_in_cache c t (λ i w. entry_of ((m i).lines group w))))
unfolding put wiped_in_cache
table-wiped m c s t n e =
    ap (λ (h : ℕ → ℕ → ℕ → Entry). λ g i w. h i g w)
    (put-of {Y = ℕ → ℕ → Entry} (λ y g w. entry_of (y.lines g w)) m c n (λ g w. entry_of (n.lines g w)) refl)
    ∙ fun_ext (λ g. fun_ext (λ i. fun_ext (λ w. at g i w)))
  where
    at : (g i w : ℕ) → put {X = ℕ → ℕ → Entry} (λ i g w. entry_of ((m i).lines g w)) c (λ g w. entry_of (n.lines g w)) i g w
        ≡ put (λ g i w. entry_of ((m i).lines g w)) s (wiped_in_cache c t (λ i w. entry_of ((m i).lines s w))) g i w
    at g i w = grind (arith, nat_tests, e g w)
