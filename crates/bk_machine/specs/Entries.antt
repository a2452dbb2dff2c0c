-- Entries: the tag and state of a way, in a cache or in the directory. Within a way group a block is its tag.
use Rattle.std.specs.Prelude.{ℕ, ◌≡◌, ◌+◌, Bool, true, false, ◌&&◌, List, [], ◌∷◌, if◌then◌else◌, ◌==◌}
use Rattle.bk_base.specs.declared.coh.Coh.{Coh}
use Rattle.bk_base.specs.declared.coh.Coh.TheVariants.{I, S, E, F, M, O}
use Rattle.bk_base.specs.States.{is_readable}

pub record Entry : Type 0 where
  pub tag : ℕ
  pub state : Coh

-- an entry that was never written
abbrev pub empty_entry : Entry
empty_entry = record { tag = 0; state = I }

-- the entry holds the tag: it has this tag, in a state other than I. An entry in I keeps a tag, which says nothing
pub record Holds (h : Entry) (t : ℕ) : Type 0 where
  pub is_valid : is_readable h.state ≡ true
  pub is_tag : h.tag ≡ t

-- the same as a test
abbrev pub holds : Entry → ℕ → Bool
holds h t = is_readable h.state && h.tag == t

-- another state, the same tag
abbrev pub with_state : Entry → Coh → Entry
with_state h state = record { tag = h.tag; state = state }

-- in I, where it holds the tag
abbrev pub wiped_entry : ℕ → Entry → Entry
wiped_entry t h = if holds h t then with_state h I else h

-- cache c drops a tag: each entry of c that holds it becomes I
unfoldable pub wiped_in_cache : ℕ → ℕ → (ℕ → ℕ → Entry) → ℕ → ℕ → Entry
wiped_in_cache c t h i w = if i == c then wiped_entry t (h i w) else h i w

-- how often a number stands in a list
abbrev pub times : ℕ → List ℕ → ℕ
times c [] = 0
times c (x ∷ xs) = (if c == x then 1 else 0) + times c xs

-- each cache of a list, which has it once, drops a tag
abbrev pub wiped_in_caches : List ℕ → ℕ → (ℕ → ℕ → Entry) → ℕ → ℕ → Entry
wiped_in_caches to t directory c w = if times c to == 1 then wiped_entry t (directory c w) else directory c w

-- A copy in one of these states may be dropped and nothing is lost: it is no copy, or clean and shared.
-- E isn't light: its cache may have stored since, without a word to the engine.
abbrev pub is_light : Coh → Bool
is_light I = true
is_light S = true
is_light E = false
is_light F = true
is_light M = false
is_light O = false
