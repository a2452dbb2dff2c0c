-- A segment is five words of 64 bits. Way w has bits 37 * w to 37 * w + 36 of the number that they make, counted from the
-- lowest bit of the first word: three bits of state code, then 34 bits of tag.
use Rattle.std.specs.Prelude.{◌≡◌, ℕ, zero, suc, ◌+◌, ◌*◌, ◌/◌, ◌%◌, ◌^◌, ◌<◌, ◌≤◌, List, [], ◌∷◌, unwrap_or}
use Rattle.bk_base.specs.Places.{Shape, tag_limit}
use Rattle.bk_base.specs.States.{code_of, state_of_code}
use Rattle.bk_base.specs.declared.coh.Coh.{Coh}
use Rattle.bk_base.specs.declared.coh.Coh.TheVariants.{I}
use Rattle.bk_dir.specs.declared.entry.Entry.{Entry}

-- THE ENTRIES OF WORDS

-- the number that words make, the lowest first
abbrev pub number_of : List ℕ → ℕ
number_of [] = 0
number_of (word ∷ words) = word + 2 ^ 64 * number_of words

-- the bits of a way
abbrev pub field_at : ℕ → ℕ → ℕ
field_at number w = number / 2 ^ (37 * w) % 2 ^ 37

-- where they begin in their first word
abbrev pub shift_of : ℕ → ℕ
shift_of w = w * 37 % 64

-- the state with a code; no field has a code without a state
abbrev pub state_in : ℕ → Coh
state_in code = unwrap_or (state_of_code code) I

abbrev pub entry_in : ℕ → Entry
entry_in field = record { tag = field / 8; state = state_in (field % 8) }

-- THE WORDS OF ENTRIES

abbrev pub field_of : Entry → ℕ
field_of entry = entry.tag * 8 + code_of entry.state

-- the ways below a count, each at its bits
abbrev pub number_below : ℕ → (ℕ → Entry) → ℕ
number_below zero entries = 0
number_below (suc n) entries = number_below n entries + field_of (entries n) * 2 ^ (37 * n)

-- a word of a number
abbrev pub word_at : ℕ → ℕ → ℕ
word_at number i = number / 2 ^ (64 * i) % 2 ^ 64

-- the segment of as many ways: the bits of ways from there on are 0, and so are those from 296 on
abbrev pub segment_of : ℕ → (ℕ → Entry) → List ℕ
segment_of ways entries =
    word_at (number_below ways entries) 0 ∷ word_at (number_below ways entries) 1 ∷ word_at (number_below ways entries) 2
    ∷ word_at (number_below ways entries) 3 ∷ word_at (number_below ways entries) 4 ∷ []

-- WHAT A DIRECTORY KEEPS

-- a field's code is that of a state
abbrev pub HasCode : ℕ → Type 0
HasCode field = code_of (state_in (field % 8)) ≡ field % 8

-- a field that a way may have: its code is that of a state, its tag is one of a block, and it is 0 at a way that isn't there
pub record IsField (k : Shape) (w field : ℕ) : Type 0 where
  pub code : HasCode field
  pub tag : field / 8 < tag_limit k
  pub there : k.ways ≤ w → field ≡ 0
