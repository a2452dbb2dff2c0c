-- The memory's table: what it does with a message, and what it answers.
use Rattle.std.specs.Prelude.{ℕ, ◌+◌, List, [], ◌∷◌, ◌&&◌, ◌==◌, ◌%◌, if◌then◌else◌, Option, Some, None, slice_index}
use Rattle.bk_base.specs.Places.{block_of, block_start, word_of}
use Rattle.bk_base.specs.Tables.{put}
use Rattle.bk_msg.specs.declared.row.Row.{Row}
use Rattle.bk_msg.specs.declared.row.Row.TheVariants as rows
use Rattle.bk_msg.specs.declared.row.TheConstants.{ENGINE, MEMORY}

-- the eight words of the block that begins at an address
abbrev pub words_from : (ℕ → ℕ) → ℕ → List ℕ
words_from memory a = memory a ∷ memory (a + 8) ∷ memory (a + 16) ∷ memory (a + 24) ∷ memory (a + 32) ∷ memory (a + 40)
    ∷ memory (a + 48)
    ∷ memory (a + 56) ∷ []

-- a block written: each of its words has the new value, all others stay
abbrev pub with_block : (ℕ → ℕ) → ℕ → List ℕ → ℕ → ℕ
with_block memory addr words a = if block_of a == block_of addr && a % 8 == 0 then slice_index words (word_of a) else memory a

-- Write and WriteWord change the words
abbrev pub memory_after : (ℕ → ℕ) → Row → ℕ → ℕ
memory_after memory (rows.Write _ _ addr words) = with_block memory addr words
memory_after memory (rows.WriteWord _ _ addr word) = put memory addr word
memory_after memory m = memory

-- Read answers the block's words
abbrev pub answer_to : (ℕ → ℕ) → Row → Option Row
answer_to memory (rows.Read _ _ addr) = Some (rows.Block MEMORY ENGINE (block_start addr) (words_from memory (block_start addr)))
answer_to memory m = None
