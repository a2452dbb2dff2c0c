-- The tests of the entry at a way, by the directory's contents, cache, set and tag.
use Rattle.std.specs.Prelude.{ℕ, Bool, ◌&&◌}
use Rattle.bk_base.specs.States.{is_owner_like}
use Rattle.bk_dir.specs.Contents.{Contents}
use Rattle.bk_dir.specs.Summaries.{holds, is_shared}

-- it holds the block
abbrev pub holds_at : Contents → ℕ → ℕ → ℕ → ℕ → Bool
holds_at d c set tag w = holds (d.entries c set w) tag

-- it holds the block and answers for it
abbrev pub answers_at : Contents → ℕ → ℕ → ℕ → ℕ → Bool
answers_at d c set tag w = holds_at d c set tag w && is_owner_like (d.entries c set w).state

-- it is an entry S of the block
abbrev pub shares_at : Contents → ℕ → ℕ → ℕ → ℕ → Bool
shares_at d c set tag w = holds_at d c set tag w && is_shared (d.entries c set w).state
