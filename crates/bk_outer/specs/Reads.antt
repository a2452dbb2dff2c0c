-- What the reads of a shelf gave.
use Rattle.std.specs.Prelude.{ℕ, List}

-- the name and the bytes of each file that was read, in order
abbrev pub Reads : Type 0
Reads = List (List ℕ × List ℕ)
