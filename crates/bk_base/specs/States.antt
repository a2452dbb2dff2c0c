-- The states of a block: their codes and the columns of the table of states.
use Rattle.std.specs.Prelude.{ℕ, Bool, true, false, Option, Some, None, ◌==◌, if◌then◌else◌}
use Rattle.bk_base.specs.declared.coh.Coh.{Coh}
use Rattle.bk_base.specs.declared.coh.Coh.TheVariants.{I, S, E, F, M, O}

abbrev pub code_of : Coh → ℕ
code_of I = 0
code_of S = 1
code_of E = 2
code_of F = 3
code_of M = 6
code_of O = 7

-- the state with a code
abbrev pub state_of_code : ℕ → Option Coh
state_of_code n = if n == 0 then Some I else if n == 1 then Some S else if n == 2 then Some E else if n == 3 then Some F else if n == 6
    then Some M else if n == 7 then Some O else None

-- a load may read each copy but an invalid one
abbrev pub is_readable : Coh → Bool
is_readable I = false
is_readable S = true
is_readable E = true
is_readable F = true
is_readable M = true
is_readable O = true

-- a store may write the sole copies
abbrev pub is_writable : Coh → Bool
is_writable I = false
is_writable S = false
is_writable E = true
is_writable F = false
is_writable M = true
is_writable O = false

-- memory may be behind these
abbrev pub is_dirty : Coh → Bool
is_dirty I = false
is_dirty S = false
is_dirty E = false
is_dirty F = false
is_dirty M = true
is_dirty O = true

-- the holder answers for the block
abbrev pub is_owner_like : Coh → Bool
is_owner_like I = false
is_owner_like S = false
is_owner_like E = true
is_owner_like F = true
is_owner_like M = true
is_owner_like O = true

-- what a directory's state says of a cache's: they are equal, or the cache has stored since it was granted E
abbrev pub covers : Coh → Coh → Bool
covers I I = true
covers S S = true
covers E E = true
covers E M = true
covers F F = true
covers M M = true
covers O O = true
covers _ _ = false
