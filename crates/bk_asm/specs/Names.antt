-- What names stand for.
use Rattle.std.specs.Prelude.{ℕ, ◌^◌, ◌==◌, Bool, true, false, ◌&&◌, ◌||◌, nat_lt, List, [], ◌∷◌, length, Option, Some, None, codes, bit_or, option_and_then, if◌then◌else◌}
use Rattle.std.specs.List.{slice_split, before_first, after_first, position_or_len}
use Rattle.std.specs.Str.{bytes_eq}
use Rattle.bk_asm.specs.declared.names.Names.{Names}
use Rattle.bk_asm.specs.declared.names.Names.TheVariants as names

-- a name, and the number that it stands for
abbrev pub Naming : Type 0
Naming = List ℕ × ℕ

-- the names of the values of a know field, in the order of the values
abbrev pub value_names : ℕ → List Naming
value_names field =
    if field == 1 then (codes "Idle", 0) ∷ (codes "Blocked", 1) ∷ (codes "Held", 2) ∷ (codes "Closing", 3) ∷ []
    else if field == 2 then (codes "None", 0) ∷ (codes "Request", 1) ∷ (codes "InvAck", 2) ∷ (codes "CohAck", 3) ∷ (codes "Wb", 4)
    ∷ (codes "NullWb", 5) ∷ (codes "Block", 6) ∷ []
    else if field == 3 then (codes "free", 0) ∷ (codes "pending", 1) ∷ []
    else if field == 4 then (codes "Rd", 0) ∷ (codes "Wr", 1) ∷ (codes "UcRd", 2) ∷ (codes "UcWr", 3) ∷ (codes "Evict", 4) ∷ []
    else if field == 5 then (codes "no", 0) ∷ (codes "row", 1) ∷ (codes "sum", 2) ∷ []
    else if field == 6 then (codes "I", 0) ∷ (codes "S", 1) ∷ (codes "E", 2) ∷ (codes "F", 3) ∷ (codes "M", 4)
    ∷ (codes "O", 5) ∷ []
    else if field == 7 then (codes "none", 0) ∷ (codes "E", 1) ∷ (codes "F", 2) ∷ (codes "M", 3) ∷ (codes "O", 4) ∷ []
    else if field == 8 then (codes "no", 0) ∷ (codes "yes", 1) ∷ []
    else if field == 9 then (codes "light", 0) ∷ (codes "heavy", 1) ∷ []
    else if field == 10 then (codes "zero", 0) ∷ (codes "some", 1) ∷ []
    else if field == 11 then (codes "idle", 0) ∷ (codes "asked", 1) ∷ (codes "dirty", 2) ∷ []
    else if field == 12 then (codes "idle", 0) ∷ (codes "asked", 1) ∷ (codes "got", 2) ∷ (codes "written", 3) ∷ []
    else if field == 13 then (codes "paid", 0) ∷ (codes "S", 1) ∷ (codes "E", 2) ∷ (codes "F", 3) ∷ (codes "M", 4)
    ∷ (codes "O", 5) ∷ []
    else if field == 14 then (codes "paid", 0) ∷ (codes "I", 1) ∷ (codes "S", 2) ∷ (codes "F", 3) ∷ (codes "O", 4) ∷ []
    else (codes "0", 0) ∷ (codes "1", 1) ∷ []

-- the classes of messages that an engine waits for
abbrev pub class_names : List Naming
class_names = (codes "resp", 0) ∷ (codes "mem", 1) ∷ (codes "req", 2) ∷ []

-- the names of each sort; states stand for their codes
abbrev pub names_of : Names → List Naming
names_of names.Register = (codes "r0", 0) ∷ (codes "r1", 1) ∷ (codes "r2", 2) ∷ (codes "r3", 3) ∷ (codes "r4", 4)
    ∷ (codes "r5", 5)
    ∷ (codes "r6", 6) ∷ (codes "r7", 7) ∷ []
names_of names.Flag = (codes "f0", 0) ∷ (codes "f1", 1) ∷ (codes "f2", 2) ∷ (codes "f3", 3) ∷ []
names_of names.State = (codes "I", 0) ∷ (codes "S", 1) ∷ (codes "E", 2) ∷ (codes "F", 3) ∷ (codes "M", 6) ∷ (codes "O", 7) ∷ []
names_of names.Valid = (codes "S", 1) ∷ (codes "E", 2) ∷ (codes "F", 3) ∷ (codes "M", 6) ∷ (codes "O", 7) ∷ []
names_of names.Clean = (codes "I", 0) ∷ (codes "S", 1) ∷ []
names_of names.Granted = (codes "S", 1) ∷ (codes "E", 2) ∷ (codes "F", 3) ∷ (codes "M", 6) ∷ []
names_of names.Left = (codes "I", 0) ∷ (codes "S", 1) ∷ (codes "F", 3) ∷ (codes "O", 7) ∷ []
names_of names.Received = (codes "S", 1) ∷ (codes "F", 3) ∷ (codes "M", 6) ∷ (codes "O", 7) ∷ []
names_of names.Whose = (codes "own", 0) ∷ (codes "owner", 1) ∷ []
names_of names.Holder = (codes "own", 0) ∷ (codes "owner", 1) ∷ (codes "victim", 2) ∷ []
names_of names.Pending = (codes "wp", 1) ∷ []
names_of names.Owner = (codes "o", 1) ∷ []
names_of names.Tested = (codes "head", 2) ∷ (codes "gp", 3) ∷ (codes "kind", 4) ∷ (codes "own", 6) ∷ (codes "owner", 7)
    ∷ (codes "others", 8) ∷ (codes "victim", 9) ∷ (codes "acks", 10) ∷ (codes "f0", 15) ∷ (codes "f1", 16) ∷ (codes "f2", 17)
    ∷ (codes "f3", 18) ∷ []
names_of names.Field = (codes "stage", 1) ∷ (codes "head", 2) ∷ (codes "gp", 3) ∷ (codes "kind", 4) ∷ (codes "summ", 5)
    ∷ (codes "own", 6)
    ∷ (codes "owner", 7) ∷ (codes "others", 8) ∷ (codes "victim", 9) ∷ (codes "acks", 10) ∷ (codes "wb", 11) ∷ (codes "mem", 12)
    ∷ (codes "dreq", 13) ∷ (codes "down", 14) ∷ (codes "f0", 15) ∷ (codes "f1", 16) ∷ (codes "f2", 17) ∷ (codes "f3", 18) ∷ []

-- what a word stands for
abbrev pub named : List Naming → List ℕ → Option ℕ
named [] word = None
named (name ∷ more) word = if bytes_eq name.0 word then Some name.1 else named more word

-- a set with the values that these words stand for, one bit a value
abbrev pub set_with : List Naming → ℕ → List (List ℕ) → Option ℕ
set_with names set [] = Some set
set_with names set (word ∷ words) = option_and_then (λ value. set_with names (bit_or set (2 ^ value)) words) (named names word)

-- the set of the values whose names a word has, with a separator between them
abbrev pub joined : List Naming → ℕ → List ℕ → Option ℕ
joined names separator word = set_with names 0 (slice_split (λ b. b == separator) word)

-- what stands before the first separator, and what stands behind it where there is one
abbrev pub cut_at : ℕ → List ℕ → List ℕ × Option (List ℕ)
cut_at separator bytes = (
  before_first (λ b. b == separator) bytes,
  if nat_lt (position_or_len (λ b. b == separator) bytes) (length bytes) then Some (after_first (λ b. b == separator) bytes) else None,
)

-- whether a name stands for this number
abbrev pub has_value : List Naming → ℕ → Bool
has_value [] n = false
has_value (name ∷ more) n = name.1 == n || has_value more n

-- each name stands for a number below this one
abbrev pub all_below : ℕ → List Naming → Bool
all_below limit [] = true
all_below limit (name ∷ more) = nat_lt name.1 limit && all_below limit more
