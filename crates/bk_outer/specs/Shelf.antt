-- Files under names, and how a shelf in memory answers.
use Rattle.std.specs.Prelude.{ℕ, List, [], ◌∷◌, ◌++◌, length, Option, None, Some, Result, Ok, Err, IsOk, ◌≡◌, nat_lt, bytes_eq, string_bytes, String, if◌then◌else◌}
use Rattle.std.specs.Global.{Global, Vec}
use Rattle.bk_outer.specs.declared.shelf.ReadAnswer.{ReadAnswer}
use Rattle.bk_outer.specs.declared.shelf.ReadAnswer.TheVariants.{Absent, Failed, TooLong, Memory}
use Rattle.std.specs.declared.io.ErrorKind.{ErrorKind}
use Rattle.std.specs.declared.io.ErrorKind.TheVariants.{NotFound, OutOfMemory}
use Rattle.bk_outer.specs.declared.shelf.TheConstants.{FILE_LIMIT}
use Rattle.bk_outer.specs.Reads.{Reads}
use Rattle.bk_outer.specs.Counts.{one_more, is_failing}

-- a shelf in memory: its files, the numbers of the calls that fail, what its reads gave, how many calls it has had, and its two counts
pub record MemoryShelf : Type 0 where
  pub files : List (String Global × Vec ℕ)
  pub failing : List ℕ
  pub reads : Reads
  pub calls : ℕ
  pub faults : ℕ
  pub misses : ℕ

-- the bytes of the first file with a name
abbrev pub file_in : List (String Global × Vec ℕ) → List ℕ → Option (List ℕ)
file_in [] name = None
file_in (f ∷ fs) name = if bytes_eq (string_bytes f.0) name then Some f.1.items else file_in fs name

-- what a read of a file answers, where there is memory for it
abbrev pub answer_of : Option (List ℕ) → Result (List ℕ) ReadAnswer
answer_of None = Err Absent
answer_of (Some bytes) = if nat_lt FILE_LIMIT (length bytes) then Err TooLong else Ok bytes

-- the answer of the next read
abbrev pub read_of : MemoryShelf → List ℕ → Result (List ℕ) ReadAnswer
read_of s name = if is_failing s.failing (one_more s.calls) then Err Failed else answer_of (file_in s.files name)

-- the shelf after a read of a name with this answer
abbrev pub after_read : MemoryShelf → List ℕ → Result (Vec ℕ) ReadAnswer → MemoryShelf
after_read s name (Ok bytes) = record s { calls = one_more s.calls; reads = s.reads ++ (name, bytes.items) ∷ [] }
after_read s name (Err Absent) = record s { calls = one_more s.calls; misses = one_more s.misses }
after_read s name (Err TooLong) = record s { calls = one_more s.calls; misses = one_more s.misses }
after_read s name (Err Failed) = record s { calls = one_more s.calls; faults = one_more s.faults }
after_read s name (Err Memory) = record s { calls = one_more s.calls }

-- a read gives this answer, or memory runs out where the bytes would be copied
abbrev pub ReadGives : Result (List ℕ) ReadAnswer → Result (Vec ℕ) ReadAnswer → Type 0
ReadGives expected (Ok bytes) = expected ≡ Ok bytes.items
ReadGives expected (Err Memory) = IsOk expected
ReadGives expected (Err Absent) = expected ≡ Err Absent
ReadGives expected (Err TooLong) = expected ≡ Err TooLong
ReadGives expected (Err Failed) = expected ≡ Err Failed

-- what an error of the system means where a file is opened: no file, no memory, or a fault
abbrev pub answer_of_open : ErrorKind → ReadAnswer
answer_of_open NotFound = Absent
answer_of_open OutOfMemory = Memory
answer_of_open _ = Failed

-- and where an open file is read
abbrev pub answer_of_read : ErrorKind → ReadAnswer
answer_of_read OutOfMemory = Memory
answer_of_read _ = Failed

-- a shelf of the system: what its reads gave, and its two counts
pub record SystemShelf : Type 0 where
  pub reads : Reads
  pub faults : ℕ
  pub misses : ℕ

-- the shelf after a read of a name with this answer
abbrev pub noted : SystemShelf → List ℕ → Result (Vec ℕ) ReadAnswer → SystemShelf
noted s name (Ok bytes) = record s { reads = s.reads ++ (name, bytes.items) ∷ [] }
noted s name (Err Absent) = record s { misses = one_more s.misses }
noted s name (Err TooLong) = record s { misses = one_more s.misses }
noted s name (Err Failed) = record s { faults = one_more s.faults }
noted s name (Err Memory) = s
