-- What a sink has taken.
use Rattle.std.specs.Prelude.{◌≡◌, ℕ, List, ◌++◌, length, min, take, Result, Ok, Err, IsOk, if◌then◌else◌}
use Rattle.bk_outer.specs.declared.sink.WriteAnswer.{WriteAnswer}
use Rattle.bk_outer.specs.declared.sink.WriteAnswer.TheVariants.{Failed, Memory}
use Rattle.bk_outer.specs.Counts.{one_more, is_failing}

-- a sink in memory: its bytes, how many it takes at a time, the numbers of the calls that fail, how many calls it has had, and its
-- count of failures
pub record MemorySink : Type 0 where
  pub bytes : List ℕ
  pub chunk : ℕ
  pub failing : List ℕ
  pub calls : ℕ
  pub faults : ℕ

-- the answer of the next write, where there is memory for it: the lesser of the piece's length and the chunk
abbrev pub write_of : MemorySink → List ℕ → Result ℕ WriteAnswer
write_of s piece = if is_failing s.failing (one_more s.calls) then Err Failed else Ok (min (length piece) s.chunk)

-- the sink after a write of the piece with this answer
abbrev pub after_write : MemorySink → List ℕ → Result ℕ WriteAnswer → MemorySink
after_write s piece (Ok n) = record s { calls = one_more s.calls; bytes = s.bytes ++ take n piece }
after_write s piece (Err Failed) = record s { calls = one_more s.calls; faults = one_more s.faults }
after_write s piece (Err Memory) = record s { calls = one_more s.calls }

-- a write gives this answer, or memory runs out where the bytes would be kept
abbrev pub WriteGives : Result ℕ WriteAnswer → Result ℕ WriteAnswer → Type 0
WriteGives expected (Ok n) = expected ≡ Ok n
WriteGives expected (Err Memory) = IsOk expected
WriteGives expected (Err Failed) = expected ≡ Err Failed

-- a sink of the system: the bytes that it has taken, and its count of failures
pub record SystemSink : Type 0 where
  pub taken : List ℕ
  pub faults : ℕ
