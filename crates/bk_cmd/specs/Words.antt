-- Command lines.
use Rattle.std.specs.Prelude.{ℕ, ◌^◌, List, [], ◌∷◌, Option, Some, None, String, string_bytes, codes, if◌then◌else◌}
use Rattle.std.specs.Str.{bytes_eq}
use Rattle.std.specs.Global.{Global}
use Rattle.bk_base.specs.Places.{Shape}
use Rattle.bk_proto.specs.Sources.{source_of}
use Rattle.bk_cmd.specs.Numbers.{below, config_in}
use Rattle.bk_cmd.specs.declared.words.Question.{Question}
use Rattle.bk_cmd.specs.declared.words.Question.TheVariants.{Verdict, Assembly, Disassembly}
use Rattle.bk_cmd.specs.declared.words.Output.{Output}
use Rattle.bk_cmd.specs.declared.words.Output.TheVariants.{Report, LogAndReport}

-- what a command line asks for, with the names of its files
pub data Command : Type 0 where
  -- a question on one file
  OfFile : (question : Question) (name : List ℕ) → Command
  -- the source of a program
  Source : (text : List ℕ) → Command
  -- a trace of so many operations that is drawn from a seed
  Generate : (seed : ℕ) (config : Shape) (operations : ℕ) → Command
  -- the greedy run of an image over a trace, and what is written of it
  Replay : (output : Output) (image trace : List ℕ) → Command

-- what the second word of a replay asks for
abbrev pub output_of : List ℕ → Option Output
output_of mode = if bytes_eq mode (codes "serial") then Some Report else if bytes_eq mode (codes "log") then Some LogAndReport else None

abbrev pub replay_in : Option Output → List ℕ → List ℕ → Option Command
replay_in None image trace = None
replay_in (Some output) image trace = Some (Replay output image trace)

-- a seed below 2^32, a configuration in the profile, at most 10,000 operations
abbrev pub generate_with : Option ℕ → Option Shape → Option ℕ → Option Command
generate_with (Some seed) (Some config) (Some operations) = Some (Generate seed config operations)
generate_with _ _ _ = None

abbrev pub generate_in : List ℕ → List ℕ → List ℕ → List ℕ → List ℕ → Option Command
generate_in seed caches sets ways operations = generate_with (below (2 ^ 32) seed) (config_in caches sets ways) (below 10001 operations)

-- the words behind `verify`, `asm` and `dis`, behind `proto`, `gen` and `replay`

abbrev pub file_command : Question → List (String Global) → Option Command
file_command question (name ∷ []) = Some (OfFile question (string_bytes name))
file_command question _ = None

abbrev pub source_in : Option (List ℕ) → Option Command
source_in None = None
source_in (Some text) = Some (Source text)

abbrev pub source_command : List (String Global) → Option Command
source_command (name ∷ []) = source_in (source_of (string_bytes name))
source_command _ = None

abbrev pub generate_of : List (String Global) → Option Command
generate_of (seed ∷ caches ∷ sets ∷ ways ∷ operations ∷ []) =
    generate_in (string_bytes seed) (string_bytes caches) (string_bytes sets) (string_bytes ways) (string_bytes operations)
generate_of _ = None

abbrev pub replay_of : List (String Global) → Option Command
replay_of (mode ∷ image ∷ trace ∷ []) = replay_in (output_of (string_bytes mode)) (string_bytes image) (string_bytes trace)
replay_of _ = None

-- the command of `verify IMAGE`, `asm TEXT`, `dis IMAGE`, `proto NAME`, `gen SEED CACHES SETS WAYS OPS`, `replay serial IMAGE TRACE`
-- or `replay log IMAGE TRACE`; other words are none
abbrev pub command_of : List (String Global) → Option Command
command_of [] = None
command_of (command ∷ words) =
    if bytes_eq (string_bytes command) (codes "verify") then file_command Verdict words
    else if bytes_eq (string_bytes command) (codes "asm") then file_command Assembly words
    else if bytes_eq (string_bytes command) (codes "dis") then file_command Disassembly words
    else if bytes_eq (string_bytes command) (codes "proto") then source_command words
    else if bytes_eq (string_bytes command) (codes "gen") then generate_of words
    else if bytes_eq (string_bytes command) (codes "replay") then replay_of words
    else None

-- the names of the files of a command, in the order in which they are read
abbrev pub names_of : Command → List (List ℕ)
names_of (OfFile question name) = name ∷ []
names_of (Source text) = []
names_of (Generate seed config operations) = []
names_of (Replay output image trace) = image ∷ trace ∷ []
