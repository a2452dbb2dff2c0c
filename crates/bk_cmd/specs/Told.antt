-- A command as the code has it.
use Rattle.std.specs.Prelude.{◌≤◌}
use Rattle.bk_cmd.specs.declared.words.Command as code
use Rattle.bk_cmd.specs.declared.words.Command.TheVariants as variants
use Rattle.bk_cmd.specs.Words.{Command, OfFile, Source, Generate, Replay}

abbrev pub told : code.Command → Command
told (variants.OfFile question name) = OfFile question name.now
told (variants.Source text) = Source text.now
told (variants.Generate seed config operations) = Generate seed config operations
told (variants.Replay output image trace) = Replay output image.now trace.now

-- a trace that is drawn has at most 10,000 operations
abbrev pub HasFewOperations : code.Command → Type 0
HasFewOperations (variants.Generate seed config operations) = operations ≤ 10000
HasFewOperations _ = Unit {0}
