use Rattle.std.proofs.Common.{◌≡◌, ◌++◌, take}
use Rattle.std.specs.Prelude.{flat_map, string_bytes}
use Rattle.bk_run.specs.Report.{done_text}
use Rattle.bk_run.proofs.report_text.push_history.Given as goal

-- the lines so far follow what was there
abbrev pub invariant-loop-done : goal.invariant-loop-done
invariant-loop-done l = string_bytes l.out ≡ string_bytes l.initial.out ++ flat_map done_text (take l.done-index l.history)
