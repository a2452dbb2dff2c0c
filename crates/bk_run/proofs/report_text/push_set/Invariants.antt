use Rattle.std.proofs.Common.{◌≡◌, ◌++◌}
use Rattle.std.specs.Prelude.{string_bytes}
use Rattle.bk_base.specs.Counting.{join_below}
use Rattle.bk_run.specs.Report.{line_text}
use Rattle.bk_system.specs.Systems.{state_of}
use Rattle.bk_run.proofs.report_text.push_set.Given as goal

-- the lines so far follow what was there
abbrev pub invariant-loop-way : goal.invariant-loop-way
invariant-loop-way l = string_bytes l.out ≡ string_bytes l.initial.out
    ++ join_below l.way (λ w. line_text l.cache l.set w (((state_of l.hardware).caches l.cache).lines l.set w))
