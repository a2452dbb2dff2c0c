use Rattle.std.proofs.Common.{◌≡◌, ◌++◌}
use Rattle.std.specs.Prelude.{string_bytes}
use Rattle.bk_base.specs.Counting.{join_below}
use Rattle.bk_run.specs.Report.{set_text}
use Rattle.bk_system.specs.Systems.{state_of}
use Rattle.bk_run.proofs.report_text.push_cache.Given as goal

-- the lines so far follow what was there
abbrev pub invariant-loop-set : goal.invariant-loop-set
invariant-loop-set l = string_bytes l.out ≡ string_bytes l.initial.out
    ++ join_below l.set (set_text l.hardware.config (state_of l.hardware).caches l.cache)
