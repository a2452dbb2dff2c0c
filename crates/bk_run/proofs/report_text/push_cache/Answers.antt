use Rattle.std.proofs.Common.{string_bytes}
use Rattle.bk_run.specs.Report.{set_text}
use Rattle.bk_system.specs.Systems.{state_of}
use Rattle.bk_run.proofs.Lines.{join-more}
use Rattle.bk_run.proofs.report_text.push_cache.Goals as goal

pub loop-set-preserved : goal.loop-set-preserved
loop-set-preserved c =
    join-more c.loop-set.set (set_text c.args.hardware.now.config (state_of c.args.hardware.now).caches c.args.cache)
    (string_bytes c.args.out.now) (string_bytes c.loop-set.out) (string_bytes c.push_set.new.out) c.loop-set.invariant
    c.in_ok-push_set.ensures
