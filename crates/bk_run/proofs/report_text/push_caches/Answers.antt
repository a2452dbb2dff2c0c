use Rattle.std.proofs.Common.{string_bytes}
use Rattle.bk_run.specs.Report.{cache_text}
use Rattle.bk_system.specs.Systems.{state_of}
use Rattle.bk_run.proofs.Lines.{join-more}
use Rattle.bk_run.proofs.report_text.push_caches.Goals as goal

pub loop-cache-preserved : goal.loop-cache-preserved
loop-cache-preserved c =
    join-more c.loop-cache.cache (cache_text c.args.hardware.now.config (state_of c.args.hardware.now).caches)
    (string_bytes c.args.out.now) (string_bytes c.loop-cache.out) (string_bytes c.push_cache.new.out) c.loop-cache.invariant
    c.in_ok-push_cache.ensures
