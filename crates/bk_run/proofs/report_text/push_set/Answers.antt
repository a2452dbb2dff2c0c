use Rattle.std.proofs.Common.{ℕ, ap, ◌∙◌, ◌++◌, string_bytes}
use Rattle.bk_lce.specs.CacheState.{CacheState}
use Rattle.bk_lce.specs.declared.line.Line.{Line}
use Rattle.bk_run.specs.Report.{line_text}
use Rattle.bk_system.specs.Systems.{state_of}
use Rattle.bk_run.proofs.Lines.{join-more}
use Rattle.bk_run.proofs.report_text.push_set.Goals as goal

pub loop-way-preserved : goal.loop-way-preserved
loop-way-preserved c =
    join-more c.loop-way.way
    (λ (w : ℕ). line_text c.args.cache c.args.set w (((state_of c.args.hardware.now).caches c.args.cache).lines c.args.set w))
    (string_bytes c.args.out.now) (string_bytes c.loop-way.out) (string_bytes c.push_line.new.out) c.loop-way.invariant
    (c.in_ok-push_line.ensures
    ∙ ap (λ (line : Line). string_bytes c.loop-way.out ++ line_text c.args.cache c.args.set c.loop-way.way line)
    (c.line-line.ensures ∙ ap (λ (cache : CacheState). cache.lines c.args.set c.loop-way.way) c.cache.ensures.state))
