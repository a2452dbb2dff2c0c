use Rattle.std.proofs.Common.{Ok, sym, ap, ◌∙◌}
use Rattle.std.specs.Str.Lines.{lines}
use Rattle.bk_trace.specs.Reading.{lines_at}
use Rattle.bk_trace.proofs.Loop.{trace_read}
use Rattle.bk_trace.proofs.read.read.Goals as goal

pub returns : goal.returns
returns c =
    let found = c.in-Ok.found in
    let caches = ap (λ config. config.caches) c.config.view_is in
    let given = ap (λ n. lines_at 10000 n 0 found.1 (lines found.2.now)) (sym caches) ∙ c.in_ok-lines.ensures.value in
    trace_read c.args.text.now (found.0, (found.1, lines found.2.now)) c.in_ok-lines.lines.items c.in-Ok.ensures.value given
    ∙ ap Ok (sym c.in_ok-make.ensures)
