use Rattle.std.proofs.Common.{◌≡◌, Ok, sym, ap, ◌∙◌, length, arith}
use Rattle.std.specs.Str.Lines.{lines}
use Rattle.bk_trace.specs.Reading.{line_of, line_at, lines_at}
use Rattle.bk_trace.proofs.Loop.{with_front, goes_on, few_kept, each_kept}
use Rattle.bk_trace.proofs.read.operations.Goals as goal

pub loop-rest-preserved : goal.loop-rest-preserved
loop-rest-preserved c =
    let front = c.loop-rest.operations.items in
    let caches = c.args.caches in
    let text = c.cut_line.result.0.now in
    let read : line_at 10000 caches (length front) (line_of text) (line_of text).words ≡ Ok c.in-Ok.found =
    cc (c.in-Ok.ensures.value, c.of.ensures) in
    let step = goes_on front caches c.loop-rest.line text (lines c.cut_line.result.1.now) c.in-Ok.found read in
    let so_far = ap (λ texts. with_front front (lines_at 10000 caches (length front) c.loop-rest.line texts))
    (sym c.cut_line.ensures.lines)
    ∙ c.loop-rest.invariant.value in
    let counted : c.len.result ≡ length front = omega arith in
    record {
      value = rw c.in_ok-keep.ensures (sym step ∙ so_far);
      few = rw c.in_ok-keep.ensures (few_kept front c.in-Ok.found c.len.result counted c.loop-rest.invariant.few c.in-Ok.ensures.few);
      each = rw c.in_ok-keep.ensures (each_kept caches front c.in-Ok.found c.loop-rest.invariant.each c.in-Ok.ensures.line);
      short = omega arith;
    }
