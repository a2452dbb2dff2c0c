use Rattle.std.proofs.lemmas.Result.{err_from_is_err_and}
use Rattle.bk_image.specs.Reading.{lines_at}
use Rattle.bk_image.proofs.Loop.{lines_go_on, lines_end, lines_done}
use Rattle.bk_image.proofs.KnowLines.{lines_ascend}
use Rattle.bk_image.proofs.lines.lines_of.Goals as goal

pub returns-in_err-line-clause-value : goal.returns-in_err-line-clause-value
returns-in_err-line-clause-value c =
    let p = err_from_is_err_and c.from_residual.result c.from_residual.ensures.1 in
    let heading = c.args.heading in
    rw (p.1, p.2) (lines_end c.in_err-line.field-0.0 c.loop.lines.items c.args.total heading.instrs heading.knows c.loop.counter
    c.loop.least
    c.loop.rest.now (lines_at c.args.total heading.instrs heading.knows 0 c.args.bytes.now) c.loop-test.true c.in_err-line.ensures.value
    c.loop.invariant)

pub loop-preserved : goal.loop-preserved
loop-preserved c =
    let heading = c.args.heading in
    rw (
      c.in_ok-push.ensures.items,
      c.split_at.ensures.back,
    )
    (lines_go_on c.loop.lines.items c.args.total heading.instrs heading.knows c.loop.counter c.loop.least c.loop.rest.now c.in_ok-line.line
    (lines_at c.args.total heading.instrs heading.knows 0 c.args.bytes.now) c.loop-test.true c.in_ok-line.ensures.value c.loop.invariant)

pub returns-clause-value : goal.returns-clause-value
returns-clause-value c =
    let heading = c.args.heading in
    lines_done c.loop.lines.items c.args.total heading.instrs heading.knows c.loop.counter c.loop.least c.loop.rest.now
    (lines_at c.args.total heading.instrs heading.knows 0 c.args.bytes.now) c.loop-test.false c.loop.invariant

pub returns-clause-lines : goal.returns-clause-lines
returns-clause-lines c =
    let heading = c.args.heading in
    let done = lines_done c.loop.lines.items c.args.total heading.instrs heading.knows c.loop.counter c.loop.least c.loop.rest.now
    (lines_at c.args.total heading.instrs heading.knows 0 c.args.bytes.now) c.loop-test.false c.loop.invariant in
    lines_ascend c.args.total heading.instrs heading.knows 0 c.args.bytes.now (c.loop.lines.items, c.loop.rest.now) done
