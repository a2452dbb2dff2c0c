use Rattle.bk_image.proofs.Grown.{one_more}
use Rattle.bk_image.proofs.writing.push_lines.Goals as goal

pub loop-know_line-preserved : goal.loop-know_line-preserved
loop-know_line-preserved c =
    one_more c.args.bytes.now.items c.loop-know_line.bytes.items c.push_line.new.bytes.items c.args.knows.now
    c.loop-know_line.know_line-index c.know_line-item.result
    c.loop-know_line-test.true c.know_line-item.is c.loop-know_line.invariant c.in_ok-push_line.ensures.value c.in_ok-push_line.ensures.mask
