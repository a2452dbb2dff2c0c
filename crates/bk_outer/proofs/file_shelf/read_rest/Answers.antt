use Rattle.std.proofs.Common.{rules}
use Rattle.bk_outer.proofs.Front.{all-read}
use Rattle.bk_outer.proofs.file_shelf.read_rest.Goals as goal

pub returns-in-Ok-2-clause-bytes : goal.returns-in-Ok-2-clause-bytes
returns-in-Ok-2-clause-bytes g c =
    all-read g.F.Read.remaining c.args.file c.take-front.result.inner c.take-front.result.limit 16777216 c.new-bytes.result.items
    c.read_to_end.new.buf.items c.take-front.ensures.inner c.take-front.ensures.limit c.new-bytes.ensures.items (search rules)
    c.in-Ok.ensures.bytes
