use Rattle.std.proofs.Common.{subst}
use Rattle.bk_msg.specs.declared.row.Row.{Row}
use Rattle.bk_msg.specs.Spelling.{IsMessage}
use Rattle.bk_rounds.proofs.Spelled.{packet-says}
use Rattle.bk_rounds.proofs.sending.packet_with.Goals as goal

pub returns : goal.returns
returns c k within =
    let message = subst (λ (m : Row). IsMessage m) c.row-in_range.ensures.value c.row-in_range.ensures.in_range in
    packet-says k c.encode.result c.args.message.now c.args.stamp message within c.encode.ensures.bytes c.encode.ensures.stamp
