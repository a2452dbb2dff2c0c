use Rattle.std.proofs.Common.{arith, subst, sym}
use Rattle.bk_base.specs.Places.{Shape}
use Rattle.bk_msg.specs.Within.{IsWithin}
use Rattle.bk_system.proofs.Queues.{outward-at}
use Rattle.bk_system.proofs.sending.send_all.Goals as goal

pub send_one-requires-clause-within : goal.send_one-requires-clause-within
send_one-requires-clause-within c =
    subst (λ (k : Shape). IsWithin k c.message-item.result) (sym c.loop-message.invariant.commands_config)
    (outward-at c.args.commands.now.config c.args.sent.now c.loop-message.message-index c.message-item.result c.requires.within
    (omega arith) c.message-item.is)
