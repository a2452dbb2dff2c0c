use Rattle.std.proofs.Common.{string_bytes}
use Rattle.bk_run.specs.Log.{message_text}
use Rattle.bk_run.proofs.Logging.{lines-more}
use Rattle.bk_run.proofs.log_text.push_messages.Goals as goal

pub loop-message-preserved : goal.loop-message-preserved
loop-message-preserved c =
    lines-more message_text c.args.messages.now c.loop-message.message-index c.message-item.result
    (string_bytes c.args.out.now) (string_bytes c.loop-message.out) (string_bytes c.push_message.new.out) c.loop-message-test.true
    c.message-item.is
    c.loop-message.invariant c.in_ok-push_message.ensures
