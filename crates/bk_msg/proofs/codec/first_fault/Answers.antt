use Rattle.std.proofs.Common.{◌+◌, drop, sym, ◌∙◌}
use Rattle.bk_msg.proofs.Places.{no_bytes_left}
use Rattle.bk_msg.proofs.codec.first_fault.Goals as goal

pub returns-in_default : goal.returns-in_default
returns-in_default c =
    sym (no_bytes_left (c.loop-index.index + 1) (drop c.loop-index.index c.args.rules.now) c.loop-index.rest.now c.in_default.len_below)
    ∙ c.loop-index.invariant
