use Rattle.std.proofs.Common.{◌≡◌, ◌+◌, drop}
use Rattle.bk_msg.specs.Reading.{first_fault}
use Rattle.bk_msg.proofs.codec.first_fault.Given as goal

abbrev pub invariant-loop-index : goal.invariant-loop-index
invariant-loop-index l = first_fault (l.index + 1) (drop l.index l.rules) l.rest ≡ first_fault 1 l.rules l.bytes
