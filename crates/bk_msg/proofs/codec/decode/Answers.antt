use Rattle.std.proofs.Common.{ap, ◌∙◌, arith}
use Rattle.bk_msg.specs.Reading.{decode}
use Rattle.bk_msg.proofs.Exactly.{found, fault, short, bad}
use Rattle.bk_msg.proofs.Messages.{decode_again}
use Rattle.bk_msg.proofs.codec.decode.Goals as goal

pub returns-clause-found : goal.returns-clause-found
returns-clause-found c = found c.args.bytes.now c.read.result (λ i. omega (arith, c.type_inv.bytes i)) c.read.ensures

pub returns-clause-only : goal.returns-clause-only
returns-clause-only c = λ m rest h e. c.read.ensures ∙ (ap decode e ∙ decode_again m rest h)

pub returns-clause-faults : goal.returns-clause-faults
returns-clause-faults c = fault c.args.bytes.now c.read.result (λ i. omega (arith, c.type_inv.bytes i)) c.read.ensures

pub returns-clause-short : goal.returns-clause-short
returns-clause-short c = short c.args.bytes.now c.read.result (λ i. omega (arith, c.type_inv.bytes i)) c.read.ensures

pub returns-clause-bad : goal.returns-clause-bad
returns-clause-bad c =
    λ place h none. bad c.args.bytes.now c.read.result place (λ i. omega (arith, c.type_inv.bytes i)) c.read.ensures h none
