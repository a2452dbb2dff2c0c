use Rattle.std.proofs.Common.{◌≡◌, None, arith}
use Rattle.bk_isa.specs.Table.{fault_in}
use Rattle.bk_isa.proofs.Forms.{form_in_range}
use Rattle.bk_isa.proofs.instr.read.Goals as goal

pub invariant_of-result : goal.invariant_of-result
invariant_of-result c =
    let none : fault_in c.unpack-fields.result ≡ None = cc in
    rw c.form_of.ensures
    (form_in_range c.unpack-fields.result (record {
      op = omega arith;
      a = omega arith;
      b = omega arith;
      c = omega arith;
      imm = omega arith;
    }) none)
