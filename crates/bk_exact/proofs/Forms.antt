-- The states of an instruction in range are those that its message may have.
use Rattle.std.proofs.Common.{◌≡◌, true, arith}
use Rattle.bk_base.specs.declared.coh.Coh.{Coh}
use Rattle.bk_base.specs.States.{code_of}
use Rattle.bk_isa.specs.declared.form.Form.{Form}
use Rattle.bk_isa.specs.declared.form.Form.TheVariants as forms
use Rattle.bk_isa.specs.declared.table.Allowed.TheVariants.{Zero}
use Rattle.bk_isa.specs.Fields.{fields_of}
use Rattle.bk_isa.specs.Table.{admits, holder, clean_states, granted_states, left_states, received_states}
use Rattle.bk_isa.specs.Words.{IsInRange}
use Rattle.bk_isa.proofs.Admitted.{AdmitsAll-from_none}
use Rattle.bk_msg.specs.declared.table.States.TheVariants.{Lowered, Left, Received, Granted}
use Rattle.bk_msg.specs.Table.{holds}
use Rattle.bk_engine.specs.Sends.{HasStates}

-- what the table of instructions admits as a state is what the table of messages has: for a flush, a block, and both sides of a transfer
lowers : (y : Coh) → admits clean_states (code_of y) ≡ true → holds Lowered y ≡ true
lowers y e = grind arith

grants : (y : Coh) → admits granted_states (code_of y) ≡ true → holds Granted y ≡ true
grants y e = grind arith

leaves : (y : Coh) → admits left_states (code_of y) ≡ true → holds Left y ≡ true
leaves y e = grind arith

receives : (y : Coh) → admits received_states (code_of y) ≡ true → holds Received y ≡ true
receives y e = grind arith

pub states-of : (f : Form) → IsInRange f → HasStates f
states-of (forms.Stwb who y) h =
    let p = AdmitsAll-from_none (record { a = holder; b = clean_states; c = Zero; imm = Zero }) (fields_of (forms.Stwb who y)) h.admitted
    in lowers y p.b
states-of (forms.Blk y) h =
    let p = AdmitsAll-from_none (record { a = granted_states; b = Zero; c = Zero; imm = Zero }) (fields_of (forms.Blk y)) h.admitted
    in grants y p.a
states-of (forms.Tr y z) h =
    let p = AdmitsAll-from_none (record { a = left_states; b = received_states; c = Zero; imm = Zero }) (fields_of (forms.Tr y z))
    h.admitted in (leaves y p.a, receives z p.b)
states-of f h = tt
