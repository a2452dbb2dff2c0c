use Rattle.std.proofs.Common.{◌≡◌, map, drop}
use Rattle.bk_asm.specs.Operations.{operation_named}
use Rattle.bk_asm.proofs.operation.operation_named.Given as goal

abbrev pub invariant-loop-name : goal.invariant-loop-name
invariant-loop-name l = operation_named (map (λ m. (m.0.now, m.1)) (drop l.name-index l.operations)) l.word
    ≡ operation_named (map (λ m. (m.0.now, m.1)) l.operations) l.word
