use Rattle.std.proofs.Common.{◌≡◌, map, drop}
use Rattle.bk_asm.specs.Writing.{name_of}
use Rattle.bk_asm.proofs.writing.name_of.Given as goal

abbrev pub invariant-loop-name : goal.invariant-loop-name
invariant-loop-name l = name_of (map (λ name. (name.0.now, name.1)) (drop l.name-index l.names)) l.number
    ≡ name_of (map (λ name. (name.0.now, name.1)) l.names) l.number
