use Rattle.std.proofs.Common.{◌≡◌, map, drop}
use Rattle.bk_asm.specs.Names.{named}
use Rattle.bk_asm.proofs.names.named.Given as goal

abbrev pub invariant-loop-name : goal.invariant-loop-name
invariant-loop-name l = named (map (λ name. (name.0.now, name.1)) (drop l.name-index l.names)) l.word
    ≡ named (map (λ name. (name.0.now, name.1)) l.names) l.word
