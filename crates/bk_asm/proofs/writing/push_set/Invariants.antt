use Rattle.std.proofs.Common.{◌≡◌, ◌++◌, map, drop, true}
use Rattle.std.specs.Prelude.{string_bytes}
use Rattle.bk_asm.specs.Writing.{set_text}
use Rattle.bk_asm.proofs.writing.push_set.Given as goal

abbrev pub invariant-loop-name : goal.invariant-loop-name
invariant-loop-name l =
    string_bytes l.out ++ set_text (map (λ name. (name.0.now, name.1)) (drop l.name-index l.names)) l.first l.separator l.set
    ≡ string_bytes l.initial.out ++ set_text (map (λ name. (name.0.now, name.1)) l.names) true l.separator l.set
