use Rattle.std.proofs.Common.{◌≡◌, ◌++◌, map, drop}
use Rattle.std.specs.Prelude.{string_bytes}
use Rattle.bk_asm.specs.Writing.{fields_text}
use Rattle.bk_asm.proofs.writing.push_fields.Given as goal

abbrev pub invariant-loop-name : goal.invariant-loop-name
invariant-loop-name l =
    string_bytes l.out ++ fields_text (map (λ name. (name.0.now, name.1)) (drop l.name-index l.names)) l.base l.sets
    ≡ string_bytes l.initial.out ++ fields_text (map (λ name. (name.0.now, name.1)) l.names) l.base l.sets
