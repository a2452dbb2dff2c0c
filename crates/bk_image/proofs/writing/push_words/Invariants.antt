use Rattle.std.proofs.Common.{◌≡◌, ◌++◌, take}
use Rattle.std.specs.List.{flat_map, AllByRecursion}
use Rattle.bk_isa.specs.Words.{IsInRange}
use Rattle.bk_image.specs.Spelling.{word}
use Rattle.bk_image.proofs.writing.push_words.Given as goal

abbrev pub invariant-loop-instr : goal.invariant-loop-instr
invariant-loop-instr l = (l.bytes.items ≡ l.initial.bytes.items ++ flat_map word (take l.instr-index l.instrs))
    × AllByRecursion IsInRange (take l.instr-index l.instrs)
