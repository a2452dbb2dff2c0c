use Rattle.std.proofs.Common.{◌≡◌, ◌++◌, take, drop}
use Rattle.std.specs.Prelude.{string_bytes}
use Rattle.std.specs.List.{AllByRecursion}
use Rattle.bk_isa.specs.Words.{IsInRange}
use Rattle.bk_asm.specs.Writing.{places_text}
use Rattle.bk_asm.proofs.PlaceAgain.{AreMasks}
use Rattle.bk_asm.proofs.writing.push_places.Given as goal

abbrev pub invariant-loop-instr : goal.invariant-loop-instr
invariant-loop-instr l = record {
  text : string_bytes l.out ++ places_text l.image l.place (drop l.instr-index l.image.instrs)
      ≡ string_bytes l.initial.out ++ places_text l.image 0 l.image.instrs;
  place : l.place ≡ l.instr-index;
  in_range : AllByRecursion IsInRange (take l.instr-index l.image.instrs);
  masks : AreMasks l.image.knows l.place;
}
