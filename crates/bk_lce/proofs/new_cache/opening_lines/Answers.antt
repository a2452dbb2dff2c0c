-- A clone of the empty line is the empty line.
use Rattle.std.proofs.Common.{◌*◌, List, subst, sym}
use Rattle.std.proofs.lemmas.Result.{IfOk-weaker}
use Rattle.bk_lce.specs.declared.line.Line.{Line}
use Rattle.bk_lce.specs.Lists.{AreOpening}
use Rattle.bk_lce.proofs.Unused.{opening_lines_are}
use Rattle.bk_lce.proofs.new_cache.opening_lines.Goals as goal

pub returns-clause-lines : goal.returns-clause-lines
returns-clause-lines c =
    IfOk-weaker c.vec.result _ _
    (λ v made. subst (λ (xs : List Line). AreOpening c.args.ways xs) (sym (made (λ y same. same)))
    (opening_lines_are c.args.ways (c.args.sets * c.args.ways)))
    c.vec.ensures.items_if_clones_equal
