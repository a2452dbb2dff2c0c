use Rattle.std.proofs.Common.{map, length, sym, ◌∙◌}
use Rattle.bk_asm.proofs.Named.{joined_some, joined_below}
use Rattle.bk_asm.proofs.operand.set_at.Goals as goal

pub returns-in-Some-clause-some : goal.returns-in-Some-clause-some
returns-in-Some-clause-some c = joined_some (map (λ name. (name.0.now, name.1)) c.args.names.now) 44 c.in_ok-word.word.word.now
    c.in-Some.set (sym c.joined.ensures ∙ c.in-Some.is)

pub returns-in-Some-clause-few : goal.returns-in-Some-clause-few
returns-in-Some-clause-few c = joined_below (length c.args.names.now) (map (λ name. (name.0.now, name.1)) c.args.names.now) 44
    c.in_ok-word.word.word.now c.in-Some.set c.requires.below (sym c.joined.ensures ∙ c.in-Some.is)
