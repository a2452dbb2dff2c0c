use Rattle.std.proofs.Common.{map, sym, ◌∙◌}
use Rattle.bk_asm.proofs.Named.{named_has}
use Rattle.bk_asm.proofs.operand.name_at.Goals as goal

pub returns-in-Some-clause-range : goal.returns-in-Some-clause-range
returns-in-Some-clause-range c = named_has (map (λ name. (name.0.now, name.1)) c.args.names.now) c.in_ok-word.word.word.now c.in-Some.value
    (sym c.named.ensures ∙ c.in-Some.is)
