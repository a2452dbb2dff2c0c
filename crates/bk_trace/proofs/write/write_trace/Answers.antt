use Rattle.bk_trace.proofs.Written.{is_spelled, is_read}
use Rattle.bk_trace.proofs.write.write_trace.Goals as goal

pub returns-clause-spells : goal.returns-clause-spells
returns-clause-spells c = is_spelled (λ v. v.items) c.text_of.result c.args.trace.now c.text_of.ensures.trace c.text_of.ensures.text

pub returns-clause-again : goal.returns-clause-again
returns-clause-again c = is_read (λ v. v.items) c.text_of.result c.args.trace.now c.text_of.ensures.trace c.text_of.ensures.text
