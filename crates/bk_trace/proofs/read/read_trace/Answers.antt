use Rattle.bk_trace.proofs.Whole.{is_found, is_only, is_off}
use Rattle.bk_trace.proofs.read.read_trace.Goals as goal

pub returns-clause-found : goal.returns-clause-found
returns-clause-found c = is_found c.args.text.now c.read.result c.read.ensures

pub returns-clause-only : goal.returns-clause-only
returns-clause-only c = λ p e. is_only c.args.text.now c.read.result p c.read.ensures e

pub returns-clause-bad : goal.returns-clause-bad
returns-clause-bad c = is_off c.args.text.now c.read.result c.read.ensures
