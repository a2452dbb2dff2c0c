-- The laws, as they are proved in InstructionLaws.
use Rattle.bk_engine.proofs.InstructionLaws.{only_pop_marks, request_marks, response_marks, block_marks_none, only_four_write, inv_sends, inv_reaches, inv_reaches_owner, halts_for_good}
use Rattle.bk_engine.proofs.laws.laws.Goals as goal

pub returns-clause-only_pop_marks : goal.returns-clause-only_pop_marks
returns-clause-only_pop_marks c = only_pop_marks

pub returns-clause-request_marks : goal.returns-clause-request_marks
returns-clause-request_marks c = request_marks

pub returns-clause-response_marks : goal.returns-clause-response_marks
returns-clause-response_marks c = response_marks

pub returns-clause-block_marks_none : goal.returns-clause-block_marks_none
returns-clause-block_marks_none c = block_marks_none

pub returns-clause-only_four_write : goal.returns-clause-only_four_write
returns-clause-only_four_write c = only_four_write

pub returns-clause-inv_sends : goal.returns-clause-inv_sends
returns-clause-inv_sends c = inv_sends

pub returns-clause-inv_reaches : goal.returns-clause-inv_reaches
returns-clause-inv_reaches c = inv_reaches

pub returns-clause-halts_for_good : goal.returns-clause-halts_for_good
returns-clause-halts_for_good c = halts_for_good

pub returns-clause-inv_reaches_owner : goal.returns-clause-inv_reaches_owner
returns-clause-inv_reaches_owner c = inv_reaches_owner
