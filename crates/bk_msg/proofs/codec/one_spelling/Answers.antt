use Rattle.bk_msg.proofs.Exactly.{one_spelling}
use Rattle.bk_msg.proofs.codec.one_spelling.Goals as goal

pub returns : goal.returns
returns c = λ a b x y ha hb e. one_spelling a b x y ha hb e
