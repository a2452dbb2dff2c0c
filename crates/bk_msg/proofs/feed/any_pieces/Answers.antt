use Rattle.bk_msg.proofs.Kept.{one_split, fed_from_new}
use Rattle.bk_msg.proofs.feed.any_pieces.Goals as goal

pub returns-clause-fed : goal.returns-clause-fed
returns-clause-fed c = fed_from_new

pub returns-clause-one : goal.returns-clause-one
returns-clause-one c = λ stream a b x y f g h k. let s = one_split a b stream x y f g h k in (s.messages, s.rests, s.faults-are)
