-- The word that is put together is the one with the way moved to the front.
use Rattle.std.proofs.Common.{arith}
use Rattle.bk_lce.proofs.Moved.{moved_list, moved_listed, moved_fits, unit_is}
use Rattle.bk_lce.proofs.recency.to_front.Goals as goal

pub overflow_mul-result-2 : goal.overflow_mul-result-2
overflow_mul-result-2 c =
    let fits = moved_fits c.args.ways c.args.place c.args.way c.args.word c.requires.place (omega arith) c.requires.ways
    c.requires.listed.below in
    rw (unit_is c.args.place (omega arith)) (omega (arith, fits))

pub overflow_add-result-2 : goal.overflow_add-result-2
overflow_add-result-2 c =
    let fits = moved_fits c.args.ways c.args.place c.args.way c.args.word c.requires.place (omega arith) c.requires.ways
    c.requires.listed.below in
    rw (unit_is c.args.place (omega arith)) (omega (arith, fits))

pub returns-clause-list : goal.returns-clause-list
returns-clause-list c =
    rw (unit_is c.args.place (omega arith))
    (moved_list c.args.ways c.args.place c.args.way c.args.word c.requires.place (omega arith)
    (c.requires.listed.once c.args.way c.requires.way) c.requires.there)

pub returns-clause-listed : goal.returns-clause-listed
returns-clause-listed c =
    rw (unit_is c.args.place (omega arith))
    (moved_listed c.args.ways c.args.place c.args.way c.args.word c.requires.place c.requires.way c.requires.ways c.requires.listed
    c.requires.there)
