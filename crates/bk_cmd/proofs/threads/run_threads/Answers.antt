use Rattle.std.proofs.Common.{inr}
use Rattle.bk_outer.specs.Counts.{Rose}
use Rattle.bk_cmd.specs.Inputs.{seen}
use Rattle.bk_cmd.proofs.Completes.{threads-by-memory}
use Rattle.bk_cmd.proofs.threads.run_threads.Goals as goal

pub returns-in-Err-clause-complete : goal.returns-in-Err-clause-complete
returns-in-Err-clause-complete g c = λ has read written.
    let shelf = c.args.shelf.now in
    let after = c.inputs_of.new.shelf in
    inr (threads-by-memory (seen g.H.Shelf.files g.H.Shelf.reads shelf after) c.args.words.now c.in-Some.image.now c.in-Some.trace.now
    (Rose (g.H.Shelf.faults shelf) (g.H.Shelf.faults after)) (Rose (g.H.Shelf.misses shelf) (g.H.Shelf.misses after))
    c.in-Err.stop c.stopped-in-Err.result c.in-Some.ensures has read c.in-Err.ensures.stop c.stopped-in-Err.ensures.facts)
