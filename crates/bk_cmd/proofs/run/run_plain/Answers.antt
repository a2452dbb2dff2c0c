use Rattle.std.proofs.Common.{◌∙◌, Some, ap, inr}
use Rattle.bk_outer.specs.Counts.{Rose}
use Rattle.bk_cmd.specs.Inputs.{seen}
use Rattle.bk_cmd.specs.Told.{told}
use Rattle.bk_cmd.specs.Words.{OfFile, Replay}
use Rattle.bk_cmd.specs.declared.words.Command as code
use Rattle.bk_cmd.proofs.Completes.{stopped-by-memory}
use Rattle.bk_cmd.proofs.run.run_plain.Goals as goal

pub returns-in-Err-clause-complete : goal.returns-in-Err-clause-complete
returns-in-Err-clause-complete g c = λ has read written.
    let shelf = c.args.shelf.now in
    let after = c.answer_of.new.shelf in
    inr (stopped-by-memory (seen g.H.Shelf.files g.H.Shelf.reads shelf after) c.args.words.now
    (OfFile c.in-OfFile.question c.in-OfFile.name.now) (Rose (g.H.Shelf.faults shelf) (g.H.Shelf.faults after))
    (Rose (g.H.Shelf.misses shelf) (g.H.Shelf.misses after)) c.in-Err.stop c.stopped-in-Err.result
    (c.in-Some.ensures.value ∙ ap (λ (command : code.Command). Some (told command)) c.in-OfFile.is) has read c.in-Err.ensures.err
    c.stopped-in-Err.ensures.facts)

pub returns-in-Err-inputs_of-clause-complete : goal.returns-in-Err-inputs_of-clause-complete
returns-in-Err-inputs_of-clause-complete g c = λ has read written.
    let shelf = c.args.shelf.now in
    let after = c.inputs_of.new.shelf in
    inr (stopped-by-memory (seen g.H.Shelf.files g.H.Shelf.reads shelf after) c.args.words.now
    (Replay c.in-Replay.output c.in-Replay.image.now c.in-Replay.trace.now) (Rose (g.H.Shelf.faults shelf) (g.H.Shelf.faults after))
    (Rose (g.H.Shelf.misses shelf) (g.H.Shelf.misses after)) c.in-Err-inputs_of.stop c.stopped-in-Err-inputs_of.result
    (c.in-Some.ensures.value ∙ ap (λ (command : code.Command). Some (told command)) c.in-Replay.is) has read
    c.in-Err-inputs_of.ensures.stop c.stopped-in-Err-inputs_of.ensures.facts)
