-- An entry of the asking cache alone was written.
use Rattle.bk_dir.specs.Directories.{contents_of}
use Rattle.bk_engine.proofs.Kept.{told}
use Rattle.bk_engine.proofs.Renewed.{renewed_tells}
use Rattle.bk_engine.proofs.directory.write_flushed.Goals as goal

pub returns-in-Some-clause-summed : goal.returns-in-Some-clause-summed
returns-in-Some-clause-summed c =
    let d = contents_of c.args.directory.now in
    renewed_tells c.args.config c.write_named.new.directory.config d (contents_of c.write_named.new.directory) c.args.held.now
    c.args.who c.args.state c.query_of.result c.in-Some.kept c.renewed.result
    c.write_named.ensures.config c.query_of.ensures.value c.write_named.ensures.state c.if-who-ne-WHOSE_OWNER.true
    (told c.args.config d c.args.held.now c.args.summed.now c.in-Some.kept c.requires.summed c.in-Some.is) c.renewed.ensures
