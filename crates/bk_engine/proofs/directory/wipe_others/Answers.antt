-- No other cache has an entry S of the block, and the rest is as it was.
use Rattle.bk_dir.specs.Directories.{contents_of}
use Rattle.bk_engine.proofs.Renewed.{unshared_tells}
use Rattle.bk_engine.proofs.directory.wipe_others.Goals as goal

pub returns-clause-summed : goal.returns-clause-summed
returns-clause-summed c =
    unshared_tells c.args.config (contents_of c.args.directory.now) (contents_of c.invalidate.new.directory) c.args.held.now
    c.args.with_owner c.summary_for-summary.result c.unshared.result
    c.requires.way.cache c.summary_for-summary.ensures.value c.invalidate.ensures.state c.unshared.ensures
