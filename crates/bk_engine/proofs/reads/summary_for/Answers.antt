-- What is kept is of the configuration, as what is summed up is.
use Rattle.bk_dir.specs.Directories.{contents_of}
use Rattle.bk_engine.proofs.Kept.{told, kept_own_way, kept_owner, kept_others}
use Rattle.bk_engine.proofs.reads.summary_for.Goals as goal

pub returns-in-Some-clause-own_way : goal.returns-in-Some-clause-own_way
returns-in-Some-clause-own_way c =
    kept_own_way c.args.config (contents_of c.args.directory.now) c.args.held.now c.in-Some.summary c.requires.way
    (told c.args.config (contents_of c.args.directory.now) c.args.held.now c.args.summed.now c.in-Some.summary c.requires.summed
    c.in-Some.is)

pub returns-in-Some-clause-owner : goal.returns-in-Some-clause-owner
returns-in-Some-clause-owner c =
    kept_owner c.args.config (contents_of c.args.directory.now) c.args.held.now c.in-Some.summary
    (told c.args.config (contents_of c.args.directory.now) c.args.held.now c.args.summed.now c.in-Some.summary c.requires.summed
    c.in-Some.is)

pub returns-in-Some-clause-others : goal.returns-in-Some-clause-others
returns-in-Some-clause-others c =
    kept_others c.args.config (contents_of c.args.directory.now) c.args.held.now c.in-Some.summary
    (told c.args.config (contents_of c.args.directory.now) c.args.held.now c.args.summed.now c.in-Some.summary c.requires.summed
    c.in-Some.is)
