-- What the other caches have of the block is as it was.
use Rattle.bk_dir.specs.Directories.{contents_of}
use Rattle.bk_dir.proofs.Renewed.{summary_renewed}
use Rattle.bk_dir.proofs.directory.Directory.renewed.Goals as goal

pub returns : goal.returns
returns c = λ before e same.
    summary_renewed c.args.self.now.config before (contents_of c.args.self.now) c.args.query c.args.kept.now
    c.own-own.result.state c.own-own.result.victim c.own-own.result.way
    c.own-own.ensures.state c.own-own.ensures.way c.own-own.ensures.victim e same
