use Rattle.bk_dir.proofs.Lists.{word-again}
use Rattle.bk_dir.proofs.directory.Directory.pending_word.Goals as goal

pub returns : goal.returns
returns c = word-again c.args.self.now.pending c.args.self.now.config.sets c.args.self.now.pending_each
