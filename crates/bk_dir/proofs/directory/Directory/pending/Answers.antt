use Rattle.std.proofs.Common.{refl}
use Rattle.bk_dir.specs.Lists.{bits_of}
use Rattle.bk_dir.proofs.directory.Directory.pending.Goals as goal

pub returns : goal.returns
unfolding bits_of
returns c = refl
