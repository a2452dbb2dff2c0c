use Rattle.bk_system.proofs.Delivered.{all-within}
use Rattle.bk_system.proofs.hardware.Hardware.channels_are_within.Goals as goal

pub returns : goal.returns
returns c = all-within c.args.self.now
