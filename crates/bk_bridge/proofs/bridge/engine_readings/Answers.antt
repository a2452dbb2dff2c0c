use Rattle.bk_bridge.proofs.Readings.{reads_alike}
use Rattle.bk_bridge.proofs.bridge.engine_readings.Goals as goal

pub returns : goal.returns
returns c = reads_alike
