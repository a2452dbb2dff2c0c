use Rattle.bk_system.specs.CacheStates.{states_of}
use Rattle.bk_system.proofs.Idle.{idle-told}
use Rattle.bk_system.proofs.caches.Caches.next_idle.Goals as goal

pub returns : goal.returns
returns c = idle-told c.args.self.now.config.caches c.args.self.now.idle c.args.start (states_of c.args.self.now) c.first_bit.result
    c.args.self.now.few c.args.self.now.idlers c.first_bit.ensures
