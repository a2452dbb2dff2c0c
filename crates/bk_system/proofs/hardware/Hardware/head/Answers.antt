use Rattle.std.proofs.Common.{refl, ◌∙◌}
use Rattle.bk_system.specs.Channels.{queue}
use Rattle.bk_system.specs.Systems.{state_of}
use Rattle.bk_system.proofs.Delivered.{fill-first}
use Rattle.bk_system.proofs.hardware.Hardware.head.Goals as goal

pub returns-in-Fill-clause-value : goal.returns-in-Fill-clause-value
returns-in-Fill-clause-value c =
    c.head-in-Fill.ensures.value
    ∙ fill-first c.args.self.now.config (state_of c.args.self.now) (queue c.args.self.now.fills) c.args.channel c.fill_place.result
    c.in-Fill.to c.in-Fill.from c.args.self.now.few_caches c.requires c.in-Fill.is refl c.fill_place.ensures.value
