use Rattle.bk_system.proofs.Nexts.{next-told}
use Rattle.bk_system.proofs.hardware.Hardware.next_command.Goals as goal

pub returns : goal.returns
returns c = next-told c.args.self.now.commands c.args.self.now.config.caches c.args.start c.next.result
    c.args.self.now.commands_each c.next.ensures
