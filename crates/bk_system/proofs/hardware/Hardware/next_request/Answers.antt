use Rattle.bk_system.proofs.Nexts.{next-told}
use Rattle.bk_system.proofs.hardware.Hardware.next_request.Goals as goal

pub returns : goal.returns
returns c = next-told c.args.self.now.requests c.args.self.now.config.caches c.args.start c.next.result
    c.args.self.now.requests_each c.next.ensures
