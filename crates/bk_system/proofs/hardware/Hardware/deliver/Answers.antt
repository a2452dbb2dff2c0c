use Rattle.std.proofs.Common.{refl}
use Rattle.bk_system.specs.Channels.{queue}
use Rattle.bk_system.specs.Systems.{state_of}
use Rattle.bk_system.proofs.Delivered.{on-ok, added, request-changed, command-changed, response-changed, fill-changed, memout-changed, memin-changed}
use Rattle.bk_system.proofs.hardware.Hardware.deliver.Goals as goal

pub returns-in-Request-clause-ok : goal.returns-in-Request-clause-ok
returns-in-Request-clause-ok c =
    on-ok c.append.result
    (request-changed (state_of c.args.self.now) (queue c.append.new.channels) c.args.channel c.in-Request.from (added c.args.message.now)
    c.in-Request.is)
    c.append.ensures.ok

pub returns-in-Command-clause-ok : goal.returns-in-Command-clause-ok
returns-in-Command-clause-ok c =
    on-ok c.append-in-Command.result
    (command-changed (state_of c.args.self.now) (queue c.append-in-Command.new.channels) c.args.channel
    c.in-Command.to (added c.args.message.now)
    c.in-Command.is)
    c.append-in-Command.ensures.ok

pub returns-in-Fill-clause-ok : goal.returns-in-Fill-clause-ok
returns-in-Fill-clause-ok c =
    on-ok c.append-in-Fill.result
    (fill-changed c.args.self.now.config (state_of c.args.self.now) (queue c.append-in-Fill.new.channels)
    (queue c.args.self.now.fills) c.args.channel c.fill_place.result c.in-Fill.to c.in-Fill.from (added c.args.message.now)
    c.args.self.now.few_caches c.requires.channel c.in-Fill.is refl c.fill_place.ensures.value)
    c.append-in-Fill.ensures.ok

pub returns-in-Response-clause-ok : goal.returns-in-Response-clause-ok
returns-in-Response-clause-ok c =
    on-ok c.append-in-Response.result
    (response-changed (state_of c.args.self.now) (queue c.append-in-Response.new.channels) c.args.channel
    c.in-Response.from (added c.args.message.now)
    c.in-Response.is)
    c.append-in-Response.ensures.ok

pub returns-in-Memout-clause-ok : goal.returns-in-Memout-clause-ok
returns-in-Memout-clause-ok c =
    on-ok c.append-in-Memout.result
    (memout-changed (state_of c.args.self.now) (queue c.append-in-Memout.new.channels) (queue c.args.self.now.memout) c.args.channel
    (added c.args.message.now) c.in-Memout.is refl)
    c.append-in-Memout.ensures.ok

pub returns-in-Memin-clause-ok : goal.returns-in-Memin-clause-ok
returns-in-Memin-clause-ok c =
    on-ok c.append-in-Memin.result
    (memin-changed (state_of c.args.self.now) (queue c.append-in-Memin.new.channels) (queue c.args.self.now.memin) c.args.channel
    (added c.args.message.now) c.in-Memin.is refl)
    c.append-in-Memin.ensures.ok
