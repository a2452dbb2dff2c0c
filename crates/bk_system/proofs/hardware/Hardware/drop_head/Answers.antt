use Rattle.std.proofs.Common.{refl}
use Rattle.bk_system.specs.Channels.{queue}
use Rattle.bk_system.specs.Systems.{state_of}
use Rattle.bk_system.proofs.Delivered.{without_first, request-changed, command-changed, response-changed, fill-changed, memout-changed, memin-changed}
use Rattle.bk_system.proofs.hardware.Hardware.drop_head.Goals as goal

pub returns-in-Request-clause-rest : goal.returns-in-Request-clause-rest
returns-in-Request-clause-rest c =
    request-changed (state_of c.args.self.now) (queue c.drop_head.new.self) c.args.channel c.in-Request.from without_first
    c.in-Request.is
    c.drop_head.ensures.rest

pub returns-in-Command-clause-rest : goal.returns-in-Command-clause-rest
returns-in-Command-clause-rest c =
    command-changed (state_of c.args.self.now) (queue c.drop_head-in-Command.new.self) c.args.channel c.in-Command.to without_first
    c.in-Command.is
    c.drop_head-in-Command.ensures.rest

pub returns-in-Fill-clause-rest : goal.returns-in-Fill-clause-rest
returns-in-Fill-clause-rest c =
    fill-changed c.args.self.now.config (state_of c.args.self.now) (queue c.drop_head-in-Fill.new.self)
    (queue c.args.self.now.fills) c.args.channel c.fill_place.result c.in-Fill.to c.in-Fill.from without_first
    c.args.self.now.few_caches c.requires c.in-Fill.is refl c.fill_place.ensures.value
    c.drop_head-in-Fill.ensures.rest

pub returns-in-Response-clause-rest : goal.returns-in-Response-clause-rest
returns-in-Response-clause-rest c =
    response-changed (state_of c.args.self.now) (queue c.drop_head-in-Response.new.self) c.args.channel c.in-Response.from without_first
    c.in-Response.is
    c.drop_head-in-Response.ensures.rest

pub returns-in-Memout-clause-rest : goal.returns-in-Memout-clause-rest
returns-in-Memout-clause-rest c =
    memout-changed (state_of c.args.self.now) (queue c.drop_head-in-Memout.new.self) (queue c.args.self.now.memout) c.args.channel
    without_first c.in-Memout.is refl
    c.drop_head-in-Memout.ensures.rest

pub returns-in-Memin-clause-rest : goal.returns-in-Memin-clause-rest
returns-in-Memin-clause-rest c =
    memin-changed (state_of c.args.self.now) (queue c.drop_head-in-Memin.new.self) (queue c.args.self.now.memin) c.args.channel
    without_first c.in-Memin.is refl
    c.drop_head-in-Memin.ensures.rest
