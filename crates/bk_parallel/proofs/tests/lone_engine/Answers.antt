use Rattle.std.proofs.Common.{[], ◌∷◌, ◌++◌, List, refl, ap, ◌∙◌}
use Rattle.bk_rounds.specs.declared.agent.Agent.{Agent}
use Rattle.bk_rounds.specs.declared.ends.Inlet.{Inlet}
use Rattle.bk_rounds.specs.declared.ends.Outlet.{Outlet}
use Rattle.bk_system.specs.declared.channel.Channel.TheVariants.{Request, Command, Memout}
use Rattle.bk_parallel.proofs.Beginnings.{lone-engine}
use Rattle.bk_parallel.proofs.tests.lone_engine.Goals as goal

pub returns : goal.returns
returns c =
    let requests : Inlet = record { channel = Request 0; receiver = c.args.requests } in
    let commands : Outlet = record { channel = Command 0; sender = c.args.commands } in
    let memout : Outlet = record { channel = Memout; sender = c.args.memout } in
    let engine : Agent = record {
      number = 1;
      hardware = c.in_ok-make.field-0;
      inlets = c.push.new.self;
      outlets = c.push-3.new.self;
      turns = 0;
      clock = 0;
      entries = c.new.result;
    } in
    lone-engine c.args.config engine requests commands memout c.requires.one refl c.in_ok-make.ensures.config c.in_ok-make.ensures.state
    c.new.ensures.items
    ((c.in_ok-push.ensures).items ∙ ap (λ (xs : List Inlet). xs ++ requests ∷ []) c.new-inlets.ensures.items)
    ((c.in_ok-push-3.ensures).items ∙ ap (λ (xs : List Outlet). xs ++ memout ∷ [])
    ((c.in_ok-push-2.ensures).items ∙ ap (λ (xs : List Outlet). xs ++ commands ∷ []) c.new-outlets.ensures.items))
    refl refl refl c.requires.taken c.requires.sent.0 c.requires.sent.1
