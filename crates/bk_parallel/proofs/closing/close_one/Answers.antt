use Rattle.std.proofs.Common.{List, [], ◌∷◌, ◌++◌, if◌then◌else◌, sym, ap, ◌∙◌}
use Rattle.std.specs.Prelude.{◌==◌}
use Rattle.std.proofs.lemmas.Result.{on_ok_weaker}
use Rattle.bk_system.specs.Routes.{begins_at, ends_at}
use Rattle.bk_threads.specs.System.{messages_of}
use Rattle.bk_rounds.specs.declared.ends.Inlet.{Inlet}
use Rattle.bk_rounds.specs.declared.ends.Outlet.{Outlet}
use Rattle.bk_rounds.specs.Reading.{packets_in}
use Rattle.bk_parallel.specs.Teams.{inlets_at, outlets_at}
use Rattle.bk_parallel.proofs.LastEnds.{inlet-channel, inlet-table, outlet-channel, outlet-table}
use Rattle.bk_parallel.proofs.OneChannel.{begins-within, ends-within, moved-whole}
use Rattle.bk_parallel.proofs.closing.close_one.Goals as goal

pub close-left-requires : goal.close-left-requires
close-left-requires g c =
    let k = c.args.config in
    let channel = c.args.channel in
    let begin = begins-within k channel c.requires.between.there in
    let end = ends-within k channel c.requires.between.there in
    let joined = c.requires.joined.2 in
    let out = c.take_outlet-sender.ensures.taken in
    let into = c.take_inlet-receiver.ensures.taken in
    inlet-table k c.requires.joined.0 channel c.requires.joined.1 c.args.agents.now joined
    (inlets_at c.take_inlet-receiver.new.agents (ends_at k channel)) c.take_inlet-receiver.result end
    (sym (out.inlets (ends_at k channel)) ∙ into.inlets (ends_at k channel))
    ∙ sym (outlet-table k c.requires.joined.0 channel c.requires.joined.1 c.args.agents.now joined
    (outlets_at c.take_outlet-sender.new.agents (begins_at k channel)) c.take_outlet-sender.result begin
    (out.outlets (begins_at k channel)))

pub returns-clause-closes : goal.returns-clause-closes
returns-clause-closes g c =
    let k = c.args.config in
    let channel = c.args.channel in
    let begin = begins-within k channel c.requires.between.there in
    let end = ends-within k channel c.requires.between.there in
    let joined = c.requires.joined.2 in
    let out = c.take_outlet-sender.ensures.taken in
    let into = c.take_inlet-receiver.ensures.taken in
    let later = c.deliver_left.ensures.ends in
    let last = c.hand_over.ensures.ends in
    let inlet = c.take_inlet-receiver.result in
    let outlet = c.take_outlet-sender.result in
    let left = c.close-left.result in
    on_ok_weaker c.hand_over.result (λ moved. record {
      inlet = inlet;
      outlet = outlet;
      left = left;
      ends = inlet-channel k c.requires.joined.0 channel c.requires.joined.1 c.args.agents.now joined
          (inlets_at c.take_inlet-receiver.new.agents (ends_at k channel)) inlet end
          (sym (out.inlets (ends_at k channel)) ∙ into.inlets (ends_at k channel));
      begins = outlet-channel k c.requires.joined.0 channel c.requires.joined.1 c.args.agents.now joined
          (outlets_at c.take_outlet-sender.new.agents (begins_at k channel)) outlet begin (out.outlets (begins_at k channel));
      inlets = λ n. sym (out.inlets n) ∙ into.inlets n
          ∙ ap (λ (es : List Inlet). es ++ (if ends_at k channel == n then inlet ∷ [] else []))
          (sym (last.inlets n ∙ later.inlets n));
      outlets = λ n. out.outlets n
          ∙ ap (λ (es : List Outlet). es ++ (if begins_at k channel == n then outlet ∷ [] else []))
          (sym (last.outlets n ∙ later.outlets n ∙ into.outlets n));
      queue = c.close-left.ensures;
      moved = moved-whole k channel c.args.agents.now c.take_inlet-receiver.new.agents c.deliver_left.new.agents
          c.hand_over.new.agents (messages_of (packets_in k left)) (λ n. into.states n ∙ out.states n)
          c.in_ok-deliver_left.ensures.moved moved;
    }) c.hand_over.ensures.moved
