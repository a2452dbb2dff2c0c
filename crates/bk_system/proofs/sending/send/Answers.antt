use Rattle.std.proofs.Common.{◌≡◌, ◌<◌, ap, sym, ◌∙◌, arith}
use Rattle.bk_msg.specs.declared.row.Network.TheVariants.{Fill}
use Rattle.bk_msg.specs.Networks.{network_of, receiver_of}
use Rattle.bk_system.specs.Channels.{queue}
use Rattle.bk_system.proofs.Fills.{fill-receiver, fill-sent}
use Rattle.bk_system.proofs.sending.send.Goals as goal

pub returns-in-Fill-clause-fills : goal.returns-in-Fill-clause-fills
returns-in-Fill-clause-fills c =
    let m = c.in-Some.message in
    let network : network_of m ≡ Fill = sym (ap network_of c.row.ensures.value) ∙ sym c.network.ensures ∙ c.in-Fill.is in
    let is : c.receiver.result ≡ receiver_of m = c.receiver.ensures ∙ ap receiver_of c.row-in-Fill.ensures.value in
    let within : receiver_of m < c.args.fills.now.config.caches =
    fill-receiver c.args.fills.now.config m network (c.requires.within m c.in-Some.is) in
    fill-sent (queue c.args.fills.now) (queue c.push-in-Fill.new.self) c.args.cache c.args.sent.now m c.receiver.result
    c.fill_place.result c.in-Some.is network is c.fill_place.ensures.value c.requires.cache (omega (arith, c.requires.caches))
    c.push-in-Fill.ensures.queue
