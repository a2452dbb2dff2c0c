use Rattle.bk_system.specs.Channels.{queue}
use Rattle.bk_system.proofs.Nexts.{fill-told}
use Rattle.bk_system.proofs.lookups.has_fill.Goals as goal

pub returns : goal.returns
returns c = fill-told c.args.caches (queue c.args.fills.now) c.args.place c.head.result c.is_some.result c.requires c.if-caches-place.false
    c.if-caches-place-2.false c.head.ensures.value c.is_some.ensures
