use Rattle.std.proofs.Common.{sym, ◌∙◌}
use Rattle.bk_system.proofs.Nexts.{fill-none, fill-next}
use Rattle.bk_system.proofs.lookups.next_fill_place.Goals as goal

pub returns-in_default : goal.returns-in_default
returns-in_default c = fill-none c.args.fills.now c.args.caches c.args.start c.next.result c.requires c.next.ensures c.in_default.is

pub returns-then-has_fill : goal.returns-then-has_fill
returns-then-has_fill c =
    fill-next c.args.fills.now c.args.caches c.args.start c.in-Some.place c.next.result c.requires c.next.ensures c.in-Some.is
    (sym c.has_fill.ensures ∙ c.if-has_fill.true)
