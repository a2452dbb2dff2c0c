use Rattle.std.proofs.Common.{ℕ, ap, sym, ◌∙◌, ◌≡◌, arith}
use Rattle.bk_base.specs.Counting.{least_below}
use Rattle.bk_base.proofs.Below.{least_below-found}
use Rattle.bk_dir.specs.declared.entry.Entry.{Entry}
use Rattle.bk_dir.specs.Directories.{contents_of}
use Rattle.bk_dir.specs.Summaries.{holds}
use Rattle.bk_dir.proofs.EntryTests.{holds_at}
use Rattle.bk_dir.proofs.Ways.{way-there, holds-off, least-of-eight}
use Rattle.bk_dir.proofs.directory.Directory.find.Goals as goal

pub returns-then-holds-clause-value : goal.returns-then-holds-clause-value
returns-then-holds-clause-value c =
    let self = c.args.self.now in
    let passes = sym (ap (λ (entry : Entry). holds entry c.args.tag) c.field.ensures.entry) ∙ sym c.holds.ensures ∙ c.if-holds.true in
    sym (least_below-found self.config.ways c.loop-way.way
    (holds_at (contents_of self) c.args.cache c.args.set c.args.tag)
    (way-there self.config self.segments.items c.args.cache c.args.set c.args.tag c.loop-way.way self.fields (omega arith) passes)
    c.loop-way.invariant passes)

pub returns-then-holds-clause-within : goal.returns-then-holds-clause-within
returns-then-holds-clause-within c =
    let self = c.args.self.now in
    let passes = sym (ap (λ (entry : Entry). holds entry c.args.tag) c.field.ensures.entry) ∙ sym c.holds.ensures ∙ c.if-holds.true in
    way-there self.config self.segments.items c.args.cache c.args.set c.args.tag c.loop-way.way self.fields (omega arith) passes

pub returns-clause-value : goal.returns-clause-value
returns-clause-value c =
    let self = c.args.self.now in
    let test = holds_at (contents_of self) c.args.cache c.args.set c.args.tag in
    let all : c.loop-way.way ≡ 8 = omega arith in
    sym (sym (least-of-eight self.config.ways test self.few_ways (λ w l. holds-off self.config self.segments.items c.args.cache
    c.args.set c.args.tag w self.fields (omega arith) l)) ∙ ap (λ (n : ℕ). least_below n test) (sym all) ∙ c.loop-way.invariant)
