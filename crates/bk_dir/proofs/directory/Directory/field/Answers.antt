use Rattle.std.proofs.Common.{ℕ, arith, ap, sym, ◌∙◌, subst}
use Rattle.bk_dir.specs.Lists.{place_of}
use Rattle.bk_dir.specs.Segments.{entry_in, IsField}
use Rattle.bk_dir.proofs.Lists.{entries_of-at, field-read}
use Rattle.bk_dir.proofs.directory.Directory.field.Goals as goal

pub returns-clause-entry : goal.returns-clause-entry
returns-clause-entry c =
    ap entry_in (field-read c.args.self.now.segments.items c.args.cache c.args.set c.args.way c.place_of.result c.index.result.now
    c.field.result (omega (arith, c.args.self.now.segments.ok.0)) c.place_of.ensures c.index.ensures c.field.ensures)
    ∙ sym (entries_of-at c.args.self.now.segments.items c.args.cache c.args.set c.args.way (omega arith))

pub returns-clause-is_field : goal.returns-clause-is_field
returns-clause-is_field c =
    subst (λ (f : ℕ). IsField c.args.self.now.config c.args.way f)
    (sym (field-read c.args.self.now.segments.items c.args.cache c.args.set c.args.way c.place_of.result c.index.result.now
    c.field.result (omega (arith, c.args.self.now.segments.ok.0)) c.place_of.ensures c.index.ensures c.field.ensures))
    (c.args.self.now.fields (place_of c.args.cache c.args.set) c.args.way)
