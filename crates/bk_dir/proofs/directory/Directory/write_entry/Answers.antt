use Rattle.std.proofs.Common.{◌<◌, ℕ, length, set, ap, sym, ◌∙◌, subst, arith}
use Rattle.bk_dir.specs.Lists.{place_of, entries_of, bits_of, AreFields}
use Rattle.bk_dir.proofs.Fields.{tag-small}
use Rattle.bk_dir.proofs.Lists.{over-read, entries_of-set, fields_of-set}
use Rattle.bk_dir.proofs.directory.Directory.write_entry.Goals as goal

pub field_of-requires : goal.field_of-requires
field_of-requires c = tag-small c.args.self.now.config c.args.entry.tag c.requires.tag

pub invariant_of-self-clause-fields : goal.invariant_of-self-clause-fields
invariant_of-self-clause-fields c =
    let xs = c.args.self.now.segments.items in
    let l : place_of c.args.cache c.args.set < length xs = omega (arith, c.args.self.now.segments.ok.0) in
    let over = over-read c.args.self.now.segments.items c.args.cache c.args.set c.args.way c.place_of.result
    c.index_mut.result.now c.field_of.result c.args.entry c.write_field.new.words (omega (arith, c.args.self.now.segments.ok.0))
    c.place_of.ensures c.index_mut.ensures.value c.field_of.ensures.value c.field_of.ensures.small c.write_field.ensures in
    subst (λ (i : ℕ). AreFields c.args.self.now.config (set xs i c.write_field.new.words)) (sym c.place_of.ensures)
    (fields_of-set c.args.self.now.config xs (place_of c.args.cache c.args.set) c.args.way c.args.entry c.write_field.new.words l over
    c.requires.tag c.requires.way c.args.self.now.fields)

pub returns-clause-state : goal.returns-clause-state
returns-clause-state c =
    let xs = c.args.self.now.segments.items in
    let l : place_of c.args.cache c.args.set < length xs = omega (arith, c.args.self.now.segments.ok.0) in
    let over = over-read c.args.self.now.segments.items c.args.cache c.args.set c.args.way c.place_of.result
    c.index_mut.result.now c.field_of.result c.args.entry c.write_field.new.words (omega (arith, c.args.self.now.segments.ok.0))
    c.place_of.ensures c.index_mut.ensures.value c.field_of.ensures.value c.field_of.ensures.small c.write_field.ensures in
    ap (λ entries. record { entries = entries; pending = bits_of c.args.self.now.pending })
    (ap (λ (i : ℕ). entries_of (set xs i c.write_field.new.words)) c.place_of.ensures
    ∙ entries_of-set xs c.args.cache c.args.set c.args.way c.args.entry c.write_field.new.words (omega arith) l over)
