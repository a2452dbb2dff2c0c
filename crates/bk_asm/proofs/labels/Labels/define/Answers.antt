use Rattle.std.proofs.Common.{ap, ◌∙◌}
use Rattle.std.specs.Ordering.{nat_cmp}
use Rattle.std.specs.Cmp.Lexicographic.{slice_cmp}
use Rattle.std.specs.BTreeMap.{insert_entry}
use Rattle.bk_asm.proofs.LabelPlaces.{inserted}
use Rattle.bk_asm.proofs.labels.Labels.define.Goals as goal

pub returns : goal.returns
returns c =
    inserted c.self.inside.places.entries c.insert.new.self.entries c.args.name.now c.args.place
    (λ q. c.in_ok-insert.ensures.updates.0 (record { ref_ptr = (0, 0); now = q }))
    ∙ ap (λ l. insert_entry (slice_cmp nat_cmp) l c.args.name.now c.args.place) c.self.view_is
