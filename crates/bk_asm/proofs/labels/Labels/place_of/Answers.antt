use Rattle.std.proofs.Common.{ap, ◌∙◌}
use Rattle.bk_asm.specs.Reading.{place_of}
use Rattle.bk_asm.proofs.LabelPlaces.{place_found}
use Rattle.bk_asm.proofs.labels.Labels.place_of.Goals as goal

pub returns : goal.returns
returns c =
    let found = place_found c.self.inside.places.entries c.args.name.now in
    c.copied.ensures ∙ (c.get.ensures.value ∙ (found ∙ ap (λ l. place_of l c.args.name.now) c.self.view_is))
