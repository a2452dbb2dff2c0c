use Rattle.std.proofs.Common.{ap, sym, ◌∙◌}
use Rattle.std.specs.Prelude.{is_some}
use Rattle.bk_asm.specs.Operations.{slots_of}
use Rattle.bk_asm.specs.Reading.{Draft}
use Rattle.bk_asm.proofs.Drafted.{target_ok, place_ok}
use Rattle.bk_asm.proofs.draft.Draft.form_of.Goals as goal

pub with_last-requires-in-Some-place_of : goal.with_last-requires-in-Some-place_of
with_last-requires-in-Some-place_of c = λ h.
    let d : Draft = record {
      limit = c.self.inside.limit;
      statements = c.self.inside.statements.items;
      knows = c.self.inside.knows.items;
      labels = c.self.inside.labels;
      know = c.self.inside.know;
      waits = c.self.inside.waits;
    } in
    let waits = ap (λ d. d.waits) c.self.view_is ∙ c.requires in
    let goes = sym h.target ∙ (ap (λ s. is_some s.target) (sym c.statement.view_is) ∙ ap is_some c.in-Some.is) in
    target_ok (slots_of c.args.statement.now.operation).last c.in-Some-place_of.place goes
    (place_ok d c.target.inside.name.now c.in-Some-place_of.place c.self.invariant waits (sym c.place_of.ensures ∙ c.in-Some-place_of.is))
