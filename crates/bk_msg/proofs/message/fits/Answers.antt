use Rattle.std.proofs.Common.{◌≡◌, sym, ◌∙◌, subst, true}
use Rattle.bk_msg.specs.declared.table.Layout.{Layout}
use Rattle.bk_msg.specs.Table.{layout_of}
use Rattle.bk_msg.specs.Spelling.{IsPayload, front_fits}
use Rattle.bk_msg.proofs.Fits.{FitsLayout-from_test}
use Rattle.bk_msg.proofs.message.fits.Goals as goal

pub returns-then-front : goal.returns-then-front
returns-then-front c =
    let is = c.layout_of-layout.ensures in
    let front : front_fits c.layout_of-layout.result c.args.fields ≡ true = sym c.front_fits-front.ensures.value ∙ c.if-front.true in (
      λ h. FitsLayout-from_test (layout_of c.args.fields.kind) c.args.fields
          (subst (λ (l : Layout). front_fits l c.args.fields ≡ true) is front)
          c.front_fits-front.ensures.address
          (subst (λ (l : Layout). IsPayload l.load c.args.fields.payload) is (c.carries.ensures.0 h)),
      λ h. c.carries.ensures.1 (subst (λ (l : Layout). IsPayload l.load c.args.fields.payload) (sym is) h.payload),
    )
