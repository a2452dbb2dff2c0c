use Rattle.std.proofs.Common.{ap, subst, ◌∙◌, arith}
use Rattle.bk_image.specs.Faults.{Gives}
use Rattle.bk_image.specs.Reading.{image_at}
use Rattle.bk_image.proofs.Images.{is_found, image_again}
use Rattle.bk_image.proofs.reading.read_image.Goals as goal

pub returns-clause-found : goal.returns-clause-found
returns-clause-found c = is_found c.args.bytes.now c.read.result (λ i. omega (arith, c.type_inv.bytes i)) c.read.ensures

pub returns-clause-only : goal.returns-clause-only
returns-clause-only c = λ p h e. subst (λ f. Gives (λ i. i) c.read.result f) (ap image_at e ∙ image_again p h) c.read.ensures
