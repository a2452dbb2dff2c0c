use Rattle.bk_order.proofs.Places.{accepted-images-carry}
use Rattle.bk_order.proofs.laws.accepted_images.Goals as goal

pub returns : goal.returns
returns c = record { carry = accepted-images-carry }
