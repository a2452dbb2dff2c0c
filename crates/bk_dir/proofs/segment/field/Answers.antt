use Rattle.std.proofs.Common.{◌∙◌, get_or}
use Rattle.bk_dir.proofs.Words.{part, reads}
use Rattle.bk_dir.proofs.segment.field.Goals as goal

pub returns : goal.returns
returns c =
    let words = c.args.words.now in
    let place = c.place_of-place.ensures.value in
    let next = c.last_place.ensures.value in
    let from = c.shift_of.ensures.value in
    c.part.ensures ∙ (λ i. part (get_or words (place i) 0) (get_or words (next i) 0) (from i))
    ∙ reads words c.args.way (record { five = c.told-words; small = c.fits-words }) c.requires
