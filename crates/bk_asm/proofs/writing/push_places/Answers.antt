use Rattle.std.proofs.Common.{◌≡◌, ◌+◌, ◌<◌, ◌≤◌, length, get_or, arith, ap}
use Rattle.bk_asm.proofs.PlaceAgain.{ranges_more, one_mask, masks_of}
use Rattle.bk_asm.proofs.ImageAgain.{text_more, all_in_range, fewer_masks}
use Rattle.bk_asm.proofs.writing.push_places.Goals as goal
use Rattle.std.specs.Prelude.{string_bytes}

pub loop-instr-preserved : goal.loop-instr-preserved
loop-instr-preserved c =
    let image = c.args.image.now in
    let i = c.loop-instr.instr-index in
    let f = c.instr-item.result in
    let v = c.instrs-instrs.ensures.value in
    let l = c.loop-instr.invariant in
    let within : i < length image.instrs = (rw v at c.loop-instr-test.true) in
    let is : f ≡ get_or image.instrs i f = (rw v at c.instr-item.is) in
    let next = c.in_ok-push_place.ensures in
    record {
      text = text_more image (string_bytes c.loop-instr.out) (string_bytes c.push_place.new.out) _ c.loop-instr.place i f within is
          l.text next.text;
      place = ap (λ k. k + 1) l.place;
      in_range = ranges_more image.instrs f i within is l.in_range next.in_range;
      masks = one_mask image.knows c.loop-instr.place l.masks next.mask;
    }

pub returns-clause-image : goal.returns-clause-image
returns-clause-image c =
    let image = c.args.image.now in
    let instrs = c.instrs-instrs.ensures in
    let knows = c.knows-knows.ensures in
    let l = c.loop-instr.invariant in
    let i = c.loop-instr.instr-index in
    let all : length image.instrs ≤ i = (rw instrs.value at c.loop-instr-test.false) in
    let places : length image.instrs ≤ c.loop-instr.place = omega (arith, all, l.place) in
    record {
      parts = record {
        format = rw c.limit-limit.ensures.value at c.limit-limit.ensures.format;
        whole = record {
          count = record { some = rw instrs.value at instrs.some; few = rw instrs.value at instrs.few };
          lines = rw knows.value at knows.lines;
        };
      };
      in_range = all_in_range image.instrs i all l.in_range;
      masks = masks_of (length image.instrs) image.knows (rw knows.value at knows.lines)
          (fewer_masks image.knows (length image.instrs) c.loop-instr.place places l.masks);
    }
