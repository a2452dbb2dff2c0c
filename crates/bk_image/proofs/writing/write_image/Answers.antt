use Rattle.std.proofs.Common.{◌≡◌, rules, ap, ◌∙◌}
use Rattle.bk_image.specs.Reading.{image_at}
use Rattle.bk_image.specs.Spelling.{IsImage, spelling}
use Rattle.bk_image.proofs.Images.{image_again}
use Rattle.bk_image.proofs.writing.write_image.Goals as goal

pub returns-clause-again : goal.returns-clause-again
returns-clause-again c =
    let image = c.args.image.now in
    let instrs = c.instrs-instrs.ensures in
    let knows = c.knows-knows.ensures in
    let spelled : c.push_lines.new.bytes.items ≡ spelling image = search rules in
    let is_image : IsImage image = record {
      parts = record {
        format = rw c.limit.ensures.value at c.limit.ensures.format;
        whole = record {
          count = record { some = rw instrs.value at instrs.some; few = rw instrs.value at instrs.few };
          lines = rw knows.value at knows.lines;
        };
      };
      in_range = rw instrs.value at c.in_ok-push_words.ensures.in_range;
      masks = rw knows.value at c.in_ok-push_lines.ensures.masks;
    } in
    ap image_at spelled ∙ image_again image is_image
