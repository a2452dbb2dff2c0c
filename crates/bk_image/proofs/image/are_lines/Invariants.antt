use Rattle.std.proofs.Common.{◌≡◌, drop}
use Rattle.bk_image.specs.Images.{are_lines}
use Rattle.bk_image.proofs.image.are_lines.Given as goal

abbrev pub invariant-loop-place : goal.invariant-loop-place
invariant-loop-place l = are_lines l.count l.least (drop l.place-index l.knows) ≡ are_lines l.count 0 l.knows
