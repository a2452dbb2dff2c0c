-- What stays true of what was read so far.
use Rattle.std.specs.Prelude.{◌≡◌, ◌+◌, ◌≤◌, true, length, nat_lt, IfSome, if◌then◌else◌}
use Rattle.std.specs.List.{list_all}
use Rattle.bk_image.specs.Images.{are_lines}
use Rattle.bk_asm.specs.Reading.{Draft}

-- The limit is from 1 to 16; there are at most 256 instructions; the know lines are lines of them; and each label stands for one of them,
-- or for the next.
pub record IsDraft (d : Draft) : Type 0 where
  pub limit : IfSome d.limit (λ limit. (1 ≤ limit) × (limit ≤ 16))
  pub few : length d.statements ≤ 256
  pub lines : are_lines (length d.statements) 0 d.knows ≡ true
  pub labels : list_all (λ l. nat_lt l.1 (length d.statements + (if d.waits then 1 else 0))) d.labels ≡ true
