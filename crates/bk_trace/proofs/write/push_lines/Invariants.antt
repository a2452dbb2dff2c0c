use Rattle.std.proofs.Common.{◌≡◌, ◌++◌, take}
use Rattle.std.specs.Prelude.{flat_map, string_bytes}
use Rattle.bk_trace.specs.Spelling.{line_text}
use Rattle.bk_trace.proofs.write.push_lines.Given as goal

-- the lines so far follow what was there
abbrev pub invariant-loop-line : goal.invariant-loop-line
invariant-loop-line l = string_bytes l.out ≡ string_bytes l.initial.out ++ flat_map line_text (take l.line-index l.lines)
