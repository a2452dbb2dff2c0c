use Rattle.std.proofs.Common.{◌≡◌, ℕ, List, ◌++◌, rules, ap, ◌∙◌, append_assoc}
use Rattle.std.specs.Int.{w32, w64, to_le_bytes}
use Rattle.bk_know.specs.Sets.{mask_of}
use Rattle.bk_image.proofs.writing.push_line.Goals as goal

pub returns-clause-value : goal.returns-clause-value
returns-clause-value c =
    let place : List ℕ = to_le_bytes w32 c.args.know_line.now.0 in
    let mask : List ℕ = to_le_bytes w64 (mask_of c.args.know_line.now.1) in
    let first : c.extend_from_slice.new.self.items ≡ c.args.bytes.now.items ++ place = search rules in
    let second : c.extend_from_slice-2.new.self.items ≡ c.extend_from_slice.new.self.items ++ mask = search rules in
    second ∙ ap (λ (bytes : List ℕ). bytes ++ mask) first ∙ append_assoc c.args.bytes.now.items place mask
