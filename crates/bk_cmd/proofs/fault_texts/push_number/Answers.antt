use Rattle.std.proofs.Common.{◌≡◌, ◌+◌, ◌^◌, ◌<◌, length, ap, ◌∙◌, arith, length-append}
use Rattle.std.specs.Fmt.{decimal}
use Rattle.bk_cmd.proofs.Decimals.{length-number}
use Rattle.bk_cmd.proofs.fault_texts.push_number.Goals as goal

pub push_decimal-requires : goal.push_decimal-requires
push_decimal-requires c =
    let fits : c.args.n < 2 ^ 64 = omega arith in
    omega (arith, length-number c.args.n fits)

pub returns-clause-length : goal.returns-clause-length
returns-clause-length c =
    let n = c.args.n in
    let fits : n < 2 ^ 64 = omega arith in
    let has : length c.push_decimal.new.line.bytes ≡ length c.args.line.now.bytes + length (decimal n) =
    ap length c.push_decimal.ensures ∙ length-append c.args.line.now.bytes (decimal n) in
    omega (arith, has, length-number n fits)
