use Rattle.std.proofs.Common.{◌≡◌, ◌+◌, ◌/◌, ◌%◌, ◌^◌, ◌<◌, ◌++◌, ◌∷◌, [], length, ap, sym, ◌∙◌, append_assoc, arith, length-append}
use Rattle.std.specs.Fmt.{decimal}
use Rattle.std.proofs.lemmas.Fmt.{decimal_digit, decimal_step}
use Rattle.bk_cmd.proofs.Decimals.{length-digit, length-step}
use Rattle.bk_cmd.proofs.fault_texts.+push_decimal.Goals as goal

pub push_digit-requires-clause-room : goal.push_digit-requires-clause-room
push_digit-requires-clause-room t c = omega (arith, length-digit c.args.n c.if-n-lt10.true)

pub push_decimal-requires : goal.push_decimal-requires
push_decimal-requires t c =
    let fits : c.args.n < 2 ^ 64 = omega arith in
    (omega arith, omega (arith, length-step c.args.n c.if-n-lt10.false fits))

pub push_digit-requires-else-n-lt10-clause-room : goal.push_digit-requires-else-n-lt10-clause-room
push_digit-requires-else-n-lt10-clause-room t c =
    let n = c.args.n in
    let fits : n < 2 ^ 64 = omega arith in
    let has : length c.push_decimal.new.line.bytes ≡ length c.args.line.now.bytes + length (decimal (n / 10)) =
    ap length c.push_decimal.ensures ∙ length-append c.args.line.now.bytes (decimal (n / 10)) in
    omega (arith, has, length-step n c.if-n-lt10.false fits)

pub returns-then-n-lt10 : goal.returns-then-n-lt10
returns-then-n-lt10 t c = c.push_digit.ensures ∙ ap (λ xs. c.args.line.now.bytes ++ xs) (sym (decimal_digit c.args.n c.if-n-lt10.true))

pub returns-else-n-lt10 : goal.returns-else-n-lt10
returns-else-n-lt10 t c =
    let n = c.args.n in
    let before = c.args.line.now.bytes in
    let last = (48 + n % 10) ∷ [] in
    let fits : n < 2 ^ 64 = omega arith in
    c.push_digit-else-n-lt10.ensures
    ∙ (ap (λ xs. xs ++ last) c.push_decimal.ensures
    ∙ (append_assoc before (decimal (n / 10)) last
    ∙ ap (λ xs. before ++ xs) (sym (decimal_step n c.if-n-lt10.false fits))))
