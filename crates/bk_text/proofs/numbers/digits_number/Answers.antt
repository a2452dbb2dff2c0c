use Rattle.std.proofs.Common.{◌≡◌, ◌*◌, ◌<◌, true, length, refl, arith}
use Rattle.std.proofs.lemmas.Grind.{common_steps}
use Rattle.std.specs.List.{list_all}
use Rattle.std.specs.Str.Parse.{digits_value}
use Rattle.std.proofs.lemmas.List.{take_all}
use Rattle.std.proofs.lemmas.List.Folds.{list_all_at, list_all_more}
use Rattle.std.proofs.lemmas.Bool.Decides.{nat_tests}
use Rattle.std.proofs.lemmas.Int.Digits.{digits_value_more}
use Rattle.bk_text.specs.Texts.{is_digit}
use Rattle.bk_text.proofs.Digits.{none_if_empty, none_if_long, none_if_no_digit, none_if_large_at, some_number}
use Rattle.bk_text.proofs.numbers.digits_number.Goals as goal

pub returns-then-is_empty : goal.returns-then-is_empty
returns-then-is_empty c = grind (arith, common_steps, none_if_empty, none_if_long)

pub returns-then-digit-radix : goal.returns-then-digit-radix
returns-then-digit-radix c =
    let at = list_all_at (is_digit c.args.radix) c.args.digits.now c.loop-byte.byte-index 0 (omega arith) (grind (arith, nat_tests)) in
    grind (arith, none_if_no_digit)

pub returns-in_err-checked_mul : goal.returns-in_err-checked_mul
returns-in_err-checked_mul c =
    let none = none_if_large_at c.args.radix c.args.most c.args.digits.now c.loop-byte.byte-index c.loop-byte.value c.requires (omega arith)
    c.loop-byte.invariant.1 (omega (arith, c.in_err-checked_mul.ensures)) in
    cc

pub returns-in_err-value : goal.returns-in_err-value
returns-in_err-value c =
    let product : c.in_ok-checked_mul.field-0 ≡ c.loop-byte.value * c.args.radix = omega (arith, c.in_ok-checked_mul.ensures) in
    let none = none_if_large_at c.args.radix c.args.most c.args.digits.now c.loop-byte.byte-index c.loop-byte.value c.requires (omega arith)
    c.loop-byte.invariant.1 (omega (arith, c.in_err-value.ensures)) in
    cc

pub loop-byte-preserved : goal.loop-byte-preserved
loop-byte-preserved c =
    let all = list_all_more (is_digit c.args.radix) c.args.digits.now c.loop-byte.byte-index 0 (omega arith) in
    let more = digits_value_more c.args.radix c.args.digits.now c.loop-byte.byte-index (omega arith) in
    grind (arith, nat_tests)

pub returns : goal.returns
returns c =
    let whole = take_all c.loop-byte.byte-index c.args.digits.now (omega arith) in
    let all : list_all (is_digit c.args.radix) c.args.digits.now ≡ true = rw whole at c.loop-byte.invariant.0 in
    let value : c.loop-byte.value ≡ digits_value c.args.radix c.args.digits.now = rw whole at c.loop-byte.invariant.1 in
    let some_digit : 0 < length c.args.digits.now = grind (arith, common_steps) in
    let some = some_number c.args.radix c.args.most c.args.digits.now some_digit (omega arith) all (rw value at c.loop-byte.invariant.2) in
    rw (value, some) refl
