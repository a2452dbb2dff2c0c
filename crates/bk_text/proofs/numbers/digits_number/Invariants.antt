use Rattle.std.proofs.Common.{◌≡◌, ◌<◌, ◌^◌, true, take}
use Rattle.std.specs.List.{list_all}
use Rattle.std.specs.Str.Parse.{digits_value}
use Rattle.bk_text.specs.Texts.{is_digit}
use Rattle.bk_text.proofs.numbers.digits_number.Given as goal

abbrev pub invariant-loop-byte : goal.invariant-loop-byte
invariant-loop-byte l =
    (list_all (is_digit l.radix) (take l.byte-index l.digits) ≡ true) × (l.value ≡ digits_value l.radix (take l.byte-index l.digits))
    × (l.value < 2 ^ 64)
