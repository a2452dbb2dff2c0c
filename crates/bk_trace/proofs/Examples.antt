-- Texts and what they are read as, traces and their texts, by computation.
use Rattle.std.proofs.Common.{◌≡◌, ℕ, List, [], ◌∷◌, ◌++◌, refl}
use Rattle.std.specs.Prelude.{Some, Result, Ok, Err, codes}
use Rattle.std.specs.Fmt.{digits}
use Rattle.bk_base.specs.Places.{Shape}
use Rattle.bk_base.specs.declared.op.Op.TheVariants.{Load, Store, UcLoad, UcStore, Evict}
use Rattle.bk_text.specs.Texts.{digits_number}
use Rattle.bk_text.specs.LineWords.{words_from}
use Rattle.bk_text.specs.Faults.{Bad}
use Rattle.bk_trace.specs.Traces.{Parts}
use Rattle.bk_trace.specs.Grammar.{trace_of, parts_of, shape_of, operation_of, number_below, count_of, address_of}
use Rattle.bk_trace.specs.Reading.{trace_at, read_at, lines_read, config_from, first_at, lines_at, line_at, config_at, operation_at, op_at, field}
use Rattle.bk_trace.specs.Spelling.{spelling}
use Rattle.bk_trace.specs.Generator.{drawn, generated}

abbrev shape : ℕ → ℕ → ℕ → Shape
shape caches sets ways = record { caches = caches; sets = sets; ways = ways }

abbrev fault : ℕ → ℕ → ℕ → Result Parts Bad
fault line column kind = Err (record { line = line; column = column; kind = kind })

abbrev one_cache : List ℕ
one_cache = codes "config 2 4 2\n"

-- ---- what is read

abbrev pub two_operations : List ℕ
two_operations = one_cache ++ codes "0 US 0x40 7\n1 UL 0x40\n"

abbrev pub two_operations_trace : Parts
two_operations_trace = record { config = shape 2 4 2; lines = (0, UcStore 64 7) ∷ (1, UcLoad 64) ∷ [] }

pub trace_of-two_operations : trace_of two_operations ≡ Some two_operations_trace
unfolding trace_of parts_of shape_of operation_of number_below count_of address_of digits_number
trace_of-two_operations = refl

pub trace_at-two_operations : trace_at two_operations ≡ Ok two_operations_trace
unfolding lines_read config_from first_at lines_at line_at config_at operation_at op_at field number_below count_of address_of
    digits_number words_from
trace_at-two_operations = refl

pub spelling-two_operations : spelling two_operations_trace ≡ two_operations
unfolding digits
spelling-two_operations = refl

-- CR LF, blank lines, comments, tabs, and a last line without its end
pub trace_at-every_operation : trace_at (codes "\r\n \t# two\r\nconfig 2 4 2\r\n\r\n0\tL 8#one\r\n1  S 0x10 0xfF\n0 EV 00064")
    ≡ Ok (record { config = shape 2 4 2; lines = (0, Load 8) ∷ (1, Store 16 255) ∷ (0, Evict 64) ∷ [] })
unfolding lines_read config_from first_at lines_at line_at config_at operation_at op_at field number_below count_of address_of
    digits_number words_from
trace_at-every_operation = refl

-- ---- the first fault

-- an address of 2^40
pub fault-high_address : trace_at (one_cache ++ codes "0 S 0x10000000000 1") ≡ fault 2 5 44
unfolding lines_read config_from first_at lines_at line_at config_at operation_at op_at field number_below count_of address_of
    digits_number words_from
fault-high_address = refl

-- a bad byte behind the first of a word is that word's own fault
pub fault-inner_byte : trace_at (one_cache ++ codes "0 L 0" ++ 1 ∷ []) ≡ fault 2 5 44
unfolding lines_read config_from first_at lines_at line_at config_at operation_at op_at field number_below count_of address_of
    digits_number words_from
fault-inner_byte = refl

-- a bad byte that begins a word, and one in a comment: 40
pub fault-first_byte : trace_at (one_cache ++ codes "0 L 0x0 " ++ 127 ∷ []) ≡ fault 2 9 40
unfolding lines_read config_from first_at lines_at line_at config_at operation_at op_at field number_below count_of address_of
    digits_number words_from
fault-first_byte = refl

pub fault-comment_byte : trace_at (one_cache ++ codes "0 L #" ++ 1 ∷ []) ≡ fault 2 6 40
unfolding lines_read config_from first_at lines_at line_at config_at operation_at op_at field number_below count_of address_of
    digits_number words_from
fault-comment_byte = refl

-- no word outside comments: 41 where the text begins, whatever a comment holds
pub fault-no_words : trace_at (codes "\n# " ++ 1 ∷ codes "\n") ≡ fault 1 1 41
unfolding lines_read config_from first_at lines_at line_at config_at operation_at op_at field number_below count_of address_of
    digits_number words_from
fault-no_words = refl

pub fault-nothing : trace_at [] ≡ fault 1 1 41
unfolding lines_read config_from first_at lines_at line_at config_at operation_at op_at field number_below count_of address_of
    digits_number words_from
fault-nothing = refl

-- three sets; and no ways, behind the comment
pub fault-sets : trace_at (codes "config 2 3 2") ≡ fault 1 10 41
unfolding lines_read config_from first_at lines_at line_at config_at operation_at op_at field number_below count_of address_of
    digits_number words_from
fault-sets = refl

pub fault-no_ways : trace_at (codes "config 2 4 # c\r\n") ≡ fault 1 15 41
unfolding lines_read config_from first_at lines_at line_at config_at operation_at op_at field number_below count_of address_of
    digits_number words_from
fault-no_ways = refl

-- a cache of another configuration, and an operation without a blank behind its name
pub fault-cache : trace_at (one_cache ++ codes " 2 L 0") ≡ fault 2 2 42
unfolding lines_read config_from first_at lines_at line_at config_at operation_at op_at field number_below count_of address_of
    digits_number words_from
fault-cache = refl

pub fault-name : trace_at (one_cache ++ codes "0 L8") ≡ fault 2 3 43
unfolding lines_read config_from first_at lines_at line_at config_at operation_at op_at field number_below count_of address_of
    digits_number words_from
fault-name = refl

-- a missing address, and a missing value behind a comment
pub fault-no_address : trace_at (one_cache ++ codes "0 L\n") ≡ fault 2 4 44
unfolding lines_read config_from first_at lines_at line_at config_at operation_at op_at field number_below count_of address_of
    digits_number words_from
fault-no_address = refl

pub fault-no_value : trace_at (one_cache ++ codes "0 S 0x0 # c\n") ≡ fault 2 12 45
unfolding lines_read config_from first_at lines_at line_at config_at operation_at op_at field number_below count_of address_of
    digits_number words_from
fault-no_value = refl

-- a value of 2^64; a further word
pub fault-high_value : trace_at (one_cache ++ codes "0 S 0x0 18446744073709551616") ≡ fault 2 9 45
unfolding lines_read config_from first_at lines_at line_at config_at operation_at op_at field number_below count_of address_of
    digits_number words_from
fault-high_value = refl

pub fault-extra : trace_at (one_cache ++ codes "0 L 0x0 1") ≡ fault 2 9 46
unfolding lines_read config_from first_at lines_at line_at config_at operation_at op_at field number_below count_of address_of
    digits_number words_from
fault-extra = refl

-- One operation too many, with one allowed: at its first word, unless that is a wrong cache.
pub fault-too_many : read_at 1 (one_cache ++ codes "0 L 0\n\n 1 X\n") ≡ fault 4 2 47
unfolding lines_read config_from first_at lines_at line_at config_at operation_at op_at field number_below count_of address_of
    digits_number words_from
fault-too_many = refl

pub fault-cache_too_many : read_at 1 (one_cache ++ codes "0 L 0\n\n 2 X\n") ≡ fault 4 2 42
unfolding lines_read config_from first_at lines_at line_at config_at operation_at op_at field number_below count_of address_of
    digits_number words_from
fault-cache_too_many = refl

-- ---- drawn traces

pub generated-one : generated (shape 2 4 2) 7 1 1 ≡ (1, Store 1512 1) ∷ []
unfolding generated drawn
generated-one = refl

pub spelling-generated : spelling (record { config = shape 2 4 2; lines = generated (shape 2 4 2) 7 1 1 })
    ≡ codes "config 2 4 2\n1 S 0x5e8 1\n"
unfolding generated drawn digits
spelling-generated = refl

pub generated-three : generated (shape 2 4 2) 1 1 3 ≡ (1, Store 1624 1) ∷ (1, Store 1272 2) ∷ (1, Evict 536) ∷ []
unfolding generated drawn
generated-three = refl
