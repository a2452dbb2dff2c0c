-- Small images, read by computing.
use Rattle.std.proofs.Common.{◌≡◌, ℕ, ◌+◌, List, [], ◌∷◌, ◌++◌, take, drop, Ok, Err, refl}
use Rattle.bk_isa.specs.declared.form.Form.TheVariants.{Nop}
use Rattle.bk_know.specs.Sets.{idle_base, held_base}
use Rattle.bk_image.specs.Images.{Parts}
use Rattle.bk_image.specs.Faults.{bad}
use Rattle.bk_image.specs.declared.fault.Kind.TheVariants.{Magic, Version, ReservedByte, Count, TooMany, Opcode, WordField, WordReserved, KnowLine, NotAscending, Short, Trailing, Limit}
use Rattle.bk_image.specs.Reading.{limit_at, count_at, know_count_at, heading_at, header_at, word_at, words_at, mask_at, line_at, lines_at, image_at}
use Rattle.bk_image.specs.Spelling.{spelling}

-- an image of one word, whose eight bytes are given
abbrev with_word : List ℕ → List ℕ
with_word word = 66 ∷ 75 ∷ 85 ∷ 67 ∷ 1 ∷ 0 ∷ 0 ∷ 0 ∷ 1 ∷ 0 ∷ 0 ∷ 0 ∷ 0 ∷ 0 ∷ 0 ∷ 0 ∷ word

abbrev one_nop : Parts
one_nop = record { version = 1; limit = 8; instrs = Nop ∷ []; knows = [] }

abbrev nop : List ℕ
nop = with_word (0 ∷ 0 ∷ 0 ∷ 0 ∷ 0 ∷ 0 ∷ 0 ∷ 0 ∷ [])

-- the image of one nop with another byte at a place
abbrev changed : ℕ → ℕ → List ℕ
changed at byte = take at nop ++ byte ∷ drop (at + 1) nop

nop_is_read : image_at nop ≡ Ok one_nop
unfolding image_at header_at heading_at limit_at count_at know_count_at word_at words_at mask_at line_at lines_at
nop_is_read = refl

nop_is_spelled : spelling one_nop ≡ nop
nop_is_spelled = refl

-- the header
record HeaderFaults : Type 0 where
  other_magic : image_at (changed 3 68) ≡ Err (bad 0 Magic)
  no_version : image_at (changed 4 0) ≡ Err (bad 4 Version)
  third_version : image_at (changed 4 3) ≡ Err (bad 4 Version)
  limit_of_version_1 : image_at (changed 5 8) ≡ Err (bad 5 ReservedByte)
  second_reserved_byte : image_at (changed 6 1) ≡ Err (bad 6 ReservedByte)
  no_instruction : image_at (changed 8 0) ≡ Err (bad 8 Count)
  -- 257 instructions
  too_many : image_at (changed 9 1) ≡ Err (bad 8 TooMany)
  more_know_lines : image_at (changed 12 2) ≡ Err (bad 12 Count)
  know_line_missing : image_at (changed 12 1) ≡ Err (bad 24 Short)

header_faults : HeaderFaults
unfolding image_at header_at heading_at limit_at count_at know_count_at word_at words_at mask_at line_at lines_at
header_faults = record {
  other_magic = refl;
  no_version = refl;
  third_version = refl;
  limit_of_version_1 = refl;
  second_reserved_byte = refl;
  no_instruction = refl;
  too_many = refl;
  more_know_lines = refl;
  know_line_missing = refl;
}

-- the same instruction in an image of version 2
abbrev limited : ℕ → List ℕ
limited limit = 66 ∷ 75 ∷ 85 ∷ 67 ∷ 2 ∷ limit ∷ drop 6 nop

abbrev limited_nop : ℕ → Parts
limited_nop limit = record { version = 2; limit = limit; instrs = Nop ∷ []; knows = [] }

record Limits : Type 0 where
  one : image_at (limited 1) ≡ Ok (limited_nop 1)
  sixteen : image_at (limited 16) ≡ Ok (limited_nop 16)
  spelled : spelling (limited_nop 16) ≡ limited 16
  none : image_at (limited 0) ≡ Err (bad 5 Limit)
  seventeen : image_at (limited 17) ≡ Err (bad 5 Limit)
  reserved_byte : image_at (take 6 (limited 16) ++ 1 ∷ drop 7 (limited 16)) ≡ Err (bad 6 ReservedByte)
  short : image_at (take 5 (limited 16)) ≡ Err (bad 5 Short)

limits : Limits
unfolding image_at header_at heading_at limit_at count_at know_count_at word_at words_at mask_at line_at lines_at
limits = record { one = refl; sixteen = refl; spelled = refl; none = refl; seventeen = refl; reserved_byte = refl; short = refl }

-- the word at byte 16, its opcode at byte 23
record WordFaults : Type 0 where
  no_opcode : image_at (changed 23 17) ≡ Err (bad 23 Opcode)
  reserved_a : image_at (changed 22 1) ≡ Err (bad 22 WordReserved)
  reserved_c : image_at (changed 20 1) ≡ Err (bad 20 WordReserved)
  reserved_imm : image_at (changed 16 1) ≡ Err (bad 16 WordReserved)
  -- the 32 bits are one field, which begins at their first byte
  reserved_imm_high : image_at (changed 19 1) ≡ Err (bad 16 WordReserved)
  -- `sf` of a fifth flag
  no_flag : image_at (with_word (0 ∷ 0 ∷ 0 ∷ 0 ∷ 0 ∷ 0 ∷ 4 ∷ 48 ∷ [])) ≡ Err (bad 22 WordField)
  -- `bk` on the summ, which it can't test
  no_tested_field : image_at (with_word (0 ∷ 0 ∷ 0 ∷ 0 ∷ 0 ∷ 1 ∷ 5 ∷ 37 ∷ [])) ≡ Err (bad 22 WordField)
  -- `bk` on the head with no values
  empty_set : image_at (with_word (0 ∷ 0 ∷ 0 ∷ 0 ∷ 0 ∷ 0 ∷ 2 ∷ 37 ∷ [])) ≡ Err (bad 21 WordField)
  -- `bi` to place 256
  no_place : image_at (with_word (0 ∷ 1 ∷ 0 ∷ 0 ∷ 0 ∷ 0 ∷ 0 ∷ 32 ∷ [])) ≡ Err (bad 16 WordField)

word_faults : WordFaults
unfolding image_at header_at heading_at limit_at count_at know_count_at word_at words_at mask_at line_at lines_at
word_faults = record {
  no_opcode = refl;
  reserved_a = refl;
  reserved_c = refl;
  reserved_imm = refl;
  reserved_imm_high = refl;
  no_flag = refl;
  no_tested_field = refl;
  empty_set = refl;
  no_place = refl;
}

-- the end
record EndFaults : Type 0 where
  empty : image_at [] ≡ Err (bad 0 Short)
  short_word : image_at (take 23 nop) ≡ Err (bad 23 Short)
  one_byte_more : image_at (nop ++ 0 ∷ []) ≡ Err (bad 24 Trailing)

end_faults : EndFaults
unfolding image_at header_at heading_at limit_at count_at know_count_at word_at words_at mask_at line_at lines_at
end_faults = record { empty = refl; short_word = refl; one_byte_more = refl }

-- ---- know lines

-- two instructions and two know lines, at places 0 and 1: what is known of an idle engine, and of one that holds a request
abbrev two_nops : Parts
two_nops = record { version = 1; limit = 8; instrs = Nop ∷ Nop ∷ []; knows = (0, idle_base) ∷ (1, held_base) ∷ [] }

abbrev lined : List ℕ
lined = spelling two_nops

abbrev relined : ℕ → ℕ → List ℕ
relined at byte = take at lined ++ byte ∷ drop (at + 1) lined

-- the counts, two words, then place and mask twice
lined_is_spelled : drop 8 lined ≡ 2 ∷ 0 ∷ 0 ∷ 0 ∷ 2 ∷ 0 ∷ 0 ∷ 0 ∷ 0 ∷ 0 ∷ 0 ∷ 0 ∷ 0 ∷ 0 ∷ 0 ∷ 0 ∷ 0 ∷ 0
    ∷ 0 ∷ 0 ∷ 0 ∷ 0 ∷ 0 ∷ 0
    ∷ 0 ∷ 0 ∷ 0 ∷ 0 ∷ 17 ∷ 40 ∷ 36 ∷ 8 ∷ 85 ∷ 34 ∷ 8 ∷ 255
    ∷ 1 ∷ 0 ∷ 0 ∷ 0 ∷ 20 ∷ 232 ∷ 231 ∷ 255 ∷ 95 ∷ 34 ∷ 8 ∷ 255 ∷ []
lined_is_spelled = refl

lined_is_read : image_at lined ≡ Ok two_nops
unfolding image_at header_at heading_at limit_at count_at know_count_at word_at words_at mask_at line_at lines_at
lined_is_read = refl

record LineFaults : Type 0 where
  no_place : image_at (relined 32 2) ≡ Err (bad 32 KnowLine)
  -- the first mask without a stage
  empty_field : image_at (relined 36 16) ≡ Err (bad 36 KnowLine)
  same_place : image_at (relined 44 0) ≡ Err (bad 44 NotAscending)
  -- a place that isn't one is told before its order, and the order before the mask
  no_place_first : image_at (take 44 lined ++ 0 ∷ 1 ∷ 0 ∷ 0 ∷ []) ≡ Err (bad 44 KnowLine)
  order_first : image_at (take 44 lined ++ 0 ∷ 0 ∷ 0 ∷ 0 ∷ []) ≡ Err (bad 44 NotAscending)
  short_place : image_at (take 47 lined) ≡ Err (bad 47 Short)
  short_mask : image_at (take 55 lined) ≡ Err (bad 55 Short)
  one_byte_more : image_at (lined ++ 0 ∷ []) ≡ Err (bad 56 Trailing)

line_faults : LineFaults
unfolding image_at header_at heading_at limit_at count_at know_count_at word_at words_at mask_at line_at lines_at
line_faults = record {
  no_place = refl;
  empty_field = refl;
  same_place = refl;
  no_place_first = refl;
  order_first = refl;
  short_place = refl;
  short_mask = refl;
  one_byte_more = refl;
}
