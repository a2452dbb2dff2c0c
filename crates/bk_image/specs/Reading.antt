-- Reading an image from left to right, with the first fault that is met. The file has total bytes, and
-- a reader answers a value and the bytes behind it.
use Rattle.std.specs.Prelude.{ℕ, zero, suc, ◌+◌, ◌-◌, ◌==◌, nat_lt, nat_le, ◌&&◌, List, [], ◌∷◌, length, take, drop, codes, Result, Ok, Err, if◌then◌else◌}
use Rattle.std.specs.Int.{Width, w32, w64, byte_len, from_le_bytes}
use Rattle.bk_isa.specs.declared.form.Form.{Form}
use Rattle.bk_isa.specs.declared.fault.WordFault.{WordFault}
use Rattle.bk_isa.specs.declared.fault.WordFault.TheVariants as words
use Rattle.bk_isa.specs.Words.{decode}
use Rattle.bk_image.specs.declared.fault.Kind.{Kind}
use Rattle.bk_image.specs.declared.fault.Kind.TheVariants.{Magic, Version, ReservedByte, Count, TooMany, Opcode, WordField, WordReserved, KnowLine, NotAscending, Short, Trailing, Limit}
use Rattle.bk_image.specs.Faults.{Bad, bad}
use Rattle.bk_know.specs.declared.sets.Sets.{Sets}
use Rattle.bk_know.specs.Sets.{sets_of, any_empty}
use Rattle.bk_image.specs.Images.{Parts, Line}
use Rattle.bk_image.specs.declared.header.Heading.{Heading}

infixl 10 ◌>>=◌
abbrev pub ◌>>=◌ : {A B : Type 0} → Result A Bad → (A → Result B Bad) → Result B Bad
(Ok x) >>= f = f x
(Err e) >>= f = Err e

-- a number, little-endian
abbrev pub number_at : Width → ℕ → List ℕ → Result (ℕ × List ℕ) Bad
number_at width total bytes = if nat_lt (length bytes) (byte_len width) then Err (bad total Short)
    else Ok (from_le_bytes width (take (byte_len width) bytes), drop (byte_len width) bytes)

-- a byte that has to be from the least one to the greatest one
abbrev pub byte_at : ℕ → ℕ → Kind → ℕ → List ℕ → Result (ℕ × List ℕ) Bad
byte_at least greatest kind total [] = Err (bad total Short)
byte_at least greatest kind total (b ∷ rest) =
    if nat_le least b && nat_le b greatest then Ok (b, rest) else Err (bad (total - length (b ∷ rest)) kind)

-- the limit, by the version: it is 8 in version 1, which has a reserved byte in its place, and else a byte from 1 to 16
unfoldable pub limit_at : ℕ → ℕ → List ℕ → Result (ℕ × List ℕ) Bad
limit_at version total bytes =
    if version == 1 then (byte_at 0 0 ReservedByte total bytes >>= λ reserved. Ok (8, reserved.1)) else byte_at 1 16 Limit total bytes

-- the count of instructions, not 0 and at most 256
unfoldable pub count_at : ℕ → List ℕ → Result (ℕ × List ℕ) Bad
count_at total bytes = do
  count ← number_at w32 total bytes
  if count.0 == 0 then Err (bad (total - length bytes) Count) else if nat_lt 256 count.0 then Err (bad (total - length bytes) TooMany)
      else Ok count

-- the count of know lines, at most that of instructions
unfoldable pub know_count_at : ℕ → ℕ → List ℕ → Result (ℕ × List ℕ) Bad
know_count_at instrs total bytes = do
  knows ← number_at w32 total bytes
  if nat_lt instrs knows.0 then Err (bad (total - length bytes) Count) else Ok knows

-- the version, 1 or 2, the limit, two bytes 0 and the two counts
unfoldable pub heading_at : ℕ → List ℕ → Result (Heading × List ℕ) Bad
heading_at total bytes = do
  version ← byte_at 1 2 Version total bytes
  limit ← limit_at version.0 total version.1
  first ← byte_at 0 0 ReservedByte total limit.1
  second ← byte_at 0 0 ReservedByte total first.1
  instrs ← count_at total second.1
  knows ← know_count_at instrs.0 total instrs.1
  Ok (record { version = version.0; limit = limit.0; instrs = instrs.0; knows = knows.0 }, knows.1)

abbrev pub magic_number : ℕ
magic_number = from_le_bytes w32 (codes "BKUC")

-- the magic and what stands before the words
unfoldable pub header_at : ℕ → List ℕ → Result (Heading × List ℕ) Bad
header_at total bytes = do
  magic ← number_at w32 total bytes
  if magic.0 == magic_number then heading_at total magic.1 else Err (bad (total - length bytes) Magic)

-- where the field of a number begins in the word at a place: bytes 0 to 3 from the top, the last byte, and 4, the 32 bits that lie first
abbrev pub byte_of : ℕ → ℕ → ℕ
byte_of place number = if number == 4 then place else place + 7 - number

abbrev pub word_fault : ℕ → WordFault → Bad
word_fault place words.Opcode = bad (byte_of place 0) Opcode
word_fault place (words.Field number) = bad (byte_of place number) WordField
word_fault place (words.Reserved number) = bad (byte_of place number) WordReserved

abbrev pub with_place : ℕ → Result Form WordFault → Result Form Bad
with_place place (Ok f) = Ok f
with_place place (Err e) = Err (word_fault place e)

-- the instruction of the first eight bytes
unfoldable pub word_at : ℕ → List ℕ → Result Form Bad
word_at total bytes = do
  word ← number_at w64 total bytes
  with_place (total - length bytes) (decode word.0)

-- as many instructions as the count says
unfoldable pub words_at : ℕ → ℕ → List ℕ → Result (List Form × List ℕ) Bad
words_at total zero bytes = Ok ([], bytes)
words_at total (suc n) bytes = do
  first ← word_at total bytes
  others ← words_at total n (drop 8 bytes)
  Ok (first ∷ others.0, others.1)

-- what is known by the mask of the first eight bytes: no field of it is empty
unfoldable pub mask_at : ℕ → List ℕ → Result Sets Bad
mask_at total bytes = do
  mask ← number_at w64 total bytes
  if any_empty (sets_of mask.0) then Err (bad (total - length bytes) KnowLine) else Ok (sets_of mask.0)

-- the know line of the first twelve bytes: its place is below the count of instructions, and not below the least one that may come
unfoldable pub line_at : ℕ → ℕ → ℕ → List ℕ → Result Line Bad
line_at total instrs least bytes = do
  place ← number_at w32 total bytes
  if nat_lt place.0 instrs
      then (if nat_lt place.0 least then Err (bad (total - length bytes) NotAscending)
      else (mask_at total place.1 >>= λ sets. Ok (place.0, sets))) else Err (bad (total - length bytes) KnowLine)

-- as many know lines as the count says
unfoldable pub lines_at : ℕ → ℕ → ℕ → ℕ → List ℕ → Result (List Line × List ℕ) Bad
lines_at total instrs zero least bytes = Ok ([], bytes)
lines_at total instrs (suc n) least bytes = do
  first ← line_at total instrs least bytes
  others ← lines_at total instrs n (first.0 + 1) (drop 12 bytes)
  Ok (first ∷ others.0, others.1)

-- the image that all of the bytes spell, or the first fault
unfoldable pub image_at : List ℕ → Result Parts Bad
image_at bytes = do
  heading ← header_at (length bytes) bytes
  words ← words_at (length bytes) heading.0.instrs heading.1
  lines ← lines_at (length bytes) heading.0.instrs heading.0.knows 0 words.1
  if length lines.1 == 0
      then Ok (record { version = heading.0.version; limit = heading.0.limit; instrs = words.0; knows = lines.0 })
      else Err (bad (length bytes - length lines.1) Trailing)
