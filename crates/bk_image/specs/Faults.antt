-- The faults of an image's bytes.
use Rattle.std.specs.Prelude.{◌≡◌, ℕ, Result, Ok, Err}
use Rattle.bk_image.specs.declared.fault.Kind.{Kind}
use Rattle.bk_image.specs.declared.fault.Kind.TheVariants.{Magic, Version, ReservedByte, Count, TooMany, Opcode, WordField, WordReserved, KnowLine, NotAscending, Short, Trailing, Limit}
use Rattle.bk_image.specs.declared.fault.ImageFault.{ImageFault}
use Rattle.bk_image.specs.declared.fault.ImageFault.TheVariants as errors

abbrev pub kind_code : Kind → ℕ
kind_code Magic = 1
kind_code Version = 2
kind_code ReservedByte = 3
kind_code Count = 4
kind_code TooMany = 5
kind_code Opcode = 6
kind_code WordField = 7
kind_code WordReserved = 8
kind_code KnowLine = 9
kind_code NotAscending = 10
kind_code Short = 11
kind_code Trailing = 12
kind_code Limit = 13

-- where the offending field begins, and what is wrong
pub record Bad : Type 0 where
  pub place : ℕ
  pub kind : ℕ

abbrev pub bad : ℕ → Kind → Bad
bad place kind = record { place = place; kind = kind_code kind }

abbrev pub fault_of : Bad → ImageFault
fault_of b = errors.Bad b.place b.kind

-- What a function returned, seen by view, is what reading gives, unless memory ran out.
abbrev pub Fails : {Y : Type 0} → ImageFault → Result Y Bad → Type 0
Fails errors.Memory read = Unit {0}
Fails (errors.Bad place kind) read = read ≡ Err (record { place = place; kind = kind })

abbrev pub Gives : {X Y : Type 0} → (X → Y) → Result X ImageFault → Result Y Bad → Type 0
Gives view (Ok x) read = read ≡ Ok (view x)
Gives view (Err e) read = Fails e read
