-- The faults of a text of microcode.
use Rattle.std.specs.Prelude.{◌≡◌, ℕ, Result, Ok, Err}
use Rattle.bk_text.specs.declared.fault.At as places
use Rattle.bk_text.specs.Faults as texts
use Rattle.bk_text.specs.Faults.{Bad}
use Rattle.bk_asm.specs.declared.fault.Kind.{Kind}
use Rattle.bk_asm.specs.declared.fault.Kind.TheVariants as kinds
use Rattle.bk_asm.specs.declared.fault.AsmFault.{AsmFault}
use Rattle.bk_asm.specs.declared.fault.AsmFault.TheVariants as errors

abbrev pub kind_code : Kind → ℕ
kind_code kinds.Byte = 20
kind_code kinds.Mnemonic = 21
kind_code kinds.Operand = 22
kind_code kinds.Number = 23
kind_code kinds.Extra = 24
kind_code kinds.LabelTwice = 25
kind_code kinds.LabelUndefined = 26
kind_code kinds.Know = 27
kind_code kinds.WithoutInstruction = 28
kind_code kinds.NoInstruction = 29
kind_code kinds.TooMany = 30
kind_code kinds.Caches = 31

-- what is wrong with a line, and in which column
abbrev pub At : Type 0
At = places.At Kind

abbrev pub bad : ℕ → At → Bad
bad line fault = texts.bad kind_code line fault

abbrev pub fault_of : Bad → AsmFault
fault_of b = errors.Bad b.line b.column b.kind

-- What a call returned, seen by view, is what reading gives, unless memory ran out.
abbrev pub Fails : {Y : Type 0} → AsmFault → Result Y Bad → Type 0
Fails errors.Memory read = Unit {0}
Fails (errors.Bad line column kind) read = read ≡ Err (record { line = line; column = column; kind = kind })

abbrev pub Gives : {X Y : Type 0} → (X → Y) → Result X AsmFault → Result Y Bad → Type 0
Gives view (Ok x) read = read ≡ Ok (view x)
Gives view (Err e) read = Fails e read
