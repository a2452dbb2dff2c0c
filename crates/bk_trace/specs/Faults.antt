-- The faults of a trace's text.
use Rattle.std.specs.Prelude.{◌≡◌, ℕ, Option, None, Result, Ok, Err}
use Rattle.bk_text.specs.declared.fault.At as places
use Rattle.bk_text.specs.Faults as texts
use Rattle.bk_text.specs.Faults.{Bad}
use Rattle.bk_trace.specs.declared.fault.Kind.{Kind}
use Rattle.bk_trace.specs.declared.fault.Kind.TheVariants as kinds
use Rattle.bk_trace.specs.declared.fault.TraceFault.{TraceFault}
use Rattle.bk_trace.specs.declared.fault.TraceFault.TheVariants as errors

abbrev pub kind_code : Kind → ℕ
kind_code kinds.Byte = 40
kind_code kinds.Config = 41
kind_code kinds.Cache = 42
kind_code kinds.Name = 43
kind_code kinds.Address = 44
kind_code kinds.Value = 45
kind_code kinds.Extra = 46
kind_code kinds.TooMany = 47

-- what is wrong with a line, and in which column
abbrev pub At : Type 0
At = places.At Kind

abbrev pub bad : ℕ → At → Bad
bad line fault = texts.bad kind_code line fault

abbrev pub fault_of : Bad → TraceFault
fault_of b = errors.Bad b.line b.column b.kind

-- What a call returned, seen by view, is what reading gives, unless memory ran out.
abbrev pub Fails : {Y : Type 0} → TraceFault → Result Y Bad → Type 0
Fails errors.Memory read = Unit {0}
Fails (errors.Bad line column kind) read = read ≡ Err (record { line = line; column = column; kind = kind })

abbrev pub Gives : {X Y : Type 0} → (X → Y) → Result X TraceFault → Result Y Bad → Type 0
Gives view (Ok x) read = read ≡ Ok (view x)
Gives view (Err e) read = Fails e read

-- a text with a fault spells nothing
abbrev pub IsOff : {X : Type 0} → TraceFault → Option X → Type 0
IsOff errors.Memory spelled = Unit {0}
IsOff (errors.Bad line column kind) spelled = spelled ≡ None
