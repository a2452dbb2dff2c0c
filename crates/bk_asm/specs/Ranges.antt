-- The ranges of what is read.
use Rattle.std.specs.Prelude.{◌≡◌, ℕ, ◌<◌, ◌^◌, ◌==◌, Bool, true, false, ◌&&◌, ◌||◌, nat_lt, length, is_some}
use Rattle.bk_know.specs.declared.sets.Sets.{Sets}
use Rattle.bk_asm.specs.Names.{value_names, names_of, has_value}
use Rattle.bk_asm.specs.Operations.{slots_of}
use Rattle.bk_asm.specs.Programs.{Statement}
use Rattle.bk_asm.specs.declared.names.Names.{Names}
use Rattle.bk_asm.specs.declared.slots.Slot.{Slot}
use Rattle.bk_asm.specs.declared.slots.Slot.TheVariants as slots
use Rattle.bk_asm.specs.declared.slots.Last.{Last}
use Rattle.bk_asm.specs.declared.slots.Last.TheVariants as lasts

-- two to the number of a field's values
abbrev pub limit_of : ℕ → ℕ
limit_of field = 2 ^ length (value_names field)

-- a set that has a value, and none but those of its field
abbrev pub IsSet : ℕ → ℕ → Type 0
IsSet limit set = (0 < set) × (set < limit)

-- each field's set is one
pub record AreInRange (sets : Sets) : Type 0 where
  pub stage : IsSet (2 ^ 4) sets.stage
  pub head : IsSet (2 ^ 7) sets.head
  pub gp : IsSet (2 ^ 2) sets.gp
  pub kind : IsSet (2 ^ 5) sets.kind
  pub summ : IsSet (2 ^ 3) sets.summ
  pub own : IsSet (2 ^ 6) sets.own
  pub owner : IsSet (2 ^ 5) sets.owner
  pub others : IsSet (2 ^ 2) sets.others
  pub victim : IsSet (2 ^ 2) sets.victim
  pub acks : IsSet (2 ^ 2) sets.acks
  pub wb : IsSet (2 ^ 3) sets.wb
  pub mem : IsSet (2 ^ 4) sets.mem
  pub dreq : IsSet (2 ^ 6) sets.dreq
  pub down : IsSet (2 ^ 5) sets.down
  pub f0 : IsSet (2 ^ 2) sets.f0
  pub f1 : IsSet (2 ^ 2) sets.f1
  pub f2 : IsSet (2 ^ 2) sets.f2
  pub f3 : IsSet (2 ^ 2) sets.f3

-- a number that a name stands for
abbrev pub is_value : Names → ℕ → Bool
is_value sort n = has_value (names_of sort) n

-- what an operand a, b or c may be
abbrev pub slot_ok : Slot → ℕ → ℕ → Bool
slot_ok slots.Nothing field n = n == 0
slot_ok (slots.Name sort) field n = is_value sort n
slot_ok (slots.Perhaps sort) field n = n == 0 || is_value sort n
slot_ok slots.Classes field n = nat_lt 0 n && nat_lt n 8
slot_ok slots.Values field n = nat_lt 0 n && nat_lt n (limit_of field)

-- what the last operand may be
abbrev pub last_ok : Last → ℕ → Bool
last_ok lasts.Nothing n = n == 0
last_ok lasts.Shift n = nat_lt n 64
last_ok lasts.Number n = nat_lt n (2 ^ 32)
last_ok lasts.Target n = nat_lt n 256

abbrev pub is_target : Last → Bool
is_target lasts.Nothing = false
is_target lasts.Shift = false
is_target lasts.Number = false
is_target lasts.Target = true

-- the operands are in their ranges, and there is a target where the operation has one
pub record IsReady (statement : Statement) : Type 0 where
  pub a : slot_ok (slots_of statement.operation).a 0 statement.a ≡ true
  pub b : slot_ok (slots_of statement.operation).b statement.a statement.b ≡ true
  pub c : slot_ok (slots_of statement.operation).c statement.a statement.c ≡ true
  pub last : last_ok (slots_of statement.operation).last statement.imm ≡ true
  pub target : is_some statement.target ≡ is_target (slots_of statement.operation).last
