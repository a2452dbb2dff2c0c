-- Traces that are drawn from a number.
use Rattle.std.specs.Prelude.{ℕ, zero, suc, ◌+◌, ◌*◌, ◌/◌, ◌%◌, ◌^◌, List, [], ◌∷◌, nat_lt, ◌==◌, if◌then◌else◌}
use Rattle.bk_base.specs.Places.{Shape}
use Rattle.bk_base.specs.declared.op.Op.{Op}
use Rattle.bk_base.specs.declared.op.Op.TheVariants.{Load, Store, UcLoad, UcStore, Evict}

-- the state after a draw: a linear congruential generator modulo 2^32
unfoldable pub drawn : ℕ → ℕ
drawn n = (n * 69069 + 1) % 2 ^ 32

-- what a draw gives: the upper half of the state behind it
abbrev pub given : ℕ → ℕ
given n = n / 65536

-- of sixteen: seven loads, six stores, and one of each other operation
abbrev pub op_of_sixteen : ℕ → ℕ → ℕ → Op
op_of_sixteen n address value =
    if nat_lt n 7 then Load address
    else if nat_lt n 13 then Store address value
    else if n == 13 then UcLoad address
    else if n == 14 then UcStore address value
    else Evict address

-- a word of one of the first blocks, of which there are four times as many as a cache has entries
abbrev pub address_of_draws : Shape → ℕ → ℕ → ℕ
address_of_draws k block word = block % (k.sets * k.ways * 4) * 64 + word % 8 * 8

-- an operation of four states behind draws; a store's value is the operation's number
abbrev pub operation_of_draws : Shape → ℕ → ℕ → ℕ → ℕ → ℕ → ℕ × Op
operation_of_draws k number a b c d = (given a % k.caches, op_of_sixteen (given b % 16) (address_of_draws k (given c) (given d)) number)

-- so many operations, from a state and the number of the first
unfoldable pub generated : Shape → ℕ → ℕ → ℕ → List (ℕ × Op)
generated k i number zero = []
generated k i number (suc n) =
    operation_of_draws k number (drawn i) (drawn (drawn i)) (drawn (drawn (drawn i))) (drawn (drawn (drawn (drawn i))))
    ∷ generated k (drawn (drawn (drawn (drawn i)))) (number + 1) n
