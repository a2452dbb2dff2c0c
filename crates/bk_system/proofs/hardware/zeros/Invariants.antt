use Rattle.std.proofs.Common.{◌≡◌, ℕ, vec_len, get_or}
use Rattle.bk_system.proofs.hardware.zeros.Given as goal

abbrev pub invariant-loop : goal.invariant-loop
invariant-loop l = record { count : vec_len l.counts ≡ l.counter; zero : (number : ℕ) → get_or l.counts.items number 0 ≡ 0 }
