use Rattle.std.proofs.Common.{◌≡◌, ◌<◌, ℕ, vec_len}
use Rattle.std.specs.Prelude.{nat_lt, if◌then◌else◌}
use Rattle.std.specs.Int.{bit_at}
use Rattle.bk_lce.specs.CacheState.{opening}
use Rattle.bk_system.specs.Numbering.{caches_of, AreCaches}
use Rattle.bk_system.proofs.caches.Caches.make.Given as goal

abbrev pub invariant-loop-cache : goal.invariant-loop-cache
invariant-loop-cache l = record {
  count : vec_len l.arrays ≡ l.cache;
  own : AreCaches l.config l.arrays.items;
  unused : (c : ℕ) → caches_of l.config l.arrays.items c ≡ opening l.config;
  idle : (c : ℕ) → c < 64 → bit_at l.idle c ≡ (if nat_lt c l.cache then 1 else 0);
}
