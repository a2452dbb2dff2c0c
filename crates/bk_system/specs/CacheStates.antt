-- What the caches of a system hold, by number.
use Rattle.std.specs.Prelude.{ℕ}
use Rattle.bk_lce.specs.CacheState.{CacheState}
use Rattle.bk_system.specs.declared.caches.Caches.{Caches}
use Rattle.bk_system.specs.Numbering.{caches_of}

abbrev pub states_of : Caches → ℕ → CacheState
states_of y = caches_of y.config y.arrays.items
