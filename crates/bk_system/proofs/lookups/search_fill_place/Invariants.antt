use Rattle.bk_system.specs.Channels.{queue}
use Rattle.bk_system.specs.Lookups.{has_fill}
use Rattle.bk_system.specs.Next.{IsNoneFrom}
use Rattle.bk_system.specs.Numbering.{fills_of}
use Rattle.bk_system.proofs.lookups.search_fill_place.Given as goal

abbrev pub invariant-loop-place : goal.invariant-loop-place
invariant-loop-place l = IsNoneFrom l.place l.start (has_fill l.caches (fills_of (queue l.fills)))
