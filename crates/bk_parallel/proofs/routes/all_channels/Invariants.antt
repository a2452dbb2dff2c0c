use Rattle.bk_parallel.specs.Opens.{AreSome}
use Rattle.bk_parallel.proofs.Listing.{HasAll, IsBelow, IsSooner}
use Rattle.bk_parallel.proofs.routes.all_channels.Given as goal

abbrev pub invariant-loop-from : goal.invariant-loop-from
invariant-loop-from l = record {
  some : AreSome l.fn.config l.channels.items;
  whole : HasAll l.fn.config (IsSooner l.cache l.from) l.channels.items;
}

abbrev pub invariant-loop-cache : goal.invariant-loop-cache
invariant-loop-cache l = record {
  some : AreSome l.fn.config l.channels.items;
  whole : HasAll l.fn.config (IsBelow l.cache) l.channels.items;
}
