use Rattle.std.proofs.Common.{◌≡◌, ◌++◌, map, take}
use Rattle.bk_threads.specs.Journals.{by_agent}
use Rattle.bk_threads.proofs.merging.append.Given as goal

-- the entries that were passed are there, behind those that were there before
abbrev pub invariant-loop-stamp : goal.invariant-loop-stamp
invariant-loop-stamp l = l.entries.items ≡ l.fn.entries.items ++ map (by_agent l.journal.agent) (take l.stamp-index l.stamp-items)
