use Rattle.std.proofs.Common.{◌≡◌, take}
use Rattle.bk_threads.specs.Journals.{gathered}
use Rattle.bk_threads.proofs.merging.gather.Given as goal

abbrev pub invariant-loop-journal : goal.invariant-loop-journal
invariant-loop-journal l = l.entries.items ≡ gathered (take l.journal-index l.journals)
