-- A group of which a part changes: what is the same of the rest.
use Rattle.std.proofs.Common.{ℕ, List}
use Rattle.bk_machine.specs.Entries.{Entry}
use Rattle.bk_machine.specs.Messages.{ToMemory, MemoryBlock}
use Rattle.bk_machine.specs.Phases.{Phase, expected_entry}
use Rattle.bk_machine.specs.World.{GroupState}
use Rattle.bk_machine.specs.Words.{Completed, RightAnswers, latest, effective}
use Rattle.bk_machine.specs.Copies.{Copies, Matches, Standing}
use Rattle.bk_machine.specs.Values.{Values, MemoryChannels}
use Rattle.bk_machine.specs.Invariant.{Good}

-- the same directory and caches at another phase
pub copies-at : {p q : Phase} {d h : ℕ → ℕ → Entry} → ((c w : ℕ) → Matches (d c w) (expected_entry q c w (h c w)))
    → Standing q d h
    → Copies p d h
    → Copies q d h
copies-at matches standing copies = record {
  matches = matches;
  one_way = copies.one_way;
  alone = copies.alone;
  one_owner = copies.one_owner;
  real_way = copies.real_way;
  real_alone = copies.real_alone;
  standing = standing;
}

-- a group of which the memory, its channels and the history alone change: it stays good where the values, these channels and the
-- answers are right again
pub still-good : {p : Phase} {part : GroupState} (m : ℕ → ℕ → ℕ) (ms : List ToMemory) (bs : List MemoryBlock)
    (ds : List Completed)
    → Good p part
    → Values p part.transaction part.entries part.words (latest ds) (effective m ms)
    → MemoryChannels part.transaction m (latest ds) ms bs
    → RightAnswers (λ t k. 0) ds
    → Good p (record part { memory = m; memout = ms; memin = bs; history = ds })
still-good m ms bs ds good values channels answers = record {
  commands = good.commands;
  fills = good.fills;
  responses = good.responses;
  requests = good.requests;
  taker = good.taker;
  placed = good.placed;
  transaction = good.transaction;
  pending = good.pending;
  taken_count = good.taken_count;
  copies = good.copies;
  values = values;
  channels = channels;
  kind = good.kind;
  answers = answers;
}
