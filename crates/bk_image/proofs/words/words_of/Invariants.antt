use Rattle.std.proofs.Common.{◌≡◌, ◌-◌, length}
use Rattle.bk_image.specs.Reading.{words_at}
use Rattle.bk_image.proofs.Loop.{with_front}
use Rattle.bk_image.proofs.words.words_of.Given as goal

abbrev pub invariant-loop : goal.invariant-loop
invariant-loop l = (with_front l.words.items (words_at l.total (l.count - l.counter) l.rest) ≡ words_at l.total l.count l.bytes)
    × (length l.words.items ≡ l.counter)
