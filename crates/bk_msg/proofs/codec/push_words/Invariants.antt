use Rattle.std.proofs.Common.{◌≡◌, ◌+◌, ◌*◌, ◌++◌, take}
use Rattle.std.specs.List.{flat_map}
use Rattle.arrayvec.specs.ArrayVec.{array_vec_len}
use Rattle.bk_msg.specs.Spelling.{word}
use Rattle.bk_msg.proofs.codec.push_words.Given as goal

abbrev pub invariant-loop-number : goal.invariant-loop-number
invariant-loop-number l = (l.out.items ≡ l.fn.out.items ++ flat_map word (take l.number-index l.words))
    × (array_vec_len l.out ≡ array_vec_len l.fn.out + 8 * l.number-index)
