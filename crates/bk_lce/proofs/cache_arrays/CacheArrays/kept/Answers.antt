-- What was read at the place of the line is the line.
use Rattle.std.proofs.Common.{◌<◌, ℕ, length, slice_index_or, ap, sym, ◌∙◌, arith}
use Rattle.bk_lce.specs.CacheArrays.{state_of}
use Rattle.bk_lce.specs.Lists.{place_of}
use Rattle.bk_lce.proofs.Written.{lines_read}
use Rattle.bk_lce.proofs.cache_arrays.CacheArrays.kept.Goals as goal

pub returns : goal.returns
unfolding state_of
returns c =
    let within : place_of c.args.self.now.config.ways c.args.set c.args.way < length c.args.self.now.lines.items = omega arith in
    sym (lines_read c.args.self.now.config.ways c.args.self.now.lines.items c.args.set c.args.way c.index.result.now c.requires.way within
    (c.index.ensures ∙ ap (λ (i : ℕ). slice_index_or c.args.self.now.lines.items i c.index.result.now) c.place.ensures.value))
