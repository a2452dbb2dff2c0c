-- The line is changed at its place.
use Rattle.std.proofs.Common.{ℕ, ap, arith}
use Rattle.bk_lce.specs.declared.line.Line.{Line}
use Rattle.bk_lce.specs.CacheArrays.{state_of}
use Rattle.bk_lce.proofs.Written.{lines_changed}
use Rattle.bk_lce.proofs.cache_arrays.CacheArrays.set_state.Goals as goal

pub returns-clause-state : goal.returns-clause-state
unfolding state_of
returns-clause-state c =
    ap (λ (f : ℕ → ℕ → Line). record (state_of c.args.self.now) { lines = f })
    (lines_changed c.args.self.now.config.ways c.args.self.now.lines.items c.args.set c.args.way c.place-place.result
    c.index_mut.result.now (λ line. record line { state = c.args.state }) c.requires.way c.place-place.ensures.value (omega arith)
    c.index_mut.ensures.value)
