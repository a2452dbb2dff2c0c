-- The line is changed at its place.
use Rattle.std.proofs.Common.{ℕ, ap, arith, ◌∙◌, slice_set}
use Rattle.bk_base.specs.declared.coh.Coh.TheVariants.{M}
use Rattle.bk_lce.specs.declared.line.Line.{Line}
use Rattle.bk_lce.specs.CacheArrays.{state_of}
use Rattle.bk_lce.specs.CacheState.{with_line}
use Rattle.bk_lce.proofs.Written.{lines_changed}
use Rattle.bk_lce.proofs.cache_arrays.CacheArrays.store_word.Goals as goal

pub returns-clause-state : goal.returns-clause-state
unfolding state_of
returns-clause-state c =
    let line : Line = (state_of c.args.self.now).lines c.args.set c.args.way in
    ap (λ (f : ℕ → ℕ → Line). record (state_of c.args.self.now) { lines = f })
    (lines_changed c.args.self.now.config.ways c.args.self.now.lines.items c.args.set c.args.way c.place-place.result
    c.index_mut-line.result.now
    (λ line. record line { state = M; words = slice_set line.words c.word_of.result c.args.value }) c.requires.way
    c.place-place.ensures.value (omega arith) c.index_mut-line.ensures.value)
    ∙ ap (λ (i : ℕ). with_line (state_of c.args.self.now) c.args.set c.args.way
    (record line { state = M; words = slice_set line.words i c.args.value })) c.word_of.ensures.value
