-- A line that doesn't hold the block stays as it is.
use Rattle.std.proofs.Common.{◌≡◌, ℕ, Bool, false, if◌then◌else◌, ap, sym, ◌∙◌}
use Rattle.bk_base.specs.declared.coh.Coh.TheVariants.{I}
use Rattle.bk_lce.specs.declared.line.Line.{Line}
use Rattle.bk_lce.specs.CacheArrays.{state_of}
use Rattle.bk_lce.specs.CacheState.{holds, with_line}
use Rattle.bk_lce.specs.CacheTable.{wiped_line}
use Rattle.bk_lce.proofs.Written.{put_itself}
use Rattle.bk_lce.proofs.cache_arrays.CacheArrays.wipe.Goals as goal

pub returns-else-holds-clause-state : goal.returns-else-holds-clause-state
returns-else-holds-clause-state c =
    let line : Line = (state_of c.args.self.now).lines c.args.set c.args.way in
    let not_held : holds line c.args.tag ≡ false =
    ap (λ (x : Line). holds x c.args.tag) (sym c.kept.ensures) ∙ sym c.holds.ensures ∙ c.if-holds.false in
    let stays : wiped_line c.args.tag line ≡ line = ap (λ (b : Bool). if b then (record line { state = I }) else line) not_held in
    ap (λ (f : ℕ → ℕ → Line). record (state_of c.args.self.now) { lines = f })
    (sym (put_itself (state_of c.args.self.now).lines c.args.set c.args.way))
    ∙ ap (λ (x : Line). with_line (state_of c.args.self.now) c.args.set c.args.way x) (sym stays)
