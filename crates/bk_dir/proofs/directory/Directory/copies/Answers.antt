use Rattle.std.proofs.Common.{◌≡◌, ℕ, ap, ◌∙◌, arith}
use Rattle.std.specs.Prelude.{is_some}
use Rattle.bk_base.specs.Counting.{least_below}
use Rattle.bk_base.specs.States.{is_owner_like}
use Rattle.bk_dir.specs.Directories.{contents_of}
use Rattle.bk_dir.specs.Summaries.{is_shared}
use Rattle.bk_dir.proofs.EntryTests.{answers_at, shares_at}
use Rattle.bk_dir.proofs.Ways.{also-off, least-of-eight}
use Rattle.bk_dir.proofs.directory.Directory.copies.Goals as goal

pub returns-clause-owner : goal.returns-clause-owner
returns-clause-owner c =
    let self = c.args.self.now in
    let test = answers_at (contents_of self) c.args.cache c.args.set c.args.tag in
    let all : c.loop-way.way ≡ 8 = omega arith in
    c.loop-way.invariant.owner ∙ ap (λ (n : ℕ). least_below n test) all
    ∙ least-of-eight self.config.ways test self.few_ways (λ w l. also-off self.config self.segments.items c.args.cache c.args.set
    c.args.tag w (is_owner_like ((contents_of self).entries c.args.cache c.args.set w).state) self.fields (omega arith) l)

pub returns-clause-is_shared : goal.returns-clause-is_shared
returns-clause-is_shared c =
    let self = c.args.self.now in
    let test = shares_at (contents_of self) c.args.cache c.args.set c.args.tag in
    let all : c.loop-way.way ≡ 8 = omega arith in
    c.loop-way.invariant.is_shared ∙ ap (λ (n : ℕ). is_some (least_below n test)) all
    ∙ ap is_some (least-of-eight self.config.ways test self.few_ways (λ w l. also-off self.config self.segments.items c.args.cache
    c.args.set c.args.tag w (is_shared ((contents_of self).entries c.args.cache c.args.set w).state) self.fields (omega arith) l))
