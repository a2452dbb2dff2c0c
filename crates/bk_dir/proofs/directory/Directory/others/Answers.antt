use Rattle.std.proofs.Common.{◌≡◌, ℕ, ap, ◌∙◌, arith}
use Rattle.bk_base.specs.Counting.{first_below}
use Rattle.bk_dir.specs.Directories.{contents_of}
use Rattle.bk_dir.specs.Summaries.{owner_at}
use Rattle.bk_dir.proofs.SummaryLaws.{owner-within, owner-other}
use Rattle.bk_dir.proofs.directory.Directory.others.Goals as goal

pub returns-clause-within : goal.returns-clause-within
returns-clause-within c =
    let self = c.args.self.now in
    let all : c.loop-cache.cache ≡ self.config.caches = omega arith in
    owner-within self.config (contents_of self) c.args.query c.loop-cache.others.owner
    (c.loop-cache.invariant.owner ∙ ap (λ (n : ℕ). first_below n (owner_at self.config (contents_of self) c.args.query)) all)

pub returns-clause-is_other : goal.returns-clause-is_other
returns-clause-is_other c =
    let self = c.args.self.now in
    let all : c.loop-cache.cache ≡ self.config.caches = omega arith in
    owner-other self.config (contents_of self) c.args.query c.loop-cache.others.owner
    (c.loop-cache.invariant.owner ∙ ap (λ (n : ℕ). first_below n (owner_at self.config (contents_of self) c.args.query)) all)
