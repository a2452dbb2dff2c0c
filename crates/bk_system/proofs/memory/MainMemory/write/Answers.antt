use Rattle.std.proofs.Common.{◌∙◌, ap, ℕ, cond, Some}
use Rattle.std.specs.Ordering.{nat_cmp}
use Rattle.std.specs.BTreeMap.{get, is_at}
use Rattle.bk_system.proofs.Words.{words-same, words-block}
use Rattle.bk_system.proofs.memory.MainMemory.write.Goals as goal

pub returns-in-Ok-clause-ok : goal.returns-in-Ok-clause-ok
returns-in-Ok-clause-ok c = words-block c.args.self.now _ c.args.addr c.args.words
    (λ q. c.in-Ok.ensures.updates.0 q
    ∙ ap (λ (b : ℕ). cond (is_at (nat_cmp b) q) (Some c.args.words) (get nat_cmp c.args.self.now.blocks q)) c.block_of.ensures.value)

pub returns-in-Err-clause-err : goal.returns-in-Err-clause-err
returns-in-Err-clause-err c = words-same c.args.self.now _ c.in-Err.ensures.err
