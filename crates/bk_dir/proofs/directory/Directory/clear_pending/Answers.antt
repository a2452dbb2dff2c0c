use Rattle.std.proofs.Common.{◌-◌, ◌*◌, ◌%◌, ◌^◌, ap, arith}
use Rattle.bk_dir.specs.Lists.{entries_of}
use Rattle.bk_dir.proofs.Lists.{bits_of-off, off-small, word-small}
use Rattle.bk_dir.proofs.directory.Directory.clear_pending.Goals as goal

pub returns-clause-state : goal.returns-clause-state
returns-clause-state c =
    ap (λ bits. record { entries = entries_of c.args.self.now.segments.items; pending = bits })
    (bits_of-off c.args.self.now.pending c.args.set (omega arith)
    (word-small c.args.self.now.pending c.args.self.now.config.sets c.args.self.now.few_sets c.args.self.now.pending_each))

pub invariant_of-self-clause-pending_each : goal.invariant_of-self-clause-pending_each
invariant_of-self-clause-pending_each c =
    off-small c.args.self.now.pending (2 ^ 64 - 1 - 1 * 2 ^ c.args.set % 2 ^ 64) c.args.self.now.config.sets c.args.self.now.pending_each
