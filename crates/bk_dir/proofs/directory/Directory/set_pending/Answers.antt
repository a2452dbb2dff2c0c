use Rattle.std.proofs.Common.{ap, arith}
use Rattle.bk_dir.specs.Lists.{entries_of}
use Rattle.bk_dir.proofs.Lists.{bits_of-on, on-small}
use Rattle.bk_dir.proofs.directory.Directory.set_pending.Goals as goal

pub returns-clause-state : goal.returns-clause-state
returns-clause-state c =
    ap (λ bits. record { entries = entries_of c.args.self.now.segments.items; pending = bits })
    (bits_of-on c.args.self.now.pending c.args.set (omega arith))

pub invariant_of-self-clause-pending_each : goal.invariant_of-self-clause-pending_each
invariant_of-self-clause-pending_each c =
    on-small c.args.self.now.pending c.args.set c.args.self.now.config.sets c.requires c.args.self.now.few_sets c.args.self.now.pending_each
