use Rattle.std.proofs.Common.{◌<◌, ap, sym, ◌∙◌, arith, ℕ}
use Rattle.std.specs.Prelude.{not}
use Rattle.bk_dir.specs.Contents.{Contents}
use Rattle.bk_base.proofs.Below.{all_below-fails}
use Rattle.bk_system.specs.Systems.{state_of}
use Rattle.bk_system.proofs.hardware.Hardware.none_pending.Goals as goal

pub returns-then-pending : goal.returns-then-pending
returns-then-pending c =
    let within : c.loop-group.group < c.args.self.now.config.sets = omega (arith, c.set_count-group-end.ensures.value) in
    sym (all_below-fails c.args.self.now.config.sets c.loop-group.group
    (λ (g : ℕ). not ((state_of c.args.self.now).engine.directory.pending g)) within
    (ap not (ap (λ (d : Contents). d.pending c.loop-group.group) (sym c.directory-directory.ensures.contents) ∙ sym c.pending.ensures
    ∙ c.if-pending.true)))
