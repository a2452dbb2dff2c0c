-- What an instruction leaves and pops is of the configuration.
use Rattle.std.specs.Prelude.{◌+◌}
use Rattle.std.specs.Option.{option_copied}
use Rattle.bk_dir.specs.Directories.{contents_of}
use Rattle.bk_engine.proofs.Kept.{summed_after}
use Rattle.bk_engine.proofs.Outward.{popped_within}
use Rattle.bk_engine.proofs.Sound.{sound_after}
use Rattle.bk_engine.proofs.step.run.Goals as goal

pub returns-clause-sound : goal.returns-clause-sound
returns-clause-sound c =
    sound_after c.args.config c.args.core.now c.change_core.new.core c.len.result c.args.form c.args.choice
    (option_copied c.args.message) (c.args.core.now.place + 1)
    c.requires.ways c.requires.source c.requires.within c.requires.sound c.change_core.ensures

pub returns-clause-pops : goal.returns-clause-pops
returns-clause-pops c =
    popped_within c.args.config (record { core = c.args.core.now; directory = contents_of c.args.directory.now }) c.args.form
    c.pops-popped.result
    (c.pops-popped.ensures (contents_of c.args.directory.now)) c.requires.sound

pub returns-clause-summed : goal.returns-clause-summed
returns-clause-summed c =
    summed_after c.args.config (contents_of c.change_directory.new.directory)
    (record { core = c.args.core.now; directory = contents_of c.args.directory.now }) c.len.result c.args.form
    c.args.choice (option_copied c.args.message) c.change_directory.new.summed c.change_core.new.core
    c.drop_summary.new.summed (c.args.core.now.place + 1)
    c.change_directory.ensures.summed c.requires.runs c.change_core.ensures c.drop_summary.ensures
