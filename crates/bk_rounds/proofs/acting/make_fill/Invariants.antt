use Rattle.std.proofs.Common.{◌≡◌, None}
use Rattle.bk_base.specs.Counting.{first_below}
use Rattle.bk_system.specs.Systems.{state_of}
use Rattle.bk_run.specs.Greedy.{fill_event}
use Rattle.bk_rounds.proofs.acting.make_fill.Given as goal

abbrev pub invariant-loop-from : goal.invariant-loop-from
invariant-loop-from l = record {
  config : l.hardware.config ≡ l.initial.hardware.config;
  state : state_of l.hardware ≡ state_of l.initial.hardware;
  none : first_below l.from (fill_event l.initial.hardware.config l.program (state_of l.initial.hardware) l.cache) ≡ None;
}
