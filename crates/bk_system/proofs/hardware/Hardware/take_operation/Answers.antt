use Rattle.std.proofs.Common.{ℕ, ap, sym, ◌∙◌}
use Rattle.bk_base.specs.Places.{Shape}
use Rattle.bk_lce.specs.CacheState.{CacheState}
use Rattle.bk_lce.specs.CacheTable as table
use Rattle.bk_system.specs.CacheStates.{states_of}
use Rattle.bk_system.specs.Systems.{state_of}
use Rattle.bk_system.specs.Events.{cache_row}
use Rattle.bk_system.proofs.Answered.{issue-room}
use Rattle.bk_system.proofs.CacheRows.{issue-row, caches-kept}
use Rattle.bk_system.proofs.hardware.Hardware.take_operation.Goals as goal

pub conclude-requires-clause-room : goal.conclude-requires-clause-room
conclude-requires-clause-room c =
    issue-room _ c.args.self.now.caches.config (states_of c.args.self.now.caches c.args.cache)
    (states_of c.issue_at.new.self c.args.cache) c.args.cache c.args.op c.args.way c.in-Ok.step c.in-Ok.ensures.gives
    c.requires.request c.requires.history

pub returns-in-Err-clause-happens : goal.returns-in-Err-clause-happens
returns-in-Err-clause-happens c =
    let s = state_of c.args.self.now in (
      ap (cache_row s c.args.cache) (issue-row c.args.self.now.config s c.args.cache c.args.op c.args.way c.requires.cache c.requires.way
          ∙ ap (λ (k : Shape). table.issue k (s.caches c.args.cache) c.args.cache c.args.op c.args.way)
          (sym c.args.self.now.caches_config)
          ∙ c.in-Err.ensures.gives.0),
      ap (λ (g : ℕ → CacheState). record s { caches = g })
          (caches-kept (states_of c.args.self.now.caches) (states_of c.issue_at.new.self) c.args.cache c.issue_at.ensures.others
          c.in-Err.ensures.gives.1),
    )
