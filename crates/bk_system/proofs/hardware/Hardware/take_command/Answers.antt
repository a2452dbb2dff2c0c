use Rattle.std.proofs.Common.{ℕ, ◌≤◌, Option, ap, sym, subst, ◌∙◌}
use Rattle.std.specs.Prelude.{IfSome}
use Rattle.std.specs.Option.{option_copied}
use Rattle.bk_base.specs.Places.{Shape}
use Rattle.bk_msg.specs.declared.row.Row.{Row}
use Rattle.bk_lce.specs.CacheState.{CacheState}
use Rattle.bk_lce.specs.CacheTable as table
use Rattle.bk_system.specs.CacheStates.{states_of}
use Rattle.bk_system.specs.Channels.{room}
use Rattle.bk_system.specs.EventCalls.{peer_in}
use Rattle.bk_system.specs.Numbering.{fill_place}
use Rattle.bk_system.specs.Systems.{state_of}
use Rattle.bk_system.specs.Events.{cache_row, without_command}
use Rattle.bk_system.proofs.Answered.{command-room}
use Rattle.bk_system.proofs.CacheRows.{command-row, caches-kept}
use Rattle.bk_system.proofs.hardware.Hardware.take_command.Goals as goal

pub conclude-requires-clause-room : goal.conclude-requires-clause-room
conclude-requires-clause-room c =
    let head = sym c.head.ensures.value ∙ ap option_copied c.in-Some.is in
    command-room _ c.args.self.now.caches.config (states_of c.args.self.now.caches c.args.cache)
    (states_of c.command.new.self c.args.cache) c.args.cache c.in-Some.message.now c.in-Ok.step c.in-Ok.ensures.gives
    c.requires.response
    (subst (λ (o : Option Row). IfSome (peer_in o) (λ to. 1 ≤ room c.args.self.now.fills (fill_place to c.args.cache))) head
    c.requires.fill) c.requires.history

pub returns-in-Err-clause-happens : goal.returns-in-Err-clause-happens
returns-in-Err-clause-happens c =
    let head = sym c.head.ensures.value ∙ ap option_copied c.in-Some.is in
    let s = state_of c.args.self.now in
    let m = c.in-Some.message.now in (
      ap (cache_row (without_command s c.args.cache) c.args.cache)
          (command-row c.args.self.now.config s c.args.cache m c.requires.cache head
          ∙ ap (λ (k : Shape). table.command k (s.caches c.args.cache) c.args.cache m) (sym c.args.self.now.caches_config)
          ∙ c.in-Err.ensures.gives.0),
      ap (λ (g : ℕ → CacheState). record s { caches = g })
          (caches-kept (states_of c.args.self.now.caches) (states_of c.command.new.self) c.args.cache c.command.ensures.others
          c.in-Err.ensures.gives.1),
    )
