use Rattle.std.proofs.Common.{◌<◌, ℕ, List, ap, sym, ◌∙◌, arith}
use Rattle.std.specs.Prelude.{drop}
use Rattle.std.specs.Option.{option_copied}
use Rattle.bk_base.specs.Places.{Shape}
use Rattle.bk_base.specs.Tables.{put}
use Rattle.bk_base.specs.declared.config.TheConstants.{MOST_CACHES}
use Rattle.bk_msg.specs.declared.row.Row.{Row}
use Rattle.bk_lce.specs.CacheState.{CacheState}
use Rattle.bk_lce.specs.CacheTable as table
use Rattle.bk_system.specs.CacheStates.{states_of}
use Rattle.bk_system.specs.Channels.{queue}
use Rattle.bk_system.specs.Systems.{state_of}
use Rattle.bk_system.specs.Events.{cache_row, without_fill, fill_taken}
use Rattle.bk_system.specs.EventCalls.{with_step}
use Rattle.bk_system.proofs.Answered.{fill-room}
use Rattle.bk_system.proofs.CacheRows.{fill-row, fill-none, fill-head, fill-popped, caches-kept, took}
use Rattle.bk_system.proofs.hardware.Hardware.take_fill.Goals as goal

pub conclude-requires-clause-room : goal.conclude-requires-clause-room
conclude-requires-clause-room c =
    fill-room _ c.args.self.now.caches.config (states_of c.args.self.now.caches c.args.to) (states_of c.fill.new.self c.args.to)
    c.args.to c.in-Some.message.now c.in-Ok.step c.in-Ok.ensures.gives c.requires.response c.requires.history

pub returns-in_default-clause-happens : goal.returns-in_default-clause-happens
returns-in_default-clause-happens c =
    let s = state_of c.args.self.now in
    let to : c.args.to < MOST_CACHES = omega (arith, c.requires.to, c.args.self.now.few_caches) in
    let from : c.args.from < MOST_CACHES = omega (arith, c.requires.from, c.args.self.now.few_caches) in
    let none = sym (fill-head (queue c.args.self.now.fills) c.args.to c.args.from (option_copied c.head.result) c.fill_place-place.result
    to from c.fill_place-place.ensures.value c.head.ensures.value) ∙ ap option_copied c.in_default.is in (
      ap (cache_row (without_fill s c.args.to c.args.from) c.args.to)
          (fill-none c.args.self.now.config s c.args.to c.args.from none),
      λ i. s,
    )

pub returns-in-Err-clause-happens : goal.returns-in-Err-clause-happens
returns-in-Err-clause-happens c =
    let s = state_of c.args.self.now in
    let m = c.in-Some.message.now in
    let to : c.args.to < MOST_CACHES = omega (arith, c.requires.to, c.args.self.now.few_caches) in
    let from : c.args.from < MOST_CACHES = omega (arith, c.requires.from, c.args.self.now.few_caches) in
    let head = sym (fill-head (queue c.args.self.now.fills) c.args.to c.args.from (option_copied c.head.result) c.fill_place-place.result
    to from c.fill_place-place.ensures.value c.head.ensures.value) ∙ ap option_copied c.in-Some.is in (
      ap (cache_row (without_fill s c.args.to c.args.from) c.args.to)
          (fill-row c.args.self.now.config s c.args.to c.args.from m c.requires.to c.requires.from head
          ∙ ap (λ (k : Shape). table.fill k (s.caches c.args.to) c.args.to m) (sym c.args.self.now.caches_config)
          ∙ c.in-Err.ensures.gives.0),
      ap (λ (g : ℕ → CacheState). record s { caches = g })
          (caches-kept (states_of c.args.self.now.caches) (states_of c.fill.new.self) c.args.to c.fill.ensures.others
          c.in-Err.ensures.gives.1),
    )

pub returns-in-Ok-clause-happens : goal.returns-in-Ok-clause-happens
returns-in-Ok-clause-happens c =
    let s = state_of c.args.self.now in
    let m = c.in-Some.message.now in
    let to : c.args.to < MOST_CACHES = omega (arith, c.requires.to, c.args.self.now.few_caches) in
    let from : c.args.from < MOST_CACHES = omega (arith, c.requires.from, c.args.self.now.few_caches) in
    let head = sym (fill-head (queue c.args.self.now.fills) c.args.to c.args.from (option_copied c.head.result) c.fill_place-place.result
    to from c.fill_place-place.ensures.value c.head.ensures.value) ∙ ap option_copied c.in-Some.is in
    let popped = fill-popped (queue c.args.self.now.fills) (queue c.drop_head.new.self) c.args.to c.args.from
    c.fill_place-place.result to from
    c.fill_place-place.ensures.value c.drop_head.ensures.rest in
    took s (state_of c.conclude.new.self) c.args.to (fill_taken c.args.self.now.config s c.args.to c.args.from)
    (states_of c.fill.new.self) s.command
    (put s.fill c.args.to (put (s.fill c.args.to) c.args.from (drop 1 (s.fill c.args.to c.args.from))))
    (states_of c.fill.new.self c.args.to) c.in-Ok.step.sent c.in-Ok.step.done c.in-Ok.step.way c.conclude.new.self.sent.items
    (fill-row c.args.self.now.config s c.args.to c.args.from m c.requires.to c.requires.from head
    ∙ ap (λ (k : Shape). table.fill k (s.caches c.args.to) c.args.to m) (sym c.args.self.now.caches_config)
    ∙ c.in-Ok.ensures.gives)
    c.fill.ensures.others
    (c.conclude.ensures.state
    ∙ ap (λ (f : ℕ → ℕ → List Row). with_step (record s { caches = states_of c.fill.new.self; fill = f }) c.args.to
    c.in-Ok.step.sent
    c.in-Ok.step.done) popped)
    c.conclude.ensures.sent
