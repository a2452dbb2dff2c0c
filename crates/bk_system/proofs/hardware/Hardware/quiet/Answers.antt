use Rattle.std.proofs.Common.{ℕ, ap, refl, ◌∙◌}
use Rattle.std.specs.Prelude.{slice_get}
use Rattle.bk_system.specs.Channels.{queue, channel_count}
use Rattle.bk_system.specs.Events.{is_wait}
use Rattle.bk_system.specs.Numbering.{fills_of}
use Rattle.bk_base.specs.Counting.{all_below, is_nil}
use Rattle.bk_system.specs.Systems.{state_of}
use Rattle.bk_system.proofs.Empty.{quiet-of}
use Rattle.bk_system.proofs.hardware.Hardware.quiet.Goals as goal

pub returns : goal.returns
returns c =
    let y = c.args.self.now in
    let requests = c.is_empty.ensures ∙ ap (λ (n : ℕ). all_below n (λ k. is_nil (queue y.requests k))) y.requests_each in
    let commands = c.is_empty-2.ensures ∙ ap (λ (n : ℕ). all_below n (λ k. is_nil (queue y.commands k))) y.commands_each in
    let responses = c.is_empty-3.ensures ∙ ap (λ (n : ℕ). all_below n (λ k. is_nil (queue y.responses k))) y.responses_each in
    let fills = c.are_empty.ensures
    ∙ ap (λ (n : ℕ). all_below n (λ to. all_below n (λ from. is_nil (fills_of (queue y.fills) to from))))
    c.cache_count.ensures.value in
    let waits = c.is_wait.ensures ∙ ap (λ (p : ℕ). is_wait (slice_get c.args.program.now p)) c.place.ensures in
    quiet-of y.config c.args.program.now (state_of y) c.is_empty.result c.is_empty-2.result c.is_empty-3.result c.are_empty.result
    c.is_empty-4.result c.is_empty-5.result c.is_wait.result
    (channel_count y.memout) (channel_count y.memin) (λ k. is_nil (queue y.memout k)) (λ k. is_nil (queue y.memin k))
    requests commands responses fills
    c.is_empty-4.ensures y.memout_one refl c.is_empty-5.ensures y.memin_one refl waits
