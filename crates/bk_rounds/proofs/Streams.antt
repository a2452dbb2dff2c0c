-- A walk of the system's agents on longer streams.
use Rattle.std.proofs.Common.{◌≡◌, ℕ, List, ◌++◌, sym, ap, ◌∙◌, append_assoc}
use Rattle.bk_base.specs.Places.{Shape}
use Rattle.bk_isa.specs.declared.form.Form.{Form}
use Rattle.bk_msg.specs.declared.row.Row.{Row}
use Rattle.bk_system.specs.declared.channel.Channel.{Channel}
use Rattle.bk_system.specs.Routes.{is_same, ends_at}
use Rattle.bk_agents.specs.Parts.{Part}
use Rattle.bk_agents.proofs.SameChannel.{same-channel}
use Rattle.bk_threads.specs.Agents.{Packet, Channels}
use Rattle.bk_threads.specs.Walks.{WalksAlone, streams_after}
use Rattle.bk_threads.specs.System.{SystemStep, system_rules}
use Rattle.bk_threads.proofs.SystemRunning.{system_local}
use Rattle.bk_threads.proofs.Taking.{streams-same}
use Rattle.bk_threads.proofs.Walking.{walks-same, walks_go_on}

-- what stood there, and then what came, with more behind it
pub stream-more : (there came later more : List (Packet Row)) → later ≡ came ++ more → there ++ later ≡ (there ++ came) ++ more
stream-more there came later more e =
    ap (λ (packets : List (Packet Row)). there ++ packets) e ∙ sym (append_assoc there came more)

module _ (k : Shape) (program : List Form) (n : ℕ) (part : Part) (streams longer more : Channels Channel Row) (steps : List SystemStep)
    (same : (channel : Channel) → longer channel ≡ streams channel ++ more channel)
    (walk : WalksAlone is_same (system_rules k program) (ends_at k) n part streams steps) where
  -- the walk is the same on them,
  pub walk-longer : WalksAlone is_same (system_rules k program) (ends_at k) n part longer steps
  walk-longer =
      walks-same is_same (system_rules k program) (ends_at k) n part (λ channel. streams channel ++ more channel) longer steps
      (system_local k program).1 (λ channel own. same channel)
      (walks_go_on is_same (system_rules k program) (ends_at k) n part streams more steps same-channel (system_local k program).1 walk).0

  -- and leaves the rest behind what it left
  pub left-longer : (channel : Channel)
      → streams_after is_same longer steps channel ≡ streams_after is_same streams steps channel ++ more channel
  left-longer channel =
      streams-same is_same (λ other. streams other ++ more other) longer steps channel (same channel)
      ∙ (walks_go_on is_same (system_rules k program) (ends_at k) n part streams more steps same-channel
      (system_local k program).1 walk).1 channel
