use Rattle.std.proofs.Common.{◌≡◌, ◌++◌, take}
use Rattle.std.specs.Prelude.{string_bytes}
use Rattle.std.specs.List.{flat_map}
use Rattle.bk_run.specs.Log.{message_text}
use Rattle.bk_run.proofs.log_text.push_messages.Given as goal

-- the lines so far follow what was there
abbrev pub invariant-loop-message : goal.invariant-loop-message
invariant-loop-message l = string_bytes l.out ≡ string_bytes l.initial.out ++ flat_map message_text (take l.message-index l.messages)
