-- Lines of a log, computed.
use Rattle.std.proofs.Common.{◌≡◌, refl}
use Rattle.std.specs.Prelude.{codes}
use Rattle.std.specs.Fmt.{digits}
use Rattle.hex.proofs.OnLiterals.{hex_on_literals}
use Rattle.bk_base.specs.declared.op.Op.TheVariants.{UcStore, UcLoad}
use Rattle.bk_msg.specs.declared.row.Row.TheVariants.{UcWr, UcRd}
use Rattle.bk_system.specs.declared.event.Event.TheVariants.{Issue, Fill, Engine}
use Rattle.bk_run.specs.Log.{event_text, message_text}

record Lines : Type 0 where
  issue : event_text (Issue 0 0 (UcStore 64 7)) ≡ codes "I 0 US 0x40 7 0\n"
  load : event_text (Issue 1 0 (UcLoad 64)) ≡ codes "I 1 UL 0x40 0\n"
  fill : event_text (Fill 2 5) ≡ codes "F 2 5\n"
  engine : event_text (Engine (record { class = 3; source = 1 })) ≡ codes "E 3 1\n"

lines : Lines
unfolding digits
lines = record { issue = refl; load = refl; fill = refl; engine = refl }

-- a store of 7 past cache 0, and a load past cache 1, of the word at 0x40
record Messages : Type 0 where
  store : message_text (UcWr 0 240 64 7) ≡ codes "m 0400f0000000000040000000000000000700000000000000\n"
  load : message_text (UcRd 1 240 64) ≡ codes "m 0301f000000000004000000000000000\n"

messages : Messages
unfolding hex_on_literals
messages = record { store = refl; load = refl }
