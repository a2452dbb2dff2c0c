-- Reading a message from left to right, with the first fault that is met.
use Rattle.std.specs.Prelude.{ℕ, zero, suc, ◌+◌, nat_lt, List, [], ◌∷◌, length, take, drop, slice_index, Option, Some, None, Result, Ok, Err, if◌then◌else◌}
use Rattle.std.specs.Int.{w64, from_le_bytes}
use Rattle.bk_msg.specs.declared.fault.MsgFault.{MsgFault}
use Rattle.bk_msg.specs.declared.fault.MsgFault.TheVariants as faults
use Rattle.bk_msg.specs.declared.fields.Fields.{Fields}
use Rattle.bk_msg.specs.declared.fields.Payload.{Payload}
use Rattle.bk_msg.specs.declared.fields.Payload.TheVariants as payloads
use Rattle.bk_msg.specs.declared.kind.Kind.{Kind}
use Rattle.bk_msg.specs.declared.row.Row.{Row}
use Rattle.bk_msg.specs.declared.table.Load.{Load}
use Rattle.bk_msg.specs.declared.table.Load.TheVariants as loads
use Rattle.bk_msg.specs.declared.table.Rule.{Rule}
use Rattle.bk_msg.specs.Kinds.{kind_of_code}
use Rattle.bk_msg.specs.Table.{admits, fault_at, rules_of, size_of, layout_of}
use Rattle.bk_msg.specs.Fields.{row_of}

-- the first byte that its rule doesn't admit; the bytes, which may be fewer than the rules, begin at a place
abbrev pub first_fault : ℕ → List Rule → List ℕ → Option MsgFault
first_fault place [] bytes = None
first_fault place (rule ∷ rules) [] = None
first_fault place (rule ∷ rules) (b ∷ bytes) = if admits rule b then first_fault (place + 1) rules bytes else Some (fault_at rule place)

-- the number of 64 bits at a place, little-endian
abbrev pub word_at : ℕ → List ℕ → ℕ
word_at place bytes = from_le_bytes w64 (take 8 (drop place bytes))

-- as many numbers, one behind the other
abbrev pub words_at : ℕ → ℕ → List ℕ → List ℕ
words_at place zero bytes = []
words_at place (suc n) bytes = word_at place bytes ∷ words_at (place + 8) n bytes

abbrev pub payload_at : Load → List ℕ → Payload
payload_at loads.Nothing bytes = payloads.Nothing
payload_at loads.Word bytes = payloads.Word (word_at 16 bytes)
payload_at loads.Block bytes = payloads.Block (words_at 16 8 bytes)

-- the fields of a message of a kind
abbrev pub fields_at : Kind → List ℕ → Fields
fields_at kind bytes = record {
  kind = kind;
  from = slice_index bytes 1;
  to = slice_index bytes 2;
  way = slice_index bytes 3;
  state = slice_index bytes 4;
  peer = slice_index bytes 5;
  peer_way = slice_index bytes 6;
  peer_state = slice_index bytes 7;
  addr = word_at 8 bytes;
  payload = payload_at (layout_of kind).load bytes;
}

-- the message of a kind whose bytes have a first fault or none, and its length
abbrev pub message_at : Kind → List ℕ → Option MsgFault → Result (Row × ℕ) MsgFault
message_at kind bytes (Some fault) = Err fault
message_at kind bytes None = if nat_lt (length bytes) (size_of (layout_of kind)) then Err (faults.Short (size_of (layout_of kind)))
    else Ok (row_of (fields_at kind bytes), size_of (layout_of kind))

abbrev pub after_kind : Option Kind → ℕ → List ℕ → Result (Row × ℕ) MsgFault
after_kind None first rest = Err (faults.Kind first)
after_kind (Some kind) first rest = message_at kind (first ∷ rest) (first_fault 1 (rules_of (layout_of kind)) rest)

-- the message that begins the bytes and its length, or the first fault
unfoldable pub decode : List ℕ → Result (Row × ℕ) MsgFault
decode [] = Err (faults.Short 1)
decode (first ∷ rest) = after_kind (kind_of_code first) first rest
