-- The bytes of a message, one spelling each, and which messages have one.
use Rattle.std.specs.Prelude.{◌≡◌, ℕ, ◌%◌, ◌^◌, ◌<◌, ◌==◌, ◌&&◌, Bool, IsTrue, List, [], ◌∷◌, ◌++◌, length}
use Rattle.std.specs.List.{flat_map, AllByRecursion}
use Rattle.std.specs.Int.{w64, to_le_bytes}
use Rattle.bk_msg.specs.declared.fields.Fields.{Fields}
use Rattle.bk_msg.specs.declared.fields.Payload.{Payload}
use Rattle.bk_msg.specs.declared.fields.Payload.TheVariants as payloads
use Rattle.bk_msg.specs.declared.row.Row.{Row}
use Rattle.bk_msg.specs.declared.table.Load.{Load}
use Rattle.bk_msg.specs.declared.table.Load.TheVariants as loads
use Rattle.bk_msg.specs.declared.table.Layout.{Layout}
use Rattle.bk_msg.specs.Kinds.{kind_code}
use Rattle.bk_msg.specs.Table.{admits, unit_bytes, layout_of}
use Rattle.bk_msg.specs.Fields.{words_of, fields_of}

-- a number of 64 bits, little-endian
abbrev pub word : ℕ → List ℕ
word = to_le_bytes w64

-- bytes 0 to 7
abbrev pub header : Fields → List ℕ
header f = kind_code f.kind ∷ f.from ∷ f.to ∷ f.way ∷ f.state ∷ f.peer ∷ f.peer_way ∷ f.peer_state ∷ []

-- the header, the address, and the words of the payload
abbrev pub text : Fields → List ℕ
text f = header f ++ word f.addr ++ flat_map word (words_of f.payload)

-- the one spelling of a message
abbrev pub spelling : Row → List ℕ
spelling m = text (fields_of m)

-- a number of 64 bits
abbrev pub IsWord : ℕ → Type 0
IsWord w = w < 2 ^ 64

-- the words are as many as the line says, each a number of 64 bits
abbrev pub IsPayload : Load → Payload → Type 0
IsPayload loads.Nothing payloads.Nothing = Unit {0}
IsPayload loads.Word (payloads.Word w) = IsWord w
IsPayload loads.Block (payloads.Block ws) = (length ws ≡ 8) × AllByRecursion IsWord ws
IsPayload _ _ = ⊥

-- each field is in the range that the line of its kind gives it
pub record FitsLayout (l : Layout) (f : Fields) : Type 0 where
  pub from : IsTrue (admits l.from f.from)
  pub to : IsTrue (admits l.to f.to)
  pub way : IsTrue (admits l.way f.way)
  pub state : IsTrue (admits l.state f.state)
  pub peer : IsTrue (admits l.peer f.peer)
  pub peer_way : IsTrue (admits l.peer_way f.peer_way)
  pub peer_state : IsTrue (admits l.peer_state f.peer_state)
  pub below : f.addr < 2 ^ 40
  pub aligned : f.addr % unit_bytes l.address ≡ 0
  pub payload : IsPayload l.load f.payload

-- each field of a message is in the range of its kind
abbrev pub IsMessage : Row → Type 0
IsMessage m = FitsLayout (layout_of (fields_of m).kind) (fields_of m)

-- THE RELATION: a front of the bytes spells the message
pub record Begins (m : Row) (bytes : List ℕ) : Type 0 where
  pub message : IsMessage m
  pub rest : List ℕ
  pub parts : bytes ≡ spelling m ++ rest

-- whether it is so for the bytes 1 to 7, and for the address too
abbrev pub header_fits : Layout → Fields → Bool
header_fits l f = admits l.from f.from && admits l.to f.to && admits l.way f.way && admits l.state f.state && admits l.peer f.peer
    && admits l.peer_way f.peer_way && admits l.peer_state f.peer_state

abbrev pub front_fits : Layout → Fields → Bool
front_fits l f = header_fits l f && f.addr % unit_bytes l.address == 0
