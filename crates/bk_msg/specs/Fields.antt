-- What a message has at each place of its spelling, and the message that has it.
use Rattle.std.specs.Prelude.{ℕ, List, [], ◌∷◌, unwrap_or}
use Rattle.bk_base.specs.declared.coh.Coh.{Coh}
use Rattle.bk_base.specs.declared.coh.Coh.TheVariants.{I}
use Rattle.bk_base.specs.States.{code_of, state_of_code}
use Rattle.bk_msg.specs.declared.fields.Fields.{Fields}
use Rattle.bk_msg.specs.declared.fields.Payload.{Payload}
use Rattle.bk_msg.specs.declared.fields.Payload.TheVariants as payloads
use Rattle.bk_msg.specs.declared.kind.Kind.{Kind}
use Rattle.bk_msg.specs.declared.kind.Kind.TheVariants as kinds
use Rattle.bk_msg.specs.declared.row.Row.{Row}
use Rattle.bk_msg.specs.declared.row.Row.TheVariants.{Rd, Wr, UcRd, UcWr, Evict, Inv, StWb, StTr, Blk, StWake, UcBlk, UcDone, Done, Fill, InvAck, CohAck, Wb, NullWb, Read, Write, WriteWord, Block}

-- the words of a payload
abbrev pub words_of : Payload → List ℕ
words_of payloads.Nothing = []
words_of (payloads.Word w) = w ∷ []
words_of (payloads.Block ws) = ws

-- the word, or 0 where there isn't one alone
abbrev pub load_word : Payload → ℕ
load_word (payloads.Word w) = w
load_word _ = 0

-- the words of the block, or eight times 0 where there is none
abbrev pub load_block : Payload → List ℕ
load_block (payloads.Block ws) = ws
load_block _ = 0 ∷ 0 ∷ 0 ∷ 0 ∷ 0 ∷ 0 ∷ 0 ∷ 0 ∷ []

-- only the two ends and an address are named, and nothing follows
abbrev pub bare : Kind → ℕ → ℕ → ℕ → Fields
bare kind from to addr = record {
  kind = kind;
  from = from;
  to = to;
  way = 0;
  state = 0;
  peer = 0;
  peer_way = 0;
  peer_state = 0;
  addr = addr;
  payload = payloads.Nothing;
}

-- where each field of a message is spelled; the other places have 0
abbrev pub fields_of : Row → Fields
fields_of (Rd from to way addr) = record (bare kinds.Rd from to addr) { way = way }
fields_of (Wr from to way addr) = record (bare kinds.Wr from to addr) { way = way }
fields_of (UcRd from to addr) = bare kinds.UcRd from to addr
fields_of (UcWr from to addr word) = record (bare kinds.UcWr from to addr) { payload = payloads.Word word }
fields_of (Evict from to way addr) = record (bare kinds.Evict from to addr) { way = way }
fields_of (Inv from to addr) = bare kinds.Inv from to addr
fields_of (StWb from to state addr) = record (bare kinds.StWb from to addr) { state = code_of state }
fields_of (StTr from to state peer peer_way peer_state addr) =
    record (bare kinds.StTr from to addr) { state = code_of state; peer = peer; peer_way = peer_way; peer_state = code_of peer_state }
fields_of (Blk from to way state addr words) = record (bare kinds.Blk from to addr) {
  way = way;
  state = code_of state;
  payload = payloads.Block words;
}
fields_of (StWake from to way state addr) = record (bare kinds.StWake from to addr) { way = way; state = code_of state }
fields_of (UcBlk from to addr word) = record (bare kinds.UcBlk from to addr) { payload = payloads.Word word }
fields_of (UcDone from to addr) = bare kinds.UcDone from to addr
fields_of (Done from to addr) = bare kinds.Done from to addr
fields_of (Fill from to way state addr words) = record (bare kinds.Fill from to addr) {
  way = way;
  state = code_of state;
  payload = payloads.Block words;
}
fields_of (InvAck from to addr) = bare kinds.InvAck from to addr
fields_of (CohAck from to addr) = bare kinds.CohAck from to addr
fields_of (Wb from to addr words) = record (bare kinds.Wb from to addr) { payload = payloads.Block words }
fields_of (NullWb from to addr) = bare kinds.NullWb from to addr
fields_of (Read from to addr) = bare kinds.Read from to addr
fields_of (Write from to addr words) = record (bare kinds.Write from to addr) { payload = payloads.Block words }
fields_of (WriteWord from to addr word) = record (bare kinds.WriteWord from to addr) { payload = payloads.Word word }
fields_of (Block from to addr words) = record (bare kinds.Block from to addr) { payload = payloads.Block words }

-- the state with a code, or I for a code off the table
abbrev pub state : ℕ → Coh
state code = unwrap_or (state_of_code code) I

abbrev pub row_of_kind : Kind → Fields → Row
row_of_kind kinds.Rd f = Rd f.from f.to f.way f.addr
row_of_kind kinds.Wr f = Wr f.from f.to f.way f.addr
row_of_kind kinds.UcRd f = UcRd f.from f.to f.addr
row_of_kind kinds.UcWr f = UcWr f.from f.to f.addr (load_word f.payload)
row_of_kind kinds.Evict f = Evict f.from f.to f.way f.addr
row_of_kind kinds.Inv f = Inv f.from f.to f.addr
row_of_kind kinds.StWb f = StWb f.from f.to (state f.state) f.addr
row_of_kind kinds.StTr f = StTr f.from f.to (state f.state) f.peer f.peer_way (state f.peer_state) f.addr
row_of_kind kinds.Blk f = Blk f.from f.to f.way (state f.state) f.addr (load_block f.payload)
row_of_kind kinds.StWake f = StWake f.from f.to f.way (state f.state) f.addr
row_of_kind kinds.UcBlk f = UcBlk f.from f.to f.addr (load_word f.payload)
row_of_kind kinds.UcDone f = UcDone f.from f.to f.addr
row_of_kind kinds.Done f = Done f.from f.to f.addr
row_of_kind kinds.Fill f = Fill f.from f.to f.way (state f.state) f.addr (load_block f.payload)
row_of_kind kinds.InvAck f = InvAck f.from f.to f.addr
row_of_kind kinds.CohAck f = CohAck f.from f.to f.addr
row_of_kind kinds.Wb f = Wb f.from f.to f.addr (load_block f.payload)
row_of_kind kinds.NullWb f = NullWb f.from f.to f.addr
row_of_kind kinds.Read f = Read f.from f.to f.addr
row_of_kind kinds.Write f = Write f.from f.to f.addr (load_block f.payload)
row_of_kind kinds.WriteWord f = WriteWord f.from f.to f.addr (load_word f.payload)
row_of_kind kinds.Block f = Block f.from f.to f.addr (load_block f.payload)

-- the message that has these fields, where each is as the table says
abbrev pub row_of : Fields → Row
row_of f = row_of_kind f.kind f
