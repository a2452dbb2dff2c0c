-- The fields of a message give the message, and fields in range are those of a message.
use Rattle.std.proofs.Common.{◌≡◌, ℕ, true, Option, Some, None, refl, sym, subst, ◌∙◌}
use Rattle.std.proofs.lemmas.Bool.{eqb-true}
use Rattle.bk_base.specs.declared.coh.Coh.{Coh}
use Rattle.bk_base.specs.States.{code_of, state_of_code}
use Rattle.bk_msg.specs.declared.fields.Fields.{Fields}
use Rattle.bk_msg.specs.declared.fields.Payload.{Payload}
use Rattle.bk_msg.specs.declared.fields.Payload.TheVariants as payloads
use Rattle.bk_msg.specs.declared.kind.Kind.{Kind}
use Rattle.bk_msg.specs.declared.kind.Kind.TheVariants as kinds
use Rattle.bk_msg.specs.declared.row.Row.{Row}
use Rattle.bk_msg.specs.declared.row.Row.TheVariants.{Rd, Wr, UcRd, UcWr, Evict, Inv, StWb, StTr, Blk, StWake, UcBlk, UcDone, Done, Fill, InvAck, CohAck, Wb, NullWb, Read, Write, WriteWord, Block}
use Rattle.bk_msg.specs.declared.table.States.{States}
use Rattle.bk_msg.specs.declared.table.Load.{Load}
use Rattle.bk_msg.specs.declared.table.Load.TheVariants as loads
use Rattle.bk_msg.specs.declared.table.Rule.{Rule}
use Rattle.bk_msg.specs.declared.table.Rule.TheVariants.{Reserved, Cache, Way, Only, State, Aligned, Any}
use Rattle.bk_msg.specs.declared.table.Layout.{Layout}
use Rattle.bk_msg.specs.Table.{admits, holds_code, layout_of}
use Rattle.bk_msg.specs.Fields.{fields_of, row_of, row_of_kind, state, load_word, load_block}
use Rattle.bk_msg.specs.Spelling.{FitsLayout, IsPayload, IsMessage}
use Rattle.bk_msg.proofs.Numbers.{state_found, state_again}

state-code_of : (y : Coh) → state (code_of y) ≡ y
state-code_of y = rw (state_again y) refl

-- The fields name the message's kind and keep all that the message has, so each of the 22 computes. A state stands in the fields as its
-- code, which gives the state again (`state-code_of`).
pub row_of-fields_of : (m : Row) → row_of (fields_of m) ≡ m
row_of-fields_of (Rd from to way addr) = refl
row_of-fields_of (Wr from to way addr) = refl
row_of-fields_of (UcRd from to addr) = refl
row_of-fields_of (UcWr from to addr word) = refl
row_of-fields_of (Evict from to way addr) = refl
row_of-fields_of (Inv from to addr) = refl
row_of-fields_of (StWb from to state addr) = rw (state-code_of state) refl
row_of-fields_of (StTr from to state peer peer_way peer_state addr) = rw (state-code_of state, state-code_of peer_state) refl
row_of-fields_of (Blk from to way state addr words) = rw (state-code_of state) refl
row_of-fields_of (StWake from to way state addr) = rw (state-code_of state) refl
row_of-fields_of (UcBlk from to addr word) = refl
row_of-fields_of (UcDone from to addr) = refl
row_of-fields_of (Done from to addr) = refl
row_of-fields_of (Fill from to way state addr words) = rw (state-code_of state) refl
row_of-fields_of (InvAck from to addr) = refl
row_of-fields_of (CohAck from to addr) = refl
row_of-fields_of (Wb from to addr words) = refl
row_of-fields_of (NullWb from to addr) = refl
row_of-fields_of (Read from to addr) = refl
row_of-fields_of (Write from to addr words) = refl
row_of-fields_of (WriteWord from to addr word) = refl
row_of-fields_of (Block from to addr words) = refl

-- ---- what of a field goes into the message: nothing of a reserved one, and the state of a code

abbrev kept : Rule → ℕ → ℕ
kept Reserved v = 0
kept (State states) v = code_of (state v)
kept _ v = v

abbrev kept_payload : Load → Payload → Payload
kept_payload loads.Nothing p = payloads.Nothing
kept_payload loads.Word p = payloads.Word (load_word p)
kept_payload loads.Block p = payloads.Block (load_block p)

abbrev kept_fields : Layout → Fields → Fields
kept_fields l f = record {
  kind = f.kind;
  from = f.from;
  to = f.to;
  way = kept l.way f.way;
  state = kept l.state f.state;
  peer = kept l.peer f.peer;
  peer_way = kept l.peer_way f.peer_way;
  peer_state = kept l.peer_state f.peer_state;
  addr = f.addr;
  payload = kept_payload l.load f.payload;
}

-- A message of a kind has no place for a reserved field or for another payload, and keeps a state in place of a code. `kept_fields`
-- drops just that by the kind's layout, so each of the 22 computes.
of_kind : (kind : Kind) (f : Fields) → fields_of (row_of_kind kind f) ≡ kept_fields (layout_of kind) (record f { kind = kind })
of_kind kinds.Rd f = refl
of_kind kinds.Wr f = refl
of_kind kinds.UcRd f = refl
of_kind kinds.UcWr f = refl
of_kind kinds.Evict f = refl
of_kind kinds.Inv f = refl
of_kind kinds.StWb f = refl
of_kind kinds.StTr f = refl
of_kind kinds.Blk f = refl
of_kind kinds.StWake f = refl
of_kind kinds.UcBlk f = refl
of_kind kinds.UcDone f = refl
of_kind kinds.Done f = refl
of_kind kinds.Fill f = refl
of_kind kinds.InvAck f = refl
of_kind kinds.CohAck f = refl
of_kind kinds.Wb f = refl
of_kind kinds.NullWb f = refl
of_kind kinds.Read f = refl
of_kind kinds.Write f = refl
of_kind kinds.WriteWord f = refl
of_kind kinds.Block f = refl

kept_state : (states : States) (o : Option Coh) (v : ℕ) → state_of_code v ≡ o → holds_code states o ≡ true
    → code_of (state v) ≡ v
kept_state states None v e h = absurd cc
kept_state states (Some s) v e h = rw e (sym (state_found v s e))

kept_is : (rule : Rule) (v : ℕ) → admits rule v ≡ true → kept rule v ≡ v
kept_is Reserved v h = sym (eqb-true v 0 h)
kept_is Cache v h = refl
kept_is Way v h = refl
kept_is (Only n) v h = refl
kept_is (State states) v h = kept_state states (state_of_code v) v refl h
kept_is (Aligned unit) v h = refl
kept_is Any v h = refl

kept_payload_is : (load : Load) (p : Payload) → IsPayload load p → kept_payload load p ≡ p
kept_payload_is loads.Nothing payloads.Nothing h = refl
kept_payload_is loads.Nothing (payloads.Word w) h = absurd h
kept_payload_is loads.Nothing (payloads.Block ws) h = absurd h
kept_payload_is loads.Word payloads.Nothing h = absurd h
kept_payload_is loads.Word (payloads.Word w) h = refl
kept_payload_is loads.Word (payloads.Block ws) h = absurd h
kept_payload_is loads.Block payloads.Nothing h = absurd h
kept_payload_is loads.Block (payloads.Word w) h = absurd h
kept_payload_is loads.Block (payloads.Block ws) h = refl

kept_all : (l : Layout) (f : Fields) → FitsLayout l f → kept_fields l f ≡ f
kept_all l f h =
    rw (
      kept_is l.way f.way h.way,
      kept_is l.state f.state h.state,
      kept_is l.peer f.peer h.peer,
      kept_is l.peer_way f.peer_way h.peer_way,
      kept_is l.peer_state f.peer_state h.peer_state,
      kept_payload_is l.load f.payload h.payload,
    ) refl

pub fields_of-row_of : (f : Fields) → FitsLayout (layout_of f.kind) f → fields_of (row_of f) ≡ f
fields_of-row_of f h = of_kind f.kind f ∙ kept_all (layout_of f.kind) f h

-- what is made of fields in range is in range
pub row_in_range : (f : Fields) → FitsLayout (layout_of f.kind) f → IsMessage (row_of f)
row_in_range f h = subst (λ (g : Fields). FitsLayout (layout_of g.kind) g) (sym (fields_of-row_of f h)) h
