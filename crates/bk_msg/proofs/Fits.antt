-- The test of a message's fields is the definition.
use Rattle.std.proofs.Common.{◌≡◌, Bool, true, false, refl, eqb}
use Rattle.std.specs.Prelude.{◌&&◌, ◌%◌}
use Rattle.std.proofs.lemmas.Bool.{eqb-true, eq-eqb}
use Rattle.bk_base.specs.Places.{IsAddr}
use Rattle.bk_msg.specs.declared.fields.Fields.{Fields}
use Rattle.bk_msg.specs.declared.table.Layout.{Layout}
use Rattle.bk_msg.specs.Table.{admits, unit_bytes}
use Rattle.bk_msg.specs.Spelling.{IsPayload, FitsLayout, header_fits, front_fits}

record All7 (a b test d e f also : Bool) : Type 0 where
  a-is : a ≡ true
  b-is : b ≡ true
  c-is : test ≡ true
  d-is : d ≡ true
  e-is : e ≡ true
  f-is : f ≡ true
  g-is : also ≡ true

all7 : (a b test d e f also : Bool) → (a && b && test && d && e && f && also) ≡ true → All7 a b test d e f also
all7 true true true true true true true h = record {
  a-is = refl;
  b-is = refl;
  c-is = refl;
  d-is = refl;
  e-is = refl;
  f-is = refl;
  g-is = refl;
}
all7 true true true true true true false h = absurd cc
all7 true true true true true false also h = absurd cc
all7 true true true true false f also h = absurd cc
all7 true true true false e f also h = absurd cc
all7 true true false d e f also h = absurd cc
all7 true false test d e f also h = absurd cc
all7 false b test d e f also h = absurd cc

both : (a b : Bool) → (a && b) ≡ true → (a ≡ true) × (b ≡ true)
both true true h = (refl, refl)
both true false h = absurd cc
both false b h = absurd cc

pub FitsLayout-from_test : (l : Layout) (f : Fields) → front_fits l f ≡ true → IsAddr f.addr → IsPayload l.load f.payload
    → FitsLayout l f
FitsLayout-from_test l f e address payload =
    let h = both (header_fits l f) (eqb (f.addr % unit_bytes l.address) 0) e in
    let p = all7 (admits l.from f.from) (admits l.to f.to) (admits l.way f.way) (admits l.state f.state) (admits l.peer f.peer)
    (admits l.peer_way f.peer_way) (admits l.peer_state f.peer_state) h.0 in
    record {
      from = p.a-is;
      to = p.b-is;
      way = p.c-is;
      state = p.d-is;
      peer = p.e-is;
      peer_way = p.f-is;
      peer_state = p.g-is;
      below = address.below;
      aligned = eqb-true _ _ h.1;
      payload = payload;
    }

pub test-from_FitsLayout : (l : Layout) (f : Fields) → FitsLayout l f → front_fits l f ≡ true
test-from_FitsLayout l f h = rw (h.from, h.to, h.way, h.state, h.peer, h.peer_way, h.peer_state, eq-eqb _ _ h.aligned) refl
