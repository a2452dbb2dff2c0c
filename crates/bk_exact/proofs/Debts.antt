-- `wde` and `wds`, which pay debts, and `fin` are permitted.
use Rattle.std.proofs.Common.{◌≡◌, ℕ, zero, suc, ◌<◌, ◌==◌, true, refl, sym, ap, ◌∙◌, arith, length, Option, Some, None}
use Rattle.std.specs.Prelude.{option_map, unwrap_or}
use Rattle.std.proofs.lemmas.Bool.{and_parts}
use Rattle.bk_base.specs.Places.{Shape, group_of, tag_at}
use Rattle.bk_base.specs.declared.coh.Coh.{Coh}
use Rattle.bk_isa.specs.declared.form.Form.TheVariants as forms
use Rattle.bk_know.specs.declared.sets.Sets.{Sets}
use Rattle.bk_flow.specs.Flow.{lacks, only_debt, only_down}
use Rattle.bk_know.specs.declared.values.TheConstants.{OWN_I}
use Rattle.bk_order.proofs.Meets.{Met}
use Rattle.bk_engine.specs.declared.parts.Core.{Core}
use Rattle.bk_system.specs.State.{State}
use Rattle.bk_machine.specs.Actions.{PaysRequester, PaysOwner, Finishes}
use Rattle.bk_machine.specs.Transactions.{Debt}
use Rattle.bk_machine.specs.World.{World}
use Rattle.bk_machine.proofs.Summary.{found}
use Rattle.bk_bridge.specs.Acting.{debt_at}
use Rattle.bk_bridge.proofs.Acting.{serves-tag}
use Rattle.bk_exact.specs.Told.{Told}
use Rattle.bk_exact.specs.Ties.{Tied, told_world}
use Rattle.bk_exact.proofs.Blocks.{idle-none}
use Rattle.bk_exact.proofs.Moves.{Moves}
use Rattle.bk_exact.proofs.Permits.{acts, acts-still, serves-granted}
use Rattle.bk_exact.proofs.Readings.{own-there, own-holds, at-owner, owner-place}
use Rattle.bk_exact.proofs.Serving.{Staged, mask, recorded, owing, granted-is}
use Rattle.bk_exact.proofs.Values as values

module _ (k : Shape) (s : State) (told : Told) (tied : Tied k s told) (v : Staged k s told true) where
  abbrev e : Core
  e = s.engine.core

  open v use {serving as served, serving.{held as h, transaction as x, serves as sv}}

  abbrev t : ℕ
  t = tag_at k h.addr

  abbrev w : World
  w = told_world k s told

  abbrev m : Sets
  m = mask k s told served

  -- the requester's debt is of the request's block, at the cache that asked
  tag-is : (f : Debt) (i : x.requester_debt ≡ Some f) → f.entry.tag ≡ t
  tag-is f i = ((recorded k s told tied served).requester f i).holds.is_tag ∙ serves-tag k h x sv.serves

  at-cache : (f : Debt) (i : x.requester_debt ≡ Some f) → f.cache ≡ h.source
  at-cache f i = ((recorded k s told tied served).requester f i).at_cache ∙ sv.serves.cache

  -- `wde`: the debt is paid at the request's way
  pub permits-wde : (y : Coh) → Met (forms.Wde y) m → Moves k s told (forms.Wde y)
  permits-wde y o =
      let f = values.dreq-is x.requester_debt y (and_parts _ _ o.o21).1 in
      let way : f.0.way ≡ h.way = ((recorded k s told tied served).requester f.0 f.1).at_way ∙ sv.serves.way in
      let same : f.0 ≡ record { cache = h.source; way = h.way; entry = record { tag = t; state = y } }
      = λ i. record { cache = at-cache f.0 f.1 i; way = way i; entry = record { tag = tag-is f.0 f.1 i; state = f.2 i } } in
      acts-still k s told tied served (forms.Wde y)
      (PaysRequester (record { cache = h.source; way = h.way; entry = record { tag = t; state = y } }) x)
      (record x { requester_debt = None }) refl refl (served.is_told, f.1 ∙ ap Some same) refl (λ c r. refl) refl
      (serves-granted k s told tied served x.granted None x.owner_debt (sv.closed v.is_granted))

  -- `wds own`: it is paid where own is read, which is the debt's way
  pay-own : (y : Coh) → (m.dreq == only_debt y) ≡ true → lacks m.own OWN_I ≡ true → Moves k s told (forms.Wds 0 y)
  pay-own y i l =
      let f = values.dreq-is x.requester_debt y i in
      let at = own-there k s told served (values.own-valid _ l) in
      let entry = (found k.ways (w.directory (group_of k h.addr) h.source) t at.0 at.1).1 in
      let way : at.0 ≡ f.0.way = (owing k s told tied served).own f.0 f.1 at.0 (own-holds k s told served at.0 entry) in
      let same : f.0 ≡ debt_at k h (h.source, at.0) y w
      = λ z. record {
        cache = at-cache f.0 f.1 z;
        way = sym way z;
        entry = record { tag = (tag-is f.0 f.1 ∙ sym entry.is_tag) z; state = f.2 z };
      } in
      acts-still k s told tied served (forms.Wds 0 y) (PaysRequester (debt_at k h (h.source, at.0) y w) x)
      (record x { requester_debt = None }) refl
      (ap (λ (o : Option ℕ). Some (PaysRequester (debt_at k h (h.source, unwrap_or o 0) y w) x)) at.1) (
        served.is_told,
        f.1 ∙ ap Some same,
      ) refl
      (λ c r. refl) refl
      (serves-granted k s told tied served x.granted None x.owner_debt (sv.closed v.is_granted))

  -- `wds owner`: the owner's debt is paid where the owner is read
  pay-owner : (y : Coh) → (m.down == only_down y) ≡ true → Moves k s told (forms.Wds 1 y)
  pay-owner y q =
      let r = recorded k s told tied served in
      let f = values.down-is x.owner_debt y (λ b z. (r.owner b z).weaker) q in
      let owes = r.owner f.0 f.1 in
      let at = at-owner k s told served f.0.cache f.0.way ((owing k s told tied served).owner f.0 f.1) in
      let same : f.0 ≡ debt_at k h (f.0.cache, f.0.way) y w
      = λ z. record { cache = f.0.cache; way = f.0.way; entry = record { tag = (owes.tag ∙ sym owes.holds.is_tag) z; state = f.2 z } } in
      acts-still k s told tied served (forms.Wds 1 y) (PaysOwner (debt_at k h (f.0.cache, f.0.way) y w) x)
      (record x { owner_debt = None }) refl
      (ap (option_map (λ (u : ℕ × ℕ). PaysOwner (debt_at k h u y w) x)) (owner-place k s told served f.0.cache f.0.way at.0 at.1))
      (served.is_told, f.1 ∙ ap Some same) refl (λ c r. refl) refl
      (serves-granted k s told tied served x.granted x.requester_debt None (sv.closed v.is_granted))

  pub permits-wds : (who : ℕ) (y : Coh) → who < 2 → Met (forms.Wds who y) m → Moves k s told (forms.Wds who y)
  permits-wds zero y l o = let q = and_parts _ _ (and_parts _ _ o.o21).1 in pay-own y q.0 q.1
  permits-wds (suc zero) y l o = pay-owner y (and_parts _ _ o.o21).1
  permits-wds (suc (suc a)) y l o = absurd (omega (arith, l))

  -- `fin`: both debts are paid, and the engine holds nothing any more
  pub permits-fin : Met forms.Fin m → Moves k s told forms.Fin
  permits-fin o =
      let q = and_parts _ _ o.o22 in
      let p = and_parts _ _ q.0 in
      let g = granted-is k s told tied served v.is_granted in
      acts k s told tied served forms.Fin (Finishes x) refl refl
      (record { is = served.is_told; granted = v.is_granted }, values.dreq-paid x.requester_debt p.1, values.down-paid x.owner_debt q.1)
      None None refl (λ c r. refl) refl
      (λ c r. record {
        unread = refl;
        acks = sv.acks ∙ ap length g.no_acks;
        kept = idle-none k (group_of k h.addr) e.dirty x.write_back g.no_flush sv.kept;
        got = refl;
      })
