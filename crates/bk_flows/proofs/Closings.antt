-- `wde` and `wds`: once the grant is sent, the entries are given their states.
use Rattle.std.proofs.Common.{◌≡◌, ◌≢◌, ℕ, zero, suc, ◌<◌, ◌==◌, Bool, true, false, refl, sym, ap, ◌∙◌, arith, inl, Option, Some, None}
use Rattle.std.specs.Prelude.{option_map, unwrap_or, if◌then◌else◌}
use Rattle.std.proofs.lemmas.Bool.{and_parts}
use Rattle.bk_base.specs.Places.{Shape, group_of, tag_at}
use Rattle.bk_base.specs.declared.coh.Coh.{Coh}
use Rattle.bk_isa.specs.declared.form.Form.TheVariants as forms
use Rattle.bk_know.specs.declared.sets.Sets.{Sets}
use Rattle.bk_know.specs.Sets.{only}
use Rattle.bk_flow.specs.Flow.{left}
use Rattle.bk_know.specs.declared.values.TheConstants.{STAGE_HELD, STAGE_CLOSING}
use Rattle.bk_order.proofs.Leading.{leads-closing}
use Rattle.bk_order.proofs.Meets.{Met}
use Rattle.bk_order.proofs.Subsets.{only-some}
use Rattle.bk_msg.specs.declared.row.Row.{Row}
use Rattle.bk_dir.specs.declared.entry.Entry.{Entry as DirectoryEntry}
use Rattle.bk_dir.specs.Contents.{Contents, with_entry, with_state}
use Rattle.bk_engine.specs.declared.parts.Choice.{Choice}
use Rattle.bk_engine.specs.Changes.{with_state_at}
use Rattle.bk_engine.specs.Reads.{summary_for, own_number}
use Rattle.bk_system.specs.State.{State}
use Rattle.bk_machine.specs.Actions.{PaysRequester, PaysOwner}
use Rattle.bk_machine.specs.Entries.{Entry, Holds}
use Rattle.bk_machine.specs.Tables.{put2}
use Rattle.bk_machine.specs.Transactions.{Debt, Transaction}
use Rattle.bk_machine.specs.World.{World}
use Rattle.bk_machine.proofs.Summary.{found}
use Rattle.bk_bridge.specs.Acting.{debt_at}
use Rattle.bk_bridge.specs.Effects.{own_place}
use Rattle.bk_bridge.specs.Readings.{seen}
use Rattle.bk_bridge.specs.Worlds.{listed_of}
use Rattle.bk_exact.specs.Told.{Told}
use Rattle.bk_exact.specs.Ties.{Tied, told_world}
use Rattle.bk_exact.proofs.Readings.{sum, reads, own-there, own-holds, at-owner, owner-place, owner-listed}
use Rattle.bk_exact.proofs.Serving.{Staged, mask, recorded, owing}
use Rattle.bk_exact.proofs.Values as values
use Rattle.bk_flows.proofs.Entries.{own-alike, own-put, put-cache}
use Rattle.bk_flows.proofs.Listed.{state-only, own-seen, entry-in}
use Rattle.bk_flows.proofs.Sent.{served-to, goal, after_served}

module _ (k : Shape) (later : State) (told : Told) (tied : Tied k later told) (y : Staged k later told true) (choice : Choice)
    (message : Option Row) where
  open y use {serving as v, serving.{held as h, transaction as x}}

  abbrev s : ℕ
  s = group_of k h.addr

  abbrev t : ℕ
  t = tag_at k h.addr

  abbrev r : ℕ
  r = h.source

  abbrev list : Contents
  list = later.engine.directory

  abbrev d : ℕ → ℕ → Entry
  d = seen list s

  abbrev m : Sets
  m = mask k later told v

  abbrev w : World
  w = told_world k later told

  -- the stage of a granted transaction
  closing : (b : Bool) → b ≡ true → ((if b then STAGE_CLOSING else STAGE_HELD) == STAGE_CLOSING) ≡ true
  closing true debt = refl
  closing false debt = absurd (cc)

  -- the requester has the block at no other way than that of its debt
  debt-way : (debt : Debt) → x.requester_debt ≡ Some debt → (u : ℕ) → Holds (d r u) t → u ≡ h.way
  debt-way debt i u g =
      (owing k later told tied v).own debt i u (own-holds k later told v u g) ∙ ((recorded k later told tied v).requester debt i).at_way
      ∙ v.serves.serves.way

  -- its entry is given the state
  pub leads-wde : (st : Coh) → Met (forms.Wde st) m → goal k later told tied v choice message (forms.Wde st)
  leads-wde st o =
      let f = values.dreq-is x.requester_debt st (and_parts _ _ o.o21).1 in
      let g : DirectoryEntry = record { tag = t; state = st } in
      let after : Contents = with_entry list r s h.way g in
      let next : Transaction = record x { requester_debt = None } in
      let own : (summary_for k after h).own ≡ st
      = own-seen k later told v after (put2 d r h.way (listed_of g)) (entry-in k later told v r h.way g)
      ∙ own-put k.caches k.ways d r t h.way (listed_of g) (tied.range.engine.held h v.is_held).way refl
      (λ u z debt. z (debt-way f.0 f.1 u debt)) in
      served-to k later told tied v choice message (forms.Wde st) (PaysRequester (record {
        cache =
            r;
        way = h.way;
        entry = record { tag = t; state = st };
      }) x) after next
      refl refl refl refl refl refl refl
      (λ filled. leads-closing (left (forms.Wde st) m) (after_served k later told tied v choice message (forms.Wde st) after next)
      (closing x.granted y.is_granted)
      (λ z. record (after_served k later told tied v choice message (forms.Wde st) after next)
      { own = (ap (λ (u : Coh). only (own_number u)) own ∙ state-only st) z })
      filled (record { owner = only-some _; others = only-some _; victim = only-some _ }))

  -- the state is written where own is read
  leads-own : (st : Coh) → Met (forms.Wds 0 st) m → goal k later told tied v choice message (forms.Wds 0 st)
  leads-own st o =
      let q = and_parts _ _ (and_parts _ _ o.o21).1 in
      let f = values.dreq-is x.requester_debt st q.0 in
      let at = own-there k later told v (values.own-valid _ q.1) in
      let entry = found k.ways (d r) t at.0 at.1 in
      let way : (sum k later told v).own_way ≡ at.0 = (reads k later told v).own_way ∙ ap (λ (u : Option ℕ). unwrap_or u 0) at.1 in
      let g : DirectoryEntry = record { tag = (list.entries r s at.0).tag; state = st } in
      let after : Contents = with_state list r s (sum k later told v).own_way st in
      let next : Transaction = record x { requester_debt = None } in
      let own : (summary_for k after h).own ≡ st
      = ap (λ (u : ℕ). (summary_for k (with_state list r s u st) h).own) way
      ∙ own-seen k later told v (with_entry list r s at.0 g) (put2 d r at.0 (listed_of g))
      (entry-in k later told v r at.0 g)
      ∙ own-put k.caches k.ways d r t at.0 (listed_of g) entry.0 entry.1.is_tag
      (λ u z debt. z (debt-way f.0 f.1 u debt ∙ sym (debt-way f.0 f.1 at.0 entry.1))) in
      served-to k later told tied v choice message (forms.Wds 0 st)
      (PaysRequester (debt_at k h (own_place k h w) st w) x) after next refl refl refl refl refl refl refl
      (λ filled. leads-closing (left (forms.Wds 0 st) m) (after_served k later told tied v choice message (forms.Wds 0 st) after next)
      (closing x.granted y.is_granted)
      (λ z. record (after_served k later told tied v choice message (forms.Wds 0 st) after next)
      { own = (ap (λ (u : Coh). only (own_number u)) own ∙ state-only st) z })
      filled (record { owner = only-some _; others = only-some _; victim = only-some _ }))

  -- the owner's entry isn't read as own
  leads-owner : (st : Coh) → Met (forms.Wds 1 st) m → goal k later told tied v choice message (forms.Wds 1 st)
  leads-owner st o =
      let rec = recorded k later told tied v in
      let f = values.down-is x.owner_debt st (λ b z. (rec.owner b z).weaker) (and_parts _ _ o.o21).1 in
      let c = f.0.cache in
      let u = f.0.way in
      let at = at-owner k later told v c u ((owing k later told tied v).owner f.0 f.1) in
      let g : DirectoryEntry = record { tag = (list.entries c s u).tag; state = st } in
      let after : Contents = with_entry list c s u g in
      let next : Transaction = record x { owner_debt = None } in
      let other : r ≢ c = λ i. (rec.owner f.0 f.1).other (sym i ∙ sym v.serves.serves.cache) in
      let own : (summary_for k after h).own ≡ (sum k later told v).own
      = own-seen k later told v after (put2 d c u (listed_of g)) (entry-in k later told v c u g)
      ∙ own-alike k.caches k.ways d (put2 d c u (listed_of g)) r t (λ i. inl (put-cache d c u (listed_of g) r i other))
      ∙ sym (reads k later told v).own in
      served-to k later told tied v choice message (forms.Wds 1 st) (PaysOwner (debt_at k h (c, u) st w) x) after next refl
      (ap (option_map (λ (b : ℕ × ℕ). PaysOwner (debt_at k h b st w) x)) (owner-place k later told v c u at.0 at.1)) refl refl refl
      (ap (λ (b : Option (ℕ × ℕ)). with_state_at list s b st) (owner-listed k later told v c u at.0 at.1)) refl
      (λ filled. leads-closing (left (forms.Wds 1 st) m) (after_served k later told tied v choice message (forms.Wds 1 st) after next)
      (closing x.granted y.is_granted)
      (λ z. record (after_served k later told tied v choice message (forms.Wds 1 st) after next) { own = only (own_number (own z)) })
      filled (record { owner = only-some _; others = only-some _; victim = only-some _ }))

  pub leads-wds : (who : ℕ) (st : Coh) → who < 2 → Met (forms.Wds who st) m
      → goal k later told tied v choice message (forms.Wds who st)
  leads-wds zero st l o = leads-own st o
  leads-wds (suc zero) st l o = leads-owner st o
  leads-wds (suc (suc a)) st l o = absurd (omega (arith, l))
