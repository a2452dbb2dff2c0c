-- `stwb`: what the flush of the own copy, of the owner and of the victim leaves.
use Rattle.std.proofs.Common.{◌≡◌, ◌≢◌, ℕ, zero, suc, ◌<◌, ◌==◌, inl, inr, Bool, true, false, not, refl, sym, ap, ◌∙◌, subst, List, [], ◌∷◌, Option}
use Rattle.std.specs.Prelude.{option_map, unwrap_or, if◌then◌else◌}
use Rattle.std.proofs.lemmas.Bool.{and_parts}
use Rattle.bk_base.specs.Counting.{is_nil}
use Rattle.bk_base.specs.Places.{Shape, group_of, tag_at}
use Rattle.bk_base.specs.States.{is_owner_like}
use Rattle.bk_base.specs.declared.coh.Coh.{Coh}
use Rattle.bk_base.specs.declared.coh.Coh.TheVariants as states
use Rattle.bk_isa.specs.declared.form.Form.TheVariants as forms
use Rattle.bk_know.specs.declared.sets.Sets.{Sets}
use Rattle.bk_know.specs.Sets.{only}
use Rattle.bk_flow.specs.Flow.{lacks, is_shared}
use Rattle.bk_know.specs.declared.values.TheConstants.{OWNER_NONE, OTHERS_YES, VICTIM_LIGHT, VICTIM_HEAVY, WB_ASKED}
use Rattle.bk_order.proofs.Leading.{leads-path}
use Rattle.bk_order.proofs.Meets.{Met}
use Rattle.bk_msg.specs.declared.row.Row.{Row}
use Rattle.bk_dir.specs.declared.entry.Entry.{Entry as DirectoryEntry}
use Rattle.bk_dir.specs.Contents.{Contents, with_entry}
use Rattle.bk_dir.specs.Contents as contents
use Rattle.bk_engine.specs.declared.parts.Choice.{Choice}
use Rattle.bk_engine.specs.Changes.{with_state_at}
use Rattle.bk_engine.specs.Heads.{is_placed}
use Rattle.bk_engine.specs.Sends.{HasStates}
use Rattle.bk_engine.specs.Reads.{number_of}
use Rattle.bk_system.specs.State.{State}
use Rattle.bk_machine.specs.Tables.{put2}
use Rattle.bk_machine.specs.Actions.{FlushState, FlushesVictim, FlushesOwn, FlushesOwner}
use Rattle.bk_machine.specs.Entries.{Entry, is_light, with_state}
use Rattle.bk_machine.specs.Transactions.{FlushAsked, Transaction}
use Rattle.bk_machine.proofs.DirectoryReads.{Readable, OwnerIs, owner-at, owner-only}
use Rattle.bk_machine.proofs.Opened.{readable}
use Rattle.bk_machine.proofs.Summary.{found}
use Rattle.bk_bridge.specs.Readings.{seen}
use Rattle.bk_bridge.specs.Worlds.{listed_of}
use Rattle.bk_exact.specs.Told.{Told}
use Rattle.bk_exact.specs.Ties.{Tied, told_world}
use Rattle.bk_exact.proofs.Flushes.{IsFlushed, flushed}
use Rattle.bk_exact.proofs.Readings.{sum, reads, own-there, owner-there, owner-place, owner-listed}
use Rattle.bk_exact.proofs.Serving.{Staged, mask}
use Rattle.bk_exact.proofs.Values as values
use Rattle.bk_flows.proofs.Entries.{own-put, owner-put, others-put, victim-put, own-lowered, victim-lowered, own-weakened, owner-weakened, victim-weakened, others-dropped, others-shared}
use Rattle.bk_flows.proofs.Listed.{state-only, others-seen, rewritten, entry-in, none_in, victim_in}
use Rattle.bk_flows.proofs.Sent.{served-to, goal}

not-nil : {X : Type 0} (xs : List X) → xs ≢ [] → is_nil xs ≡ false
not-nil [] n = absurd (n refl)
not-nil (x ∷ xs) n = refl

module _ (k : Shape) (later : State) (told : Told) (tied : Tied k later told) (y : Staged k later told false) (choice : Choice)
    (message : Option Row) where
  open y use {serving as v, serving.{held as h, transaction as x}}

  abbrev s : ℕ
  s = group_of k h.addr

  abbrev t : ℕ
  t = tag_at k h.addr

  abbrev r : ℕ
  r = h.source

  abbrev list : Contents
  list = later.engine.directory

  abbrev d : ℕ → ℕ → Entry
  d = seen list s

  abbrev m : Sets
  m = mask k later told v

  abbrev asked : Transaction
  asked = record x { write_back = FlushAsked }

  good : Readable k d
  good = readable k (told_world k later told) tied.invariant s x v.is_told y.is_granted

  -- the own copy
  flush-own : (st : Coh) → (sum k later told v).own ≢ states.I → goal k later told tied v choice message (forms.Stwb 0 st)
  flush-own st q =
      let at = own-there k later told v q in
      let entry = found k.ways (d r) t at.0 at.1 in
      let g : DirectoryEntry = record { tag = (list.entries r s at.0).tag; state = st } in
      let way : (sum k later told v).own_way ≡ at.0 = (reads k later told v).own_way ∙ ap (λ (o : Option ℕ). unwrap_or o 0) at.1 in
      served-to k later told tied v choice message (forms.Stwb 0 st) (FlushesOwn at.0 st x) (with_entry list r s at.0 g) asked refl
      (ap (option_map (λ u. FlushesOwn u st x)) at.1) refl refl refl (ap (λ (u : ℕ). contents.with_state list r s u st) way) refl
      (leads-path _ _
      (rewritten k later told v later.engine.core (with_entry list r s at.0 g) asked (put2 d r at.0 (listed_of g))
      (entry-in k later told v r at.0 g) refl
      st (sum k later told v).owner_state (sum k later told v).victim (none_in k later told v d)
      (own-put k.caches k.ways d r t at.0 (listed_of g) entry.0 entry.1.is_tag (λ u later h. later (good.one_way t r u at.0 h entry.1)))
      (owner-put k.caches k.ways d r t at.0 (listed_of g) ∙ sym (reads k later told v).owner_state)
      (ap is_nil (others-put k.caches k.ways d r t at.0 (listed_of g)))
      (victim-put k.caches k.ways d r t at.0 (listed_of g) (is_placed h.kind) h.way entry.1.is_tag entry.1.is_tag
      ∙ sym (reads k later told v).victim)
      ∙ (λ z. record m { own = state-only st z; others = sym (others-seen k later told v list d refl) z; wb = WB_ASKED })))

  -- the victim
  flush-victim : (m.victim == VICTIM_HEAVY) ≡ true → goal k later told tied v choice message (forms.Stwb 2 states.I)
  flush-victim q =
      let g : DirectoryEntry = record { tag = (list.entries r s h.way).tag; state = states.I } in
      let heavy : is_light (victim_in k later told v d) ≡ false = ap is_light (sym (reads k later told v).victim)
      ∙ values.victim-heavy (sum k later told v).victim q in
      served-to k later told tied v choice message (forms.Stwb 2 states.I) (FlushesVictim x)
      (with_entry list r s h.way g) asked refl refl refl refl refl refl refl
      (leads-path _ _
      (rewritten k later told v later.engine.core (with_entry list r s h.way g) asked (put2 d r h.way (listed_of g))
      (entry-in k later told v r h.way g) refl
      (sum k later told v).own (sum k later told v).owner_state states.I (none_in k later told v d)
      (own-lowered k.caches k.ways d r t h.way (is_placed h.kind) heavy ∙ sym (reads k later told v).own)
      (owner-put k.caches k.ways d r t h.way (listed_of g) ∙ sym (reads k later told v).owner_state)
      (ap is_nil (others-put k.caches k.ways d r t h.way (listed_of g)))
      (victim-lowered k.caches k.ways d r t h.way (is_placed h.kind))
      ∙ (λ z. record m { victim = VICTIM_LIGHT; others = sym (others-seen k later told v list d refl) z; wb = WB_ASKED })))

  -- the owner
  flush-owner : (st : Coh) → FlushState st → lacks m.owner OWNER_NONE ≡ true
      → goal k later told tied v choice message (forms.Stwb 1 st)
  flush-owner st kind q =
      let f = owner-there k later told v q in
      let o = f.cache in
      let u = f.way in
      let is : OwnerIs k d good r t o u = owner-at k d good r t o u f.is_owner f.is_way in
      let g : DirectoryEntry = record { tag = (list.entries o s u).tag; state = st } in
      let only-one = owner-only k d good r t o u is in
      let weak : is_owner_like st ≡ false = weaker kind in
      served-to k later told tied v choice message (forms.Stwb 1 st) (FlushesOwner o u st x) (with_entry list o s u g) asked refl
      (ap (option_map (λ (at : ℕ × ℕ). FlushesOwner at.0 at.1 st x)) (owner-place k later told v o u f.is_owner f.is_way))
      refl refl refl
      (ap (λ (b : Option (ℕ × ℕ)). with_state_at list s b st) (owner-listed k later told v o u f.is_owner f.is_way)) refl
      (leads-path _ _
      (rewritten k later told v later.engine.core (with_entry list o s u g) asked (put2 d o u (listed_of g))
      (entry-in k later told v o u g) refl
      (sum k later told v).own states.I (sum k later told v).victim (none_in k later told v (put2 d o u (listed_of g)))
      (own-weakened k.caches k.ways d r t o u st is.other is.holds is.owner_like only-one weak ∙ sym (reads k later told v).own)
      (owner-weakened k.caches k.ways d r t o u st is.other is.holds is.owner_like only-one weak)
      refl
      (victim-weakened k.caches k.ways d r t o u st is.other is.holds is.owner_like only-one weak (is_placed h.kind) h.way
      ∙ sym (reads k later told v).victim)
      ∙ (λ z. record m { owner = OWNER_NONE; others = others-are kind o u is weak z; wb = WB_ASKED })))
    where
      weaker : FlushState st → is_owner_like st ≡ false
      weaker (inl a) = ap is_owner_like a
      weaker (inr a) = ap is_owner_like a

      -- it becomes one of others where it becomes S
      others-are : FlushState st → (o u : ℕ) → OwnerIs k d good r t o u → is_owner_like st ≡ false
          → only (number_of (not (none_in k later told v (put2 d o u (with_state (d o u) st))))) ≡
          (if is_shared st then OTHERS_YES else m.others)
      others-are (inl a) o u is weak =
          ap (λ (bytes : List ℕ). only (number_of (not (is_nil bytes))))
          (others-dropped k.caches k.ways d r t o u st is.other is.holds is.owner_like (owner-only k d good r t o u is) weak a)
          ∙ sym (others-seen k later told v list d refl) ∙ ap (λ (b : Coh). if is_shared b then OTHERS_YES else m.others) (sym a)
      others-are (inr a) o u is weak =
          let in_range = good.range o u t is.holds in
          ap (λ (b : Bool). only (number_of (not b)))
          (not-nil _ (others-shared k.caches k.ways d r t o u st is.other is.holds is.owner_like
          (owner-only k d good r t o u is) weak a in_range.cache in_range.way))
          ∙ ap (λ (b : Coh). if is_shared b then OTHERS_YES else m.others) (sym a)

  -- by whose copy it is
  pub leads-stwb : (who : ℕ) (st : Coh) → HasStates (forms.Stwb who st) → who < 3 → Met (forms.Stwb who st) m
      → goal k later told tied v choice message (forms.Stwb who st)
  leads-stwb who st g l o = let f = flushed who st (sum k later told v).own m g l refl (and_parts _ _ o.o12).1 in by who f.0 f.1
    where
      by : (who : ℕ) → FlushState st → IsFlushed who st (sum k later told v).own m
          → goal k later told tied v choice message (forms.Stwb who st)
      by zero bytes f = flush-own st f.0
      by (suc zero) bytes f = flush-owner st bytes f
      by (suc (suc zero)) bytes f =
          subst (λ (u : Coh). goal k later told tied v choice message (forms.Stwb 2 u)) (sym f.0) (flush-victim f.1)
      by (suc (suc (suc a))) bytes f = absurd f
