-- The grants `blk`, `wake` and `tr` and the answers `ucblk`, `ucdone` and `done` are permitted.
use Rattle.std.proofs.Common.{◌≡◌, ℕ, ◌==◌, ◌&&◌, ◌⊎◌, Bool, true, false, refl, sym, ap, ◌∙◌, subst, arith, List, [], Some}
use Rattle.std.specs.Prelude.{option_map, if◌then◌else◌}
use Rattle.std.proofs.lemmas.Bool.{and_parts}
use Rattle.bk_base.specs.Places.{Shape, group_of, tag_at, word_of}
use Rattle.bk_base.specs.States.{is_readable, is_writable}
use Rattle.bk_base.specs.declared.coh.Coh.{Coh}
use Rattle.bk_base.specs.declared.coh.Coh.TheVariants as states
use Rattle.bk_isa.specs.declared.form.Form.TheVariants as forms
use Rattle.bk_know.specs.declared.sets.Sets.{Sets}
use Rattle.bk_know.specs.Sets.{only, subset}
use Rattle.bk_flow.specs.Flow.{may}
use Rattle.bk_know.specs.declared.values.TheConstants.{KIND_RD, KIND_WR, KIND_RD_WR, OWNER_NONE, OWNER_F, OWNER_NONE_F, OTHERS_NO}
use Rattle.bk_check.specs.Obligations.{implies, bears, is_handover}
use Rattle.bk_check.specs.Obligations as obligations
use Rattle.bk_order.proofs.Meets.{Met}
use Rattle.bk_engine.specs.declared.parts.Core.{Core}
use Rattle.bk_engine.specs.declared.parts.Held.{Held}
use Rattle.bk_engine.specs.declared.parts.RequestKind.{RequestKind}
use Rattle.bk_engine.specs.declared.parts.RequestKind.TheVariants as kinds
use Rattle.bk_engine.specs.Heads.{kind_number}
use Rattle.bk_engine.specs.Sends.{HasStates}
use Rattle.bk_system.specs.State.{State}
use Rattle.bk_machine.specs.Actions.{debt_of_requester, debt_of_owner, BlockSuits, NoneOrForward, GrantsByBlock, GrantsByWake, GrantsByTransfer, AnswersWord, AnswersStore, AnswersEvict, may_pair}
use Rattle.bk_machine.specs.Messages.{becomes, request_suits}
use Rattle.bk_machine.specs.Products.{words_of}
use Rattle.bk_bridge.specs.Acting.{request_by}
use Rattle.bk_exact.specs.Agrees.{ServesHeld}
use Rattle.bk_exact.specs.Told.{Told}
use Rattle.bk_exact.specs.Ties.{Tied}
use Rattle.bk_exact.proofs.Blocks.{got-found}
use Rattle.bk_exact.proofs.Moves.{Moves}
use Rattle.bk_exact.proofs.Parts.{and3, and4}
use Rattle.bk_exact.proofs.Permits.{acts-still, serves-granted, ready, not-asked, closes}
use Rattle.bk_exact.proofs.Readings.{of-kind, own-read, owner-read, forward, no-owner_state, no-owner, owner-there, owner-at, owner-place, no-others, light-victim}
use Rattle.bk_exact.proofs.Serving.{Staged, mask}
use Rattle.bk_exact.proofs.Values as values

-- THE STATES OF A BLOCK that is granted

block-readable : (y : Coh) → HasStates (forms.Blk y) → is_readable y ≡ true
block-readable y e = grind arith

-- a Rd may be granted each state that can be read, a Wr one that can be written
block-suits : (k : Shape) (h : Held) (q : RequestKind) (y : Coh) → HasStates (forms.Blk y)
    → subset (only (kind_number q)) KIND_RD_WR ≡ true
    → implies (may (only (kind_number q)) KIND_WR) (is_writable y) ≡ true → request_suits (request_by k q h) y ≡ true
block-suits k h kinds.Rd y g e f = block-readable y g
block-suits k h kinds.Wr y g e f = f
block-suits k h kinds.UcRd y g e f = absurd (cc)
block-suits k h kinds.UcWr y g e f = absurd (cc)
block-suits k h kinds.Evict y g e f = absurd (cc)

-- the copies of others bear with the state, in the verifier's word and in the machine's
block-bears : (y z : Coh) (os : List ℕ) (sets : Sets) → HasStates (forms.Blk y)
    → (subset sets.owner OWNER_NONE_F ≡ true → NoneOrForward z) → ((sets.owner == OWNER_NONE) ≡ true → z ≡ states.I)
    → ((sets.others == OTHERS_NO) ≡ true → os ≡ [])
    → bears y sets ≡ true → BlockSuits y z os
block-bears states.I z os sets g a b c e = absurd (cc)
block-bears states.S z os sets g a b c e = a e
block-bears states.E z os sets g a b c e = let q = and_parts _ _ e in (b q.0, c q.1)
block-bears states.F z os sets g a b c e = b e
block-bears states.M z os sets g a b c e = let q = and_parts _ _ e in (b q.0, c q.1)
block-bears states.O z os sets g a b c e = absurd (cc)

-- THE PAIRS OF A TRANSFER: the owner's new state and the requester's

no-pair : (a b : Bool) → (if a then b && false else false) ≡ true → ⊥
no-pair a b e = grind arith

-- a pair that the verifier allows is one that the machine's table allows; F goes with an owner in F alone
pair-same : (y state z : Coh) (sets : Sets) → ((sets.owner == OWNER_F) ≡ true → z ≡ states.F)
    → obligations.may_pair y state sets ≡ true
    → may_pair z y state ≡ true
pair-same y state z sets f e = grind arith

pair-readable : (y state : Coh) (sets : Sets) → obligations.may_pair y state sets ≡ true → is_readable state ≡ true
pair-readable y state sets e = grind arith

-- a Wr goes with a handover, and of the other kinds only Rd with any pair
pair-kind : (k : Shape) (h : Held) (q : RequestKind) (y state : Coh) (sets : Sets) → obligations.may_pair y state sets ≡ true
    → (if is_handover y state then (sets.others == OTHERS_NO) && subset (only (kind_number q)) KIND_RD_WR
    else only (kind_number q) == KIND_RD) ≡ true
    → request_suits (request_by k q h) state ≡ true
pair-kind k h kinds.Rd y state sets p e = pair-readable y state sets p
pair-kind k h kinds.Wr y state sets p e = grind arith
pair-kind k h kinds.UcRd y state sets p e = absurd (no-pair (is_handover y state) (sets.others == OTHERS_NO) e)
pair-kind k h kinds.UcWr y state sets p e = absurd (no-pair (is_handover y state) (sets.others == OTHERS_NO) e)
pair-kind k h kinds.Evict y state sets p e = absurd (no-pair (is_handover y state) (sets.others == OTHERS_NO) e)

-- where the requester is to write, no other cache has a copy in S
pair-alone : (y : Coh) (sets : Sets) (os : List ℕ) → ((sets.others == OTHERS_NO) ≡ true → os ≡ [])
    → obligations.may_pair y states.M sets ≡ true
    → (if is_handover y states.M then (sets.others == OTHERS_NO) && subset sets.kind KIND_RD_WR else sets.kind == KIND_RD)
    ≡ true → os ≡ []
pair-alone states.I sets os f p e = f (and_parts _ _ e).0
pair-alone states.S sets os f p e = absurd (cc)
pair-alone states.E sets os f p e = absurd (cc)
pair-alone states.F sets os f p e = absurd (cc)
pair-alone states.M sets os f p e = absurd (cc)
pair-alone states.O sets os f p e = absurd (cc)

module _ (k : Shape) (s : State) (told : Told) (tied : Tied k s told) (v : Staged k s told false) where
  abbrev e : Core
  e = s.engine.core

  open v use {serving as served, serving.{held as h, transaction as x, serves as sv}}

  abbrev t : ℕ
  t = tag_at k h.addr

  abbrev m : Sets
  m = mask k s told served

  -- GRANTS

  pub permits-blk : (y : Coh) → HasStates (forms.Blk y) → Met (forms.Blk y) m → Moves k s told (forms.Blk y)
  permits-blk y g o =
      let c = and_parts _ _ o.o17 in
      let q = and4 _ _ _ _ o.o18 in
      let r = values.mem-got x.written x.reading q.1 in
      let f = got-found e.got x.reading r.0 sv.got r.1 in
      acts-still k s told tied served (forms.Blk y) (GrantsByBlock (words_of f.words) y x)
      (record x { granted = true; requester_debt = debt_of_requester x y }) refl
      (ap (option_map (λ words. GrantsByBlock (words_of words) y x)) f.is) (
        ready k s told v c.0,
        f.same,
        light-victim k s told served c.1,
        ap (λ r. request_suits r y) sv.serves.request ∙ block-suits k h h.kind y g q.0 q.2,
        block-bears y _ _ m g (λ i. subst NoneOrForward (sym (owner-read k s told served)) (forward k s told served i))
            (no-owner_state k s told served)
            (no-others k s told served) q.3,
      ) refl (λ c r. refl) refl
      (serves-granted k s told tied served true (debt_of_requester x y) x.owner_debt (closes k s told v (and_parts _ _ o.o11).0))

  pub permits-wake : Met forms.Wake m → Moves k s told forms.Wake
  permits-wake o =
      let q = and3 _ _ _ o.o18 in
      let a = and_parts _ _ q.2 in
      acts-still k s told tied served forms.Wake (GrantsByWake t h.way x) _ refl refl (
        ready k s told v o.o17,
        of-kind k s told served kinds.Wr (values.kind-wr h.kind q.0),
        not-asked k s told v o.o17,
        subst (λ (y : Coh). (y ≡ states.S) ⊎ ((y ≡ states.F) ⊎ (y ≡ states.O))) (sym (own-read k s told served))
            (values.own-shared _ q.1),
        no-owner k s told served a.0,
        no-others k s told served a.1,
      ) refl (λ c r. refl) refl
      (serves-granted k s told tied served true
      (Some (record { cache = x.cache; way = h.way; entry = record { tag = t; state = states.M } })) x.owner_debt
      (closes k s told v (and_parts _ _ o.o11).0))

  -- O17 and O19 give an owner that is there, a requester that may have the block, and a pair of states that fit; that is what the action
  -- asks.
  pub permits-tr : (y z : Coh) → Met (forms.Tr y z) m → Moves k s told (forms.Tr y z)
  permits-tr y z o =
      let c = and_parts _ _ o.o17 in
      let q = and3 _ _ _ o.o19 in
      let f = owner-there k s told served q.0 in
      acts-still k s told tied served (forms.Tr y z) (GrantsByTransfer f.cache f.way y z x)
      (record x { granted = true; requester_debt = debt_of_requester x z; owner_debt = debt_of_owner f.cache f.way x y }) refl
      (ap (option_map (λ (at : ℕ × ℕ). GrantsByTransfer at.0 at.1 y z x))
      (owner-place k s told served f.cache f.way f.is_owner f.is_way)) (
        ready k s told v c.0,
        not-asked k s told v c.0,
        light-victim k s told served c.1,
        owner-at k s told served f,
        pair-same y z _ m (λ i. owner-read k s told served ∙ values.owner-in_F _ i) q.1,
        ap (λ r. request_suits r z) sv.serves.request ∙ pair-kind k h h.kind y z m q.1 q.2,
        λ i.
            pair-alone y m _ (no-others k s told served) (subst (λ (u : Coh). obligations.may_pair y u m ≡ true) i q.1)
            (subst (λ (u : Coh). (if is_handover y u then (m.others == OTHERS_NO) && subset m.kind KIND_RD_WR else m.kind == KIND_RD)
            ≡ true) i q.2),
      ) refl (λ c r. refl) refl
      (serves-granted k s told tied served true (debt_of_requester x z) (debt_of_owner f.cache f.way x y)
      (closes k s told v (and_parts _ _ o.o11).0))

  -- ANSWERS

  answered : obligations.sends m ≡ true → ServesHeld k e h (group_of k h.addr) (record x { granted = true })
  answered q = serves-granted k s told tied served true x.requester_debt x.owner_debt (closes k s told v q)

  pub permits-ucblk : Met forms.Ucblk m → Moves k s told forms.Ucblk
  permits-ucblk o =
      let q = and_parts _ _ o.o16 in
      let r = values.mem-got x.written x.reading q.1 in
      let f = got-found e.got x.reading r.0 sv.got r.1 in
      acts-still k s told tied served forms.Ucblk (AnswersWord t (word_of h.addr) (words_of f.words) x) (record x { granted = true }) refl
      (ap (option_map (λ words. AnswersWord t (word_of h.addr) (words_of words) x)) f.is)
      (ready k s told v o.o17, of-kind k s told served kinds.UcRd (values.kind-uc_rd h.kind q.0), f.same) refl (λ c r. refl) refl
      (answered (and_parts _ _ o.o11).0)

  pub permits-ucdone : Met forms.Ucdone m → Moves k s told forms.Ucdone
  permits-ucdone o =
      let q = and_parts _ _ o.o16 in
      acts-still k s told tied served forms.Ucdone (AnswersStore t (word_of h.addr) (becomes h.value) x)
      (record x { granted = true }) refl refl (
        ready k s told v o.o17,
        of-kind k s told served kinds.UcWr (values.kind-uc_wr h.kind q.0),
        values.mem-written x.written x.reading q.1,
      ) refl
      (λ c r. refl) refl
      (answered (and_parts _ _ o.o11).0)

  pub permits-done : Met forms.Done m → Moves k s told forms.Done
  permits-done o =
      let q = and_parts _ _ o.o16 in
      acts-still k s told tied served forms.Done (AnswersEvict t h.way x) (record x { granted = true }) refl refl (
        ready k s told v o.o17,
        of-kind k s told served kinds.Evict (values.kind-evict h.kind q.0),
        own-read k s told served ∙ values.own-none _ q.1,
      ) refl
      (λ c r. refl)
      refl (answered (and_parts _ _ o.o11).0)
