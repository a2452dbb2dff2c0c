-- What is due after an instruction that takes no head off, by its form: no more heads, and less messages by what it sends.
use Rattle.std.proofs.Common.{◌≡◌, ℕ, ◌+◌, ◌≤◌, ◌==◌, Bool, true, false, refl, sym, ap, ◌∙◌, subst, arith, Some}
use Rattle.std.specs.Prelude.{◌&&◌, ◌-◌, bit_and, if◌then◌else◌}
use Rattle.std.proofs.lemmas.Bool.{and_parts, eqb-true}
use Rattle.bk_base.specs.declared.coh.Coh.{Coh}
use Rattle.bk_isa.specs.declared.form.Form.{Form}
use Rattle.bk_isa.specs.declared.form.Form.TheVariants as forms
use Rattle.bk_isa.specs.declared.operand.TheConstants.{WHOSE_OWN}
use Rattle.bk_know.specs.declared.sets.Sets.{Sets}
use Rattle.bk_know.specs.declared.fields.TheConstants.{FIELD_KIND, FIELD_OWN, FIELD_OWNER, FIELD_VICTIM}
use Rattle.bk_know.specs.declared.values.TheConstants.{STAGE_HELD, STAGE_CLOSING, OWN_I, OWN_I_S_F_O, KIND_RD, KIND_WR, DOWN_PAID, WB_IDLE, WB_DIRTY, MEM_IDLE, FLAG_SET, FLAG_CLEAR}
use Rattle.bk_know.specs.Sets.{subset, field, any_empty}
use Rattle.bk_flow.specs.Flow.{fall, jump, left, with_field, with_flag, cut_own, keep_values, lose_values, pay, pay_requester, flag, set_not, set_and, set_or}
use Rattle.bk_check.specs.Obligations.{sends, is_send}
use Rattle.bk_order.proofs.Flows.{existing-is}
use Rattle.bk_order.proofs.Meets.{Met}
use Rattle.bk_order.proofs.Subsets.{itself, and-left}
use Rattle.bk_order.proofs.Tests.{implied}
use Rattle.bk_engine.specs.Sends.{HasStates}
use Rattle.bk_bridge.specs.Effects.{is_pop}
use Rattle.bk_bound.proofs.Due.{answer_due, block_due, answers_due, write_due, access_due, sends_due, Lower, lower-itself, lower-chain, alike, closing-due}
use Rattle.bk_bound.proofs.DueFlushes.{Falls, lower-falls, none-falls, grant-falls, memory-falls, stwb-falls, inv-falls}

-- the messages that an instruction sends, but for invalidations: 2 for a command, 1 for a message to memory
abbrev pub cost : Form → ℕ
cost (forms.Stwb who y) = 2
cost (forms.Blk y) = 2
cost forms.Wake = 2
cost (forms.Tr y z) = 2
cost forms.Ucblk = 2
cost forms.Ucdone = 2
cost forms.Done = 2
cost forms.Memrd = 1
cost forms.Memwb = 1
cost forms.Memww = 1
cost f = 0

-- BRANCHES AND FLAGS

-- other values for fields that don't count
counts-alike : (r sets : Sets) → r.stage ≡ sets.stage → r.own ≡ sets.own → r.owner ≡ sets.owner → r.victim ≡ sets.victim
    → r.wb ≡ sets.wb → r.mem ≡ sets.mem → Lower r sets
counts-alike r sets stage own owner victim wb mem =
    alike r sets stage (same r.own sets.own own) (same r.owner sets.owner owner) (same r.victim sets.victim victim) wb mem
  where
    same : (a b : ℕ) → a ≡ b → subset a b ≡ true
    same a b e = ap (λ (i : ℕ). subset i b) e ∙ itself b

flag-lower : (sets : Sets) (a set : ℕ) → Lower (with_flag sets a set) sets
flag-lower sets a set = counts-alike (with_flag sets a set) sets refl refl refl refl refl refl

-- `bk` takes values from one field
field-part : (sets : Sets) (number set i own : ℕ) → field sets i ≡ own
    → subset (if number == i then bit_and (field sets number) set else own) own ≡ true
field-part sets number set i own e = go (number == i) refl
  where
    go : (b : Bool) → (number == i) ≡ b → subset (if b then bit_and (field sets number) set else own) own ≡ true
    go true q =
        subst (λ (j : ℕ). subset (bit_and j set) own ≡ true) (sym (ap (field sets) (eqb-true number i q) ∙ e)) (and-left own set)
    go false q = itself own

narrowed : (sets : Sets) (number set : ℕ) → Lower (with_field sets number (bit_and (field sets number) set)) sets
narrowed sets number set =
    alike (with_field sets number (bit_and (field sets number) set)) sets refl (field-part sets number set FIELD_OWN sets.own refl)
    (field-part sets number set FIELD_OWNER sets.owner refl) (field-part sets number set FIELD_VICTIM sets.victim refl) refl refl

kind-part : (p q : Bool) (own : ℕ) → subset (if p then bit_and own OWN_I else if q then bit_and own OWN_I_S_F_O else own) own ≡ true
kind-part true q own = and-left own OWN_I
kind-part false true own = and-left own OWN_I_S_F_O
kind-part false false own = itself own

cut-part : (b p q : Bool) (own : ℕ)
    → subset (if b then (if p then bit_and own OWN_I else if q then bit_and own OWN_I_S_F_O else own) else own) own ≡ true
cut-part true p q own = kind-part p q own
cut-part false p q own = itself own

cut-lower : (number : ℕ) (sets : Sets) → Lower (cut_own number sets) sets
cut-lower number sets =
    alike (cut_own number sets) sets refl
    (cut-part ((number == FIELD_KIND) && (sets.stage == STAGE_HELD)) (sets.kind == KIND_RD) (sets.kind == KIND_WR) sets.own)
    (itself sets.owner) (itself sets.victim) refl refl

branch-lower : (sets : Sets) (number set : ℕ)
    → Lower (cut_own number (with_field sets number (bit_and (field sets number) set))) sets
branch-lower sets number set =
    let r = with_field sets number (bit_and (field sets number) set) in
    lower-chain (cut_own number r) r sets (cut-lower number r) (narrowed sets number set)

jump-lower : (f : Form) (sets r : Sets) → jump f sets ≡ Some r → Lower r sets
jump-lower (forms.Bk a b to) sets r e =
    let q = existing-is (keep_values sets a b) r e in subst (λ (p : Sets). Lower p sets) q.1 (branch-lower sets a b)
jump-lower f sets r e = let q = existing-is sets r e in subst (λ (p : Sets). Lower p sets) q.1 (lower-itself sets)

-- BY ITS FORM

closed-falls : (r sets : Sets) → r.stage ≡ STAGE_CLOSING → Falls r sets 0
closed-falls r sets i = none-falls r sets (closing-due r.stage (answers_due r) i) (closing-due r.stage (sends_due r) i)

pay-stage : (a : ℕ) (y : Coh) (sets : Sets) → (pay a y sets).stage ≡ sets.stage
pay-stage a y sets = go (a == WHOSE_OWN)
  where
    go : (b : Bool) → (if b then pay_requester y sets else record sets { down = DOWN_PAID }).stage ≡ sets.stage
    go true = refl
    go false = refl

-- what is sent is sent for a request that is held
sends-held : (f : Form) (sets : Sets) → is_send f ≡ true → Met f sets → sets.stage ≡ STAGE_HELD
sends-held f sets i o =
    let sent = implied (is_send f) (sends sets) i (and_parts _ _ o.o11).0 in
    eqb-true sets.stage STAGE_HELD (and_parts _ _ (and_parts _ _ sent).0).0

itself-le : (i : ℕ) → i ≤ i
itself-le i = omega arith

plus-one : (i : ℕ) → i + 0 + 1 ≤ i + 1
plus-one i = omega arith

plus-less : (i : ℕ) → i + 0 ≤ i + 1
plus-less i = omega arith

one-plus : (i : ℕ) → 0 + i + 1 ≤ 1 + i
one-plus i = omega arith

left-falls : (f : Form) (sets : Sets) → HasStates f → is_pop f ≡ false → Met f sets → any_empty sets ≡ false
    → Falls (left f sets) sets (cost f)
left-falls (forms.Sf a) sets h p o some = lower-falls _ sets (flag-lower sets a FLAG_SET)
left-falls (forms.Cf a) sets h p o some = lower-falls _ sets (flag-lower sets a FLAG_CLEAR)
left-falls (forms.Nf a) sets h p o some = lower-falls _ sets (flag-lower sets a (set_not (flag sets a)))
left-falls (forms.Movf a b) sets h p o some = lower-falls _ sets (flag-lower sets a (flag sets b))
left-falls (forms.Andf a b) sets h p o some = lower-falls _ sets (flag-lower sets a (set_and (flag sets a) (flag sets b)))
left-falls (forms.Orf a b) sets h p o some = lower-falls _ sets (flag-lower sets a (set_or (flag sets a) (flag sets b)))
left-falls forms.Rdw sets h p o some = lower-falls _ sets (counts-alike _ sets refl refl refl refl refl refl)
left-falls forms.Gad sets h p o some = lower-falls _ sets (counts-alike _ sets refl refl refl refl refl refl)
left-falls (forms.Wde y) sets h p o some =
    closed-falls (pay_requester y sets) sets (eqb-true sets.stage STAGE_CLOSING (and_parts _ _ o.o21).0)
left-falls (forms.Wds who y) sets h p o some =
    closed-falls (pay who y sets) sets (pay-stage who y sets ∙ eqb-true sets.stage STAGE_CLOSING (and_parts _ _ o.o21).0)
left-falls forms.Fin sets h p o some = none-falls _ sets refl refl
left-falls (forms.Wfq a) sets h p o some = lower-falls _ sets (counts-alike _ sets refl refl refl refl refl refl)
left-falls (forms.Popq a) sets h p o some = absurd (cc)
left-falls forms.Defer sets h p o some = none-falls _ sets refl refl
left-falls (forms.Inv a) sets h p o some = inv-falls a sets
left-falls (forms.Stwb who y) sets h p o some =
    let q = and_parts _ _ o.o12 in
    stwb-falls who y sets h some (sends-held (forms.Stwb who y) sets refl o) (eqb-true sets.wb WB_IDLE q.0) q.1
left-falls (forms.Blk y) sets h p o some = grant-falls _ sets refl (sends-held (forms.Blk y) sets refl o)
left-falls forms.Wake sets h p o some = grant-falls _ sets refl (sends-held forms.Wake sets refl o)
left-falls (forms.Tr y z) sets h p o some = grant-falls _ sets refl (sends-held (forms.Tr y z) sets refl o)
left-falls forms.Ucblk sets h p o some = grant-falls _ sets refl (sends-held forms.Ucblk sets refl o)
left-falls forms.Ucdone sets h p o some = grant-falls _ sets refl (sends-held forms.Ucdone sets refl o)
left-falls forms.Done sets h p o some = grant-falls _ sets refl (sends-held forms.Done sets refl o)
left-falls forms.Memrd sets h p o some =
    let q = and_parts _ _ (and_parts _ _ (and_parts _ _ (and_parts _ _ o.o14).0).0).0 in
    let idle : sets.mem ≡ MEM_IDLE = eqb-true sets.mem MEM_IDLE q.1 in
    memory-falls _ sets (sends-held forms.Memrd sets refl o) (sends-held forms.Memrd sets refl o) refl
    (subst (λ (i : ℕ). answer_due sets.wb + 1 ≤ answer_due sets.wb + block_due i) (sym idle) (itself-le (answer_due sets.wb + 1)))
    (subst (λ (i : ℕ). write_due sets.wb + 0 + 1 ≤ write_due sets.wb + access_due i) (sym idle) (plus-one (write_due sets.wb)))
left-falls forms.Memwb sets h p o some =
    let kept : sets.wb ≡ WB_DIRTY = eqb-true sets.wb WB_DIRTY o.o20 in
    memory-falls _ sets (sends-held forms.Memwb sets refl o) (sends-held forms.Memwb sets refl o) refl
    (subst (λ (i : ℕ). 0 + block_due sets.mem ≤ answer_due i + block_due sets.mem) (sym kept) (itself-le (0 + block_due sets.mem)))
    (subst (λ (i : ℕ). 0 + access_due sets.mem + 1 ≤ write_due i + access_due sets.mem) (sym kept) (one-plus (access_due sets.mem)))
left-falls forms.Memww sets h p o some =
    let idle : sets.mem ≡ MEM_IDLE = eqb-true sets.mem MEM_IDLE (and_parts _ _ o.o15).1 in
    memory-falls _ sets (sends-held forms.Memww sets refl o) (sends-held forms.Memww sets refl o) refl
    (subst (λ (i : ℕ). answer_due sets.wb + 0 ≤ answer_due sets.wb + block_due i) (sym idle) (plus-less (answer_due sets.wb)))
    (subst (λ (i : ℕ). write_due sets.wb + 0 + 1 ≤ write_due sets.wb + access_due i) (sym idle) (plus-one (write_due sets.wb)))
left-falls f sets h p o some = lower-falls sets sets (lower-itself sets)

-- EDGES

pub fall-falls : (f : Form) (sets r : Sets) → HasStates f → is_pop f ≡ false → Met f sets → any_empty sets ≡ false
    → fall f sets ≡ Some r → Falls r sets (cost f)
fall-falls (forms.Bi to) sets r h p o some e = absurd (cc)
fall-falls (forms.Bk a b to) sets r h p o some e =
    let q = existing-is (lose_values sets a b) r e in
    lower-falls r sets (subst (λ (p : Sets). Lower p sets) q.1 (branch-lower sets a (255 - b)))
fall-falls f sets r h p o some e =
    let q = existing-is (left f sets) r e in subst (λ (p : Sets). Falls p sets (cost f)) q.1 (left-falls f sets h p o some)

pub jump-falls : (f : Form) (sets r : Sets) → jump f sets ≡ Some r → Falls r sets 0
jump-falls f sets r e = lower-falls r sets (jump-lower f sets r e)
