-- Obligations go downwards: what is owed at an instruction and met by a mask is met by each mask below it.
use Rattle.std.proofs.Common.{◌≡◌, ℕ, ◌==◌, Bool, true, false, not, ◌||◌, refl, sym, subst, None, arith}
use Rattle.std.proofs.lemmas.Bool.{and_parts, and_from, eqb-true}
use Rattle.std.proofs.lemmas.Bool.Decides.{nat_tests}
use Rattle.bk_base.specs.declared.coh.Coh.{Coh}
use Rattle.bk_base.specs.declared.coh.Coh.TheVariants as states
use Rattle.bk_isa.specs.declared.form.Form.{Form}
use Rattle.bk_isa.specs.declared.form.Form.TheVariants as forms
use Rattle.bk_know.specs.declared.sets.Sets.{Sets}
use Rattle.bk_know.specs.Sets.{subset, only}
use Rattle.bk_isa.specs.declared.operand.TheConstants.{CLASS_RESPONSES_REQUESTS, WITH_MARK, PLAIN, WHOSE_OWN, WHOSE_OWNER}
use Rattle.bk_know.specs.declared.values.TheConstants.{STAGE_IDLE, STAGE_BLOCKED, STAGE_HELD, STAGE_CLOSING, STAGE_HELD_CLOSING, HEAD_REQUEST, HEAD_COH_ACK, KIND_WR, KIND_RD_WR, KIND_RD_WR_UC_RD, OWN_I, OWN_I_S, OWN_I_S_F, OWN_S_F_O, OWNER_NONE, OWNER_NONE_F, MEM_ASKED}
use Rattle.bk_flow.specs.Flow.{lacks, only_debt, only_down}
use Rattle.bk_check.specs.Obligations.{implies, unmet_here, single_stage, single_head, awaits, may_branch, sends, is_send, may_read, may_flush_own, may_flush_victim, settled, alone, bears, may_pair, is_handover, obligation_5, obligation_6, obligation_7, obligation_8, obligation_9, obligation_10, obligation_11, obligation_12, obligation_13, obligation_14, obligation_15, obligation_16, obligation_17, obligation_18, obligation_19, obligation_20, obligation_21, obligation_22, obligation_23}
use Rattle.bk_order.specs.Below.{Below}
use Rattle.bk_order.proofs.Subsets.{chain, lacks-down, may-up, one-down, some-up}
use Rattle.bk_order.proofs.Filled.{Filled}
use Rattle.bk_order.proofs.Belows.{part}
use Rattle.bk_order.proofs.Meets.{Met, met, none_unmet}
use Rattle.bk_order.proofs.Tests.{both, either, where_holds, by_cases, implied}

-- a set of one value that has a subset which isn't empty is that subset
pub stage_same : (a b : ℕ) → subset a b ≡ true → (a == 0) ≡ false → single_stage b ≡ true → a ≡ b
stage_same a b p some e =
    let h0 = one-down 0 a b p some in
    let h1 = one-down 1 a b p some in
    let h2 = one-down 2 a b p some in
    let h3 = one-down 3 a b p some in
    grind (arith, nat_tests, h0, h1, h2, h3)

pub head_same : (a b : ℕ) → subset a b ≡ true → (a == 0) ≡ false → single_head b ≡ true → a ≡ b
head_same a b p some e =
    let h1 = one-down 1 a b p some in
    let h2 = one-down 2 a b p some in
    let h3 = one-down 3 a b p some in
    let h4 = one-down 4 a b p some in
    let h5 = one-down 5 a b p some in
    let h6 = one-down 6 a b p some in
    grind (arith, nat_tests, h1, h2, h3, h4, h5, h6)

zero_down : (a b : ℕ) (P : Type 0) → subset a b ≡ true → (a == 0) ≡ false → (b == 0) ≡ true → P
zero_down a b P p some e = absurd (let h = some-up a b p some in cc)

-- a mask that isn't Closing is compared whole
pub whole-by : (b : Bool) (n : ℕ) → (b ≡ true → n ≡ STAGE_CLOSING) → (n == STAGE_HELD) ≡ true → b ≡ false
whole-by false n closing e = refl
whole-by true n closing e = absurd (let at = closing refl in let held = eqb-true n STAGE_HELD e in omega (arith, at, held))

-- ONE BY ONE. "Is" names a value by its number, from 0 in the order of its field (`Sets` of bk_know); "in" and "lacks" name sets of values.

module _ (test : Bool) (sets wider : Sets) (b : Below test sets wider) (h : Filled sets) where
  stage-is : (number : ℕ) → (wider.stage == only number) ≡ true → (sets.stage == only number) ≡ true
  stage-is number = one-down number sets.stage wider.stage b.stage h.stage

  head-is : (number : ℕ) → (wider.head == only number) ≡ true → (sets.head == only number) ≡ true
  head-is number = one-down number sets.head wider.head b.head h.head

  gp-is : (number : ℕ) → (wider.gp == only number) ≡ true → (sets.gp == only number) ≡ true
  gp-is number = one-down number sets.gp wider.gp b.gp h.gp

  kind-is : (number : ℕ) → (wider.kind == only number) ≡ true → (sets.kind == only number) ≡ true
  kind-is number = one-down number sets.kind wider.kind b.kind h.kind

  summ-is : (number : ℕ) → (wider.summ == only number) ≡ true → (sets.summ == only number) ≡ true
  summ-is number = one-down number sets.summ wider.summ b.summ h.summ

  own-is : (number : ℕ) → (wider.own == only number) ≡ true → (sets.own == only number) ≡ true
  own-is number = one-down number sets.own wider.own b.own h.own

  acks-is : (number : ℕ) → (wider.acks == only number) ≡ true → (sets.acks == only number) ≡ true
  acks-is number = one-down number sets.acks wider.acks b.acks h.acks

  wb-is : (number : ℕ) → (wider.wb == only number) ≡ true → (sets.wb == only number) ≡ true
  wb-is number = one-down number sets.wb wider.wb b.wb h.wb

  mem-is : (number : ℕ) → (wider.mem == only number) ≡ true → (sets.mem == only number) ≡ true
  mem-is number = one-down number sets.mem wider.mem b.mem h.mem

  dreq-is : (number : ℕ) → (wider.dreq == only number) ≡ true → (sets.dreq == only number) ≡ true
  dreq-is number = one-down number sets.dreq wider.dreq b.dreq h.dreq

  down-is : (number : ℕ) → (wider.down == only number) ≡ true → (sets.down == only number) ≡ true
  down-is number = one-down number sets.down wider.down b.down h.down

  owner-is : test ≡ false → (number : ℕ) → (wider.owner == only number) ≡ true → (sets.owner == only number) ≡ true
  owner-is y number = one-down number sets.owner wider.owner (part test sets.owner wider.owner y b.owner) h.owner

  others-is : test ≡ false → (number : ℕ) → (wider.others == only number) ≡ true → (sets.others == only number) ≡ true
  others-is y number = one-down number sets.others wider.others (part test sets.others wider.others y b.others) h.others

  victim-is : test ≡ false → (number : ℕ) → (wider.victim == only number) ≡ true → (sets.victim == only number) ≡ true
  victim-is y number = one-down number sets.victim wider.victim (part test sets.victim wider.victim y b.victim) h.victim

  stage-in : (v : ℕ) → subset wider.stage v ≡ true → subset sets.stage v ≡ true
  stage-in v = chain sets.stage wider.stage v b.stage

  kind-in : (v : ℕ) → subset wider.kind v ≡ true → subset sets.kind v ≡ true
  kind-in v = chain sets.kind wider.kind v b.kind

  own-in : (v : ℕ) → subset wider.own v ≡ true → subset sets.own v ≡ true
  own-in v = chain sets.own wider.own v b.own

  owner-in : test ≡ false → (v : ℕ) → subset wider.owner v ≡ true → subset sets.owner v ≡ true
  owner-in y v = chain sets.owner wider.owner v (part test sets.owner wider.owner y b.owner)

  owner-lacks : test ≡ false → (v : ℕ) → lacks wider.owner v ≡ true → lacks sets.owner v ≡ true
  owner-lacks y v = lacks-down sets.owner wider.owner v (part test sets.owner wider.owner y b.owner)

  stage-lacks : (v : ℕ) → lacks wider.stage v ≡ true → lacks sets.stage v ≡ true
  stage-lacks v = lacks-down sets.stage wider.stage v b.stage

  own-lacks : (v : ℕ) → lacks wider.own v ≡ true → lacks sets.own v ≡ true
  own-lacks v = lacks-down sets.own wider.own v b.own

  mem-lacks : (v : ℕ) → lacks wider.mem v ≡ true → lacks sets.mem v ≡ true
  mem-lacks v = lacks-down sets.mem wider.mem v b.mem

  o5 : (f : Form) → obligation_5 f wider ≡ true → obligation_5 f sets ≡ true
  o5 (forms.Wfq a) e =
      let q = and_parts _ _ e in
      let r = and_parts _ _ q.0 in
      let same = stage_same sets.stage wider.stage b.stage h.stage r.1 in
      and_from _ _ (and_from _ _ (head-is 0 r.0) (subst (λ n. single_stage n ≡ true) (sym same) r.1))
      (subst (λ n. implies (n == STAGE_IDLE) (a == CLASS_RESPONSES_REQUESTS) ≡ true) (sym same) q.1)
  o5 f e = refl

  awaits-down : (a : ℕ) → awaits a wider ≡ true → awaits a sets ≡ true
  awaits-down a = either (both (λ e. e) (either (acks-is 1) (wb-is 1))) (both (λ e. e) (mem-is 1))

  o6 : (f : Form) → obligation_5 f wider ≡ true → obligation_6 f wider ≡ true → obligation_6 f sets ≡ true
  o6 (forms.Wfq a) o e =
      let same = stage_same sets.stage wider.stage b.stage h.stage (and_parts _ _ (and_parts _ _ o).0).1 in
      both
      (where_holds (λ p. subst (λ n. (n == STAGE_BLOCKED) ≡ true) same p) (λ p. p))
      (where_holds (λ p. subst (λ n. (n == STAGE_HELD) ≡ true) same p) (both (λ p. p) (awaits-down a)))
      e
  o6 f o e = refl

  o7 : (f : Form) → obligation_7 f wider ≡ true → obligation_7 f sets ≡ true
  o7 (forms.Popq a) e = either (either (either (either (either (head-is 1) (head-is 2)) (head-is 3)) (head-is 4)) (head-is 5)) (head-is 6) e
  o7 f e = refl

  o8 : (f : Form) → obligation_7 f wider ≡ true → obligation_8 f wider ≡ true → obligation_8 f sets ≡ true
  o8 (forms.Popq a) o e =
      let same = head_same sets.head wider.head b.head h.head o in
      where_holds (λ p. subst (λ n. (n == HEAD_REQUEST) ≡ true) same p) (both (stage-is 0) (gp-is 0)) e
  o8 forms.Defer o e = both (both (stage-is 0) (head-is 1)) (gp-is 1) e
  o8 f o e = refl

  o9 : (f : Form) → obligation_7 f wider ≡ true → obligation_9 f wider ≡ true → obligation_9 f sets ≡ true
  o9 (forms.Popq a) o e =
      let same = head_same sets.head wider.head b.head h.head o in
      subst (λ n. implies ((n == HEAD_REQUEST) || (n == HEAD_COH_ACK)) (a == WITH_MARK) ≡ true) (sym same) e
  o9 f o e = refl

  branch-down : (number : ℕ) → may_branch number wider ≡ true → may_branch number sets ≡ true
  branch-down number =
      both (both (where_holds (λ p. p) (head-is 1)) (where_holds (λ p. p) (stage-in STAGE_HELD_CLOSING)))
      (where_holds (λ p. p) (both (stage-is 2) (summ-is 2)))

  o10 : (f : Form) → obligation_7 f wider ≡ true → obligation_10 f wider ≡ true → obligation_10 f sets ≡ true
  o10 (forms.Popq a) o e =
      let same = head_same sets.head wider.head b.head h.head o in
      subst (λ n. implies (not ((n == HEAD_REQUEST) || (n == HEAD_COH_ACK))) (a == PLAIN) ≡ true) (sym same) e
  o10 (forms.Bk number v to) o e = branch-down number e
  o10 f o e = refl

  read-down : (f : Form) → may_read f wider ≡ true → may_read f sets ≡ true
  read-down forms.Rdw e = both (stage-is 2) (summ-is 0) e
  read-down forms.Gad e = both (stage-is 2) (summ-is 1) e
  read-down (forms.Mova a) e = stage-in STAGE_HELD_CLOSING e
  read-down (forms.Movs a) e = stage-in STAGE_HELD_CLOSING e
  read-down (forms.Movw a) e = stage-in STAGE_HELD_CLOSING e
  read-down f e = refl

  o11 : (f : Form) → obligation_11 f wider ≡ true → obligation_11 f sets ≡ true
  o11 f e = both (where_holds (λ p. p) (both (both (stage-is 2) (head-is 0)) (summ-is 2))) (read-down f) e

  flush_own-down : (state : Coh) → may_flush_own state wider ≡ true → may_flush_own state sets ≡ true
  flush_own-down states.I e = own-lacks OWN_I e
  flush_own-down states.S e = own-lacks OWN_I_S e
  flush_own-down state e = refl

  flush_victim-down : test ≡ false → (state : Coh) → may_flush_victim state wider ≡ true → may_flush_victim state sets ≡ true
  flush_victim-down y states.I e = victim-is y 1 e
  flush_victim-down y state e = e

  o12 : (f : Form) → (is_send f ≡ true → test ≡ false) → obligation_12 f wider ≡ true → obligation_12 f sets ≡ true
  o12 (forms.Stwb a state) u e =
      let y = u refl in
      both (wb-is 0) (by_cases (a == WHOSE_OWN) (flush_own-down state)
      (by_cases (a == WHOSE_OWNER) (owner-lacks y OWNER_NONE) (flush_victim-down y state))) e
  o12 f u e = refl

  o13 : (f : Form) → (is_send f ≡ true → test ≡ false) → obligation_13 f wider ≡ true → obligation_13 f sets ≡ true
  o13 (forms.Inv a) u e = where_holds (λ p. p) (owner-in (u refl) OWNER_NONE_F) e
  o13 f u e = refl

  o14 : (f : Form) → (is_send f ≡ true → test ≡ false) → obligation_14 f wider ≡ true → obligation_14 f sets ≡ true
  o14 forms.Memrd u e =
      both (both (both (both (kind-in KIND_RD_WR_UC_RD) (mem-is 0)) (wb-is 0)) (owner-in (u refl) OWNER_NONE_F)) (own-in OWN_I_S_F) e
  o14 f u e = refl

  o15 : (f : Form) → (is_send f ≡ true → test ≡ false) → obligation_15 f wider ≡ true → obligation_15 f sets ≡ true
  o15 forms.Memww u e =
      let y = u refl in
      both (both (both (both (both (both (kind-is 3) (own-is 0)) (owner-is y 0)) (others-is y 0)) (acks-is 0)) (wb-is 0)) (mem-is 0) e
  o15 f u e = refl

  o16 : (f : Form) → obligation_16 f wider ≡ true → obligation_16 f sets ≡ true
  o16 forms.Ucblk e = both (kind-is 2) (mem-is 2) e
  o16 forms.Ucdone e = both (kind-is 3) (mem-is 3) e
  o16 forms.Done e = both (kind-is 4) (own-is 0) e
  o16 f e = refl

  settled-down : settled wider ≡ true → settled sets ≡ true
  settled-down = both (both (acks-is 0) (wb-is 0)) (mem-lacks MEM_ASKED)

  o17 : (f : Form) → (is_send f ≡ true → test ≡ false) → obligation_17 f wider ≡ true → obligation_17 f sets ≡ true
  o17 (forms.Blk state) u e = both settled-down (victim-is (u refl) 0) e
  o17 forms.Wake u e = settled-down e
  o17 (forms.Tr state y) u e = both settled-down (victim-is (u refl) 0) e
  o17 forms.Ucblk u e = settled-down e
  o17 forms.Ucdone u e = settled-down e
  o17 forms.Done u e = settled-down e
  o17 f u e = refl

  alone-down : test ≡ false → alone wider ≡ true → alone sets ≡ true
  alone-down y = both (owner-is y 0) (others-is y 0)

  bears-down : test ≡ false → (state : Coh) → bears state wider ≡ true → bears state sets ≡ true
  bears-down y states.S e = owner-in y OWNER_NONE_F e
  bears-down y states.F e = owner-is y 0 e
  bears-down y states.E e = alone-down y e
  bears-down y states.M e = alone-down y e
  bears-down y state e = refl

  o18 : (f : Form) → (is_send f ≡ true → test ≡ false) → obligation_18 f wider ≡ true → obligation_18 f sets ≡ true
  o18 (forms.Blk state) u e =
      both (both (both (kind-in KIND_RD_WR) (mem-is 2)) (where_holds (may-up sets.kind wider.kind KIND_WR b.kind) (λ p. p)))
      (bears-down (u refl) state) e
  o18 forms.Wake u e = both (both (kind-is 1) (own-in OWN_S_F_O)) (alone-down (u refl)) e
  o18 f u e = refl

  pair-down : test ≡ false → (state y : Coh) → may_pair state y wider ≡ true → may_pair state y sets ≡ true
  pair-down z states.O states.S e = refl
  pair-down z states.S states.O e = refl
  pair-down z states.I states.O e = refl
  pair-down z states.I states.M e = refl
  pair-down z states.F states.S e = owner-is z 2 e
  pair-down z states.S states.F e = owner-is z 2 e
  pair-down z states.I states.F e = owner-is z 2 e
  pair-down z state y e = e

  o19 : (f : Form) → (is_send f ≡ true → test ≡ false) → obligation_19 f wider ≡ true → obligation_19 f sets ≡ true
  o19 (forms.Tr state y) u e =
      let z = u refl in
      both (both (owner-lacks z OWNER_NONE) (pair-down z state y))
      (by_cases (is_handover state y) (both (others-is z 0) (kind-in KIND_RD_WR)) (kind-is 0)) e
  o19 f u e = refl

  o20 : (f : Form) → obligation_20 f wider ≡ true → obligation_20 f sets ≡ true
  o20 forms.Memwb e = wb-is 2 e
  o20 f e = refl

  debt-down : (state : Coh) → (wider.dreq == only_debt state) ≡ true → (sets.dreq == only_debt state) ≡ true
  debt-down states.I e = zero_down sets.dreq wider.dreq _ b.dreq h.dreq e
  debt-down states.S e = dreq-is 1 e
  debt-down states.E e = dreq-is 2 e
  debt-down states.F e = dreq-is 3 e
  debt-down states.M e = dreq-is 4 e
  debt-down states.O e = dreq-is 5 e

  owner_debt-down : (state : Coh) → (wider.down == only_down state) ≡ true → (sets.down == only_down state) ≡ true
  owner_debt-down states.I e = down-is 1 e
  owner_debt-down states.S e = down-is 2 e
  owner_debt-down states.F e = down-is 3 e
  owner_debt-down states.O e = down-is 4 e
  owner_debt-down states.E e = zero_down sets.down wider.down _ b.down h.down e
  owner_debt-down states.M e = zero_down sets.down wider.down _ b.down h.down e

  o21 : (f : Form) → obligation_21 f wider ≡ true → obligation_21 f sets ≡ true
  o21 (forms.Wde state) e = both (stage-is 3) (debt-down state) e
  o21 (forms.Wds a state) e =
      both (stage-is 3) (by_cases (a == WHOSE_OWN) (both (debt-down state) (own-lacks OWN_I)) (owner_debt-down state)) e
  o21 f e = refl

  o22 : (f : Form) → obligation_22 f wider ≡ true → obligation_22 f sets ≡ true
  o22 forms.Fin e = both (both (both (stage-is 3) (head-is 0)) (dreq-is 0)) (down-is 0) e
  o22 f e = refl

  o23 : (f : Form) → obligation_23 f wider ≡ true → obligation_23 f sets ≡ true
  o23 (forms.Wfq a) e = stage-lacks STAGE_CLOSING e
  o23 (forms.Popq a) e = stage-lacks STAGE_CLOSING e
  o23 forms.Defer e = stage-lacks STAGE_CLOSING e
  o23 f e = refl

  -- where owner, others and victim aren't compared, the stage is Closing, and nothing is sent there
  pub whole_at : (f : Form) → (test ≡ true → sets.stage ≡ STAGE_CLOSING) → obligation_11 f wider ≡ true → is_send f ≡ true
      → test ≡ false
  whole_at f closing o i =
      whole-by test sets.stage closing
      (stage-is 2 (and_parts _ _ (and_parts _ _ (implied (is_send f) (sends wider) i (and_parts _ _ o).0)).0).0)

  -- Obligation by obligation, as above: what is asked of a field's set holds of each subset that isn't empty. Only sends ask about
  -- owner, others and victim, and O11 has a send in Held, where the masks are compared whole (`whole_at`).
  pub met_down : (f : Form) → (test ≡ true → sets.stage ≡ STAGE_CLOSING) → Met f wider → Met f sets
  met_down f closing m =
      let u = whole_at f closing m.o11 in
      record {
        o5 = o5 f m.o5;
        o6 = o6 f m.o5 m.o6;
        o7 = o7 f m.o7;
        o8 = o8 f m.o7 m.o8;
        o9 = o9 f m.o7 m.o9;
        o10 = o10 f m.o7 m.o10;
        o11 = o11 f m.o11;
        o12 = o12 f u m.o12;
        o13 = o13 f u m.o13;
        o14 = o14 f u m.o14;
        o15 = o15 f u m.o15;
        o16 = o16 f m.o16;
        o17 = o17 f u m.o17;
        o18 = o18 f u m.o18;
        o19 = o19 f u m.o19;
        o20 = o20 f m.o20;
        o21 = o21 f m.o21;
        o22 = o22 f m.o22;
        o23 = o23 f m.o23;
      }

  pub unmet_down : (f : Form) → (test ≡ true → sets.stage ≡ STAGE_CLOSING) → unmet_here f wider ≡ None
      → unmet_here f sets ≡ None
  unmet_down f closing e = none_unmet f sets (met_down f closing (met f wider e))
