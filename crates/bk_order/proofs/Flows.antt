-- The flow is monotone: what an instruction leaves of a mask is below what it leaves of a mask above, and so are its edges.
use Rattle.std.proofs.Common.{◌≡◌, ℕ, ◌-◌, ◌==◌, Bool, true, false, ◌&&◌, ◌||◌, refl, ap, subst, Option, None, Some, arith}
use Rattle.std.specs.Prelude.{bit_and, bit_or, nat_lt, if◌then◌else◌}
use Rattle.std.proofs.lemmas.Bool.{eqb-true, or_left, or_right}
use Rattle.std.proofs.lemmas.Option.{same_Some}
use Rattle.bk_base.specs.declared.coh.Coh.{Coh}
use Rattle.bk_isa.specs.declared.form.Form.{Form}
use Rattle.bk_isa.specs.declared.form.Form.TheVariants as forms
use Rattle.bk_know.specs.declared.sets.Sets.{Sets}
use Rattle.bk_know.specs.Sets.{subset, field, union, any_empty}
use Rattle.bk_isa.specs.declared.operand.TheConstants.{CLASS_REQUESTS, WITH_OWNER, WHOSE_OWN, WHOSE_OWNER}
use Rattle.bk_know.specs.declared.values.TheConstants.{STAGE_HELD, HEAD_REQUEST, HEAD_INV_ACK, HEAD_COH_ACK, HEAD_WB, HEAD_NULL_WB, HEAD_BLOCK, GP_FREE, GP_ANY, KIND_RD, KIND_WR, OWN_I, OWN_I_S_F_O, OWNER_NONE, OTHERS_NO, OTHERS_YES, VICTIM_LIGHT, ACKS_SOME, ACKS_ANY, WB_IDLE, WB_DIRTY, MEM_GOT, FLAG_CLEAR, FLAG_SET}
use Rattle.bk_know.specs.declared.fields.TheConstants.{FIELD_HEAD, FIELD_GP, FIELD_KIND, FIELD_OWN, FIELD_OWNER, FIELD_OTHERS, FIELD_VICTIM, FIELD_ACKS, FIELD_F0, FIELD_F1, FIELD_F2}
use Rattle.bk_flow.specs.Flow.{may, when, only_state, only_debt, only_down, is_shared, flag, with_flag, set_not, set_and, set_or, is_before_f3, with_field, idle_with, held_with, nothing, heads, wait, empty_head, awake, add, pop, sent_some, sent_none, acks_after, invalidate, flush, pay, left, own_of_kind, cut_own, existing, keep_values, lose_values, fall, jump}
use Rattle.bk_check.specs.Obligations.{is_summed}
use Rattle.bk_order.specs.Below.{Part, Below}
use Rattle.bk_order.proofs.Subsets.{itself, empty, chain, lacks-down, may-up, one-down, and-left, and-up, or-left, or-right, or-up}
use Rattle.bk_order.proofs.Filled.{Filled, filled, filled-some}
use Rattle.bk_order.proofs.Belows.{part, part_itself, filled_up, below_itself, below_chain, union_left, union_up}
use Rattle.bk_order.proofs.Tests.{both, either}

-- SETS

when-up : (b y : Bool) (v : ℕ) → (b ≡ true → y ≡ true) → subset (when b v) (when y v) ≡ true
when-up true true v f = itself v
when-up true false v f = absurd (let e = f refl in cc)
when-up false true v f = empty v
when-up false false v f = empty 0

not-up : (a b : ℕ) → subset a b ≡ true → subset (set_not a) (set_not b) ≡ true
not-up a b p = search (or-up, when-up, may-up)

set_and-up : (a b c d : ℕ) → subset a b ≡ true → subset c d ≡ true → subset (set_and a c) (set_and b d) ≡ true
set_and-up a b c d p q = search (or-up, when-up, both, either, may-up)

set_or-up : (a b c d : ℕ) → subset a b ≡ true → subset c d ≡ true → subset (set_or a c) (set_or b d) ≡ true
set_or-up a b c d p q = search (or-up, when-up, both, either, may-up)

pub awake-up : (a b : ℕ) → subset a b ≡ true → subset (awake a) (awake b) ≡ true
awake-up a b p = search (or-up, and-up, when-up, may-up)

-- CASES

-- where both choose by the same test
choose : (test also : Bool) (p q r v : Sets) → Below test p r → Below test q v
    → Below test (if also then p else q) (if also then r else v)
choose test true p q r v a b = a
choose test false p q r v a b = b

pick : (test : Bool) (p q r v : ℕ) → (test ≡ true → subset p r ≡ true) → (test ≡ false → subset q v ≡ true)
    → subset (if test then p else q) (if test then r else v) ≡ true
pick true p q r v a b = a refl
pick false p q r v a b = b refl

pick_part : (test also : Bool) (p q r v : ℕ) → (also ≡ true → Part test p r) → Part test q v
    → Part test (if also then p else q) (if also then r else v)
pick_part test true p q r v a b = a refl
pick_part test false p q r v a b = b

part_from : (test : Bool) (a b : ℕ) → test ≡ false → subset a b ≡ true → Part test a b
part_from false a b y p = p
part_from true a b y p = absurd (cc)

-- a field of the directory's sum
summed-owner : (number : ℕ) → (number == FIELD_OWNER) ≡ true → is_summed number ≡ true
summed-owner number e = or_left _ _ (or_left _ _ (or_right (number == FIELD_OWN) _ e))

summed-others : (number : ℕ) → (number == FIELD_OTHERS) ≡ true → is_summed number ≡ true
summed-others number e = or_left _ _ (or_right ((number == FIELD_OWN) || (number == FIELD_OWNER)) _ e)

summed-victim : (number : ℕ) → (number == FIELD_VICTIM) ≡ true → is_summed number ≡ true
summed-victim number e = or_right ((number == FIELD_OWN) || (number == FIELD_OWNER) || (number == FIELD_OTHERS)) _ e

-- acknowledgements, where an invalidation goes out for certain (test, a), and where none does (y, b)
acks-by : (test y a b : Bool) (p q : ℕ) → (a ≡ true → test ≡ true) → (b ≡ true → y ≡ true)
    → (test ≡ true → y ≡ true → ⊥)
    → subset p q ≡ true
    → subset (if test then ACKS_SOME else if y
    then p else bit_or p ACKS_SOME) (if a then ACKS_SOME else if b then q else bit_or q ACKS_SOME) ≡ true
acks-by true y true b p q f g n e = refl
acks-by true true false b p q f g n e = absurd (n refl refl)
acks-by true false false true p q f g n e = absurd (let h = g refl in cc)
acks-by true false false false p q f g n e = or-right q ACKS_SOME
acks-by false y true b p q f g n e = absurd (let h = f refl in cc)
acks-by false true false true p q f g n e = e
acks-by false false false true p q f g n e = absurd (let h = g refl in cc)
acks-by false true false false p q f g n e = chain p q (bit_or q ACKS_SOME) e (or-left q ACKS_SOME)
acks-by false false false false p q f g n e = or-up p ACKS_SOME q ACKS_SOME e (itself ACKS_SOME)

-- `own`, where the kind cuts it in the lower mask (test), and in the upper one (y)
cut-by : (test y : Bool) (a b c d : ℕ) → (y ≡ true → test ≡ true) → subset a c ≡ true → subset a d ≡ true
    → subset b d ≡ true
    → subset (if test then a else b) (if y then c else d) ≡ true
cut-by true true a b c d f p q r = p
cut-by true false a b c d f p q r = q
cut-by false false a b c d f p q r = r
cut-by false true a b c d f p q r = absurd (let h = f refl in cc)

-- where the lower kind is a read or a write (test, y), and the upper one (a, b)
own-by : (test y a b : Bool) (o p : ℕ) → (a ≡ true → test ≡ true) → (b ≡ true → y ≡ true)
    → (test ≡ true → y ≡ true → ⊥) → subset o p ≡ true
    → subset (if test then bit_and o OWN_I else if y then bit_and o OWN_I_S_F_O else o)
    (if a then bit_and p OWN_I else if b then bit_and p OWN_I_S_F_O else p)
    ≡ true
own-by true y true b o p f g n e = and-up o p OWN_I e
own-by true y false false o p f g n e = chain (bit_and o OWN_I) o p (and-left o OWN_I) e
own-by true y false true o p f g n e = absurd (n refl (g refl))
own-by false y true b o p f g n e = absurd (let h = f refl in cc)
own-by false true false true o p f g n e = and-up o p OWN_I_S_F_O e
own-by false true false false o p f g n e = chain (bit_and o OWN_I_S_F_O) o p (and-left o OWN_I_S_F_O) e
own-by false false false true o p f g n e = absurd (let h = g refl in cc)
own-by false false false false o p f g n e = e

own_below : (b y : Bool) (o : ℕ) → subset (if b then bit_and o OWN_I else if y then bit_and o OWN_I_S_F_O else o) o ≡ true
own_below true y o = and-left o OWN_I
own_below false true o = and-left o OWN_I_S_F_O
own_below false false o = itself o

add-up : (test y : Bool) (p q r v : Sets) → (test ≡ true → y ≡ true) → Below false p r → Below false q v
    → Below false (add test p q) (add y r v)
add-up true true p q r v f a b = union_up p q r v a b
add-up true false p q r v f a b = absurd (let h = f refl in cc)
add-up false true p q r v f a b = below_chain false false p r (union r v) (λ e. e) a (union_left r v)
add-up false false p q r v f a b = a

-- an invalidation goes out for certain, or none does
sent_clash : (a : ℕ) (sets : Sets) → sent_some a sets ≡ true → sent_none a sets ≡ true → ⊥
sent_clash a sets e f = grind arith

-- ROWS

module _ (test : Bool) (sets wider : Sets) (b : Below test sets wider) where
  flag-up : (a : ℕ) → subset (flag sets a) (flag wider a) ≡ true
  flag-up a = search (pick, b)

  with_flag-up : (a p q : ℕ) → subset p q ≡ true → Below test (with_flag sets a p) (with_flag wider a q)
  with_flag-up a p q e =
      let f0 = pick (a == 0) p sets.f0 q wider.f0 (λ _. e) (λ _. b.f0) in
      let f1 = pick (a == 1) p sets.f1 q wider.f1 (λ _. e) (λ _. b.f1) in
      let f2 = pick (a == 2) p sets.f2 q wider.f2 (λ _. e) (λ _. b.f2) in
      let f3 = pick (nat_lt a 3) sets.f3 p wider.f3 q (λ _. b.f3) (λ _. e) in
      assumption b

  with_field-up : (number p q : ℕ) → (is_summed number ≡ true → test ≡ false) → subset p q ≡ true
      → Below test (with_field sets number p) (with_field wider number q)
  with_field-up number p q u e =
      let head = pick (number == FIELD_HEAD) p sets.head q wider.head (λ _. e) (λ _. b.head) in
      let gp = pick (number == FIELD_GP) p sets.gp q wider.gp (λ _. e) (λ _. b.gp) in
      let kind = pick (number == FIELD_KIND) p sets.kind q wider.kind (λ _. e) (λ _. b.kind) in
      let own = pick (number == FIELD_OWN) p sets.own q wider.own (λ _. e) (λ _. b.own) in
      let owner = pick_part test (number == FIELD_OWNER) p sets.owner q wider.owner
      (λ i. part_from test p q (u (summed-owner number i)) e) b.owner in
      let others = pick_part test (number == FIELD_OTHERS) p sets.others q wider.others
      (λ i. part_from test p q (u (summed-others number i)) e) b.others in
      let victim = pick_part test (number == FIELD_VICTIM) p sets.victim q wider.victim
      (λ i. part_from test p q (u (summed-victim number i)) e) b.victim in
      let acks = pick (number == FIELD_ACKS) p sets.acks q wider.acks (λ _. e) (λ _. b.acks) in
      let f0 = pick (number == FIELD_F0) p sets.f0 q wider.f0 (λ _. e) (λ _. b.f0) in
      let f1 = pick (number == FIELD_F1) p sets.f1 q wider.f1 (λ _. e) (λ _. b.f1) in
      let f2 = pick (number == FIELD_F2) p sets.f2 q wider.f2 (λ _. e) (λ _. b.f2) in
      let f3 = pick (is_before_f3 number) sets.f3 p wider.f3 q (λ _. b.f3) (λ _. e) in
      assumption b

  field-up : (number : ℕ) → (is_summed number ≡ true → test ≡ false) → subset (field sets number) (field wider number) ≡ true
  field-up number u =
      let owner : (number == FIELD_OWNER) ≡ true → subset sets.owner wider.owner ≡ true =
      λ i. part test sets.owner wider.owner (u (summed-owner number i)) b.owner in
      let others : (number == FIELD_OTHERS) ≡ true → subset sets.others wider.others ≡ true =
      λ i. part test sets.others wider.others (u (summed-others number i)) b.others in
      let victim : (number == FIELD_VICTIM) ≡ true → subset sets.victim wider.victim ≡ true =
      λ i. part test sets.victim wider.victim (u (summed-victim number i)) b.victim in
      search (pick, owner, others, victim, b) depth 24

  heads-up : (a : ℕ) → subset (heads a sets) (heads a wider) ≡ true
  heads-up a = search (or-up, itself, when-up, both, may-up, b) depth 9

  wait-up : (a : ℕ) → Below test (wait a sets) (wait a wider)
  wait-up a = let head = heads-up a in let gp = itself (if may a CLASS_REQUESTS then GP_ANY else GP_FREE) in assumption b

  flush-up : (a : ℕ) (state : Coh) → Below test (flush a state sets) (flush a state wider)
  flush-up a state =
      let own = itself (only_state state) in
      let owner = part_itself test OWNER_NONE refl in
      let others = pick_part test (is_shared state) OTHERS_YES sets.others OTHERS_YES wider.others
      (λ _. part_itself test OTHERS_YES refl) b.others in
      let victim = part_itself test VICTIM_LIGHT refl in
      choose test (a == WHOSE_OWN) _ _ _ _ (assumption b) (choose test (a == WHOSE_OWNER) _ _ _ _ (assumption b) (assumption b))

  pay-up : (a : ℕ) (state : Coh) → Below test (pay a state sets) (pay a state wider)
  pay-up a state = let own = itself (only_state state) in choose test (a == WHOSE_OWN) _ _ _ _ (assumption b) (assumption b)

  pub idle_with-up : Below test (idle_with sets) (idle_with wider)
  idle_with-up =
      let owner = part_itself test OWNER_NONE refl in
      let others = part_itself test OTHERS_NO refl in
      let victim = part_itself test VICTIM_LIGHT refl in
      assumption b

  own_of_kind-up : (sets.kind == 0) ≡ false → subset (own_of_kind sets) (own_of_kind wider) ≡ true
  own_of_kind-up some =
      own-by (sets.kind == KIND_RD) (sets.kind == KIND_WR) (wider.kind == KIND_RD) (wider.kind == KIND_WR) sets.own wider.own
      (one-down 0 sets.kind wider.kind b.kind some) (one-down 1 sets.kind wider.kind b.kind some)
      (λ p q. let read = eqb-true sets.kind KIND_RD p in let write = eqb-true sets.kind KIND_WR q in omega (arith, read, write)) b.own

  cut-up : (number : ℕ) → (sets.kind == 0) ≡ false → (sets.stage == 0) ≡ false
      → Below test (cut_own number sets) (cut_own number wider)
  cut-up number kind stage =
      let own =
      cut-by ((number == FIELD_KIND) && (sets.stage == STAGE_HELD)) ((number == FIELD_KIND) && (wider.stage == STAGE_HELD))
      (own_of_kind sets) sets.own (own_of_kind wider) wider.own
      (both (λ e. e) (one-down 2 sets.stage wider.stage b.stage stage)) (own_of_kind-up kind)
      (chain (own_of_kind sets) sets.own wider.own (own_below (sets.kind == KIND_RD) (sets.kind == KIND_WR) sets.own) b.own) b.own in
      assumption b

  acks-up : test ≡ false → Filled sets → (a : ℕ) → subset (acks_after a sets) (acks_after a wider) ≡ true
  acks-up y h a =
      let others = part test sets.others wider.others y b.others in
      let owner = part test sets.owner wider.owner y b.owner in
      acks-by (sent_some a sets) (sent_none a sets) (sent_some a wider) (sent_none a wider) sets.acks wider.acks
      (either (one-down 1 sets.others wider.others others h.others) (both (λ e. e) (lacks-down sets.owner wider.owner OWNER_NONE owner)))
      (both (one-down 0 sets.others wider.others others h.others) (either (λ e. e) (one-down 0 sets.owner wider.owner owner h.owner)))
      (λ p q. sent_clash a sets p q) b.acks

  invalidate-up : test ≡ false → Filled sets → (a : ℕ) → Below test (invalidate a sets) (invalidate a wider)
  invalidate-up y h a =
      let acks = acks-up y h a in
      let owner = pick_part test (a == WITH_OWNER) OWNER_NONE sets.owner OWNER_NONE wider.owner
      (λ _. part_itself test OWNER_NONE refl) b.owner in
      let others = part_itself test OTHERS_NO refl in
      assumption b

-- `bk`
module _ (test : Bool) (sets wider : Sets) (b : Below test sets wider) (number v : ℕ) (u : is_summed number ≡ true
    → test ≡ false) where
  kept : (n : ℕ) → Below test (with_field sets number (bit_and (field sets number) n))
      (with_field wider number (bit_and (field wider number) n))
  kept n = with_field-up test sets wider b number (bit_and (field sets number) n) (bit_and (field wider number) n) u
      (and-up (field sets number) (field wider number) n (field-up test sets wider b number u))

  keep-up : Filled (keep_values sets number v) → Below test (keep_values sets number v) (keep_values wider number v)
  keep-up h = cut-up test _ _ (kept v) number h.kind h.stage

  lose-up : Filled (lose_values sets number v) → Below test (lose_values sets number v) (lose_values wider number v)
  lose-up h = cut-up test _ _ (kept (255 - v)) number h.kind h.stage

-- `popq`
module _ (sets wider : Sets) (b : Below false sets wider) where
  takes : (v : ℕ) (r q wider_r wider_q : Sets) → Below false r wider_r → Below false q wider_q
      → Below false (add (may sets.head v) r q) (add (may wider.head v) wider_r wider_q)
  takes v r q wider_r wider_q =
      add-up (may sets.head v) (may wider.head v) r q wider_r wider_q (may-up sets.head wider.head v b.head)

  pop-up : Below false (pop sets) (pop wider)
  pop-up =
      let stage = awake-up sets.stage wider.stage b.stage in
      takes HEAD_BLOCK _ (empty_head (record sets { mem = MEM_GOT })) _ (empty_head (record wider { mem = MEM_GOT }))
      (takes HEAD_NULL_WB _ (empty_head (record sets { wb = WB_IDLE })) _ (empty_head (record wider { wb = WB_IDLE }))
      (takes HEAD_WB _ (empty_head (record sets { wb = WB_DIRTY })) _ (empty_head (record wider { wb = WB_DIRTY }))
      (takes HEAD_COH_ACK _ (empty_head (record sets { stage = awake sets.stage })) _
      (empty_head (record wider { stage = awake wider.stage }))
      (takes HEAD_INV_ACK _ (empty_head (record sets { acks = ACKS_ANY })) _ (empty_head (record wider { acks = ACKS_ANY }))
      (takes HEAD_REQUEST nothing (held_with sets) nothing (held_with wider) (below_itself nothing) (assumption b)) (assumption b))
      (assumption b)) (assumption b))
      (assumption b)) (assumption b)

pop-whole : (test : Bool) (sets wider : Sets) → test ≡ false → Below test sets wider → Below test (pop sets) (pop wider)
pop-whole false sets wider y b = pop-up sets wider b
pop-whole true sets wider y b = absurd (cc)

-- EACH FORM

-- what an instruction leaves depends on owner, others or victim
abbrev pub reads_aside : Form → Bool
reads_aside (forms.Bk k values to) = is_summed k
reads_aside (forms.Inv a) = true
reads_aside (forms.Popq a) = true
reads_aside _ = false

module _ (test : Bool) (sets wider : Sets) (b : Below test sets wider) (h : Filled sets) where
  pub left-up : (f : Form) → (reads_aside f ≡ true → test ≡ false) → Below test (left f sets) (left f wider)
  left-up (forms.Sf a) u = with_flag-up test sets wider b a FLAG_SET FLAG_SET (itself FLAG_SET)
  left-up (forms.Cf a) u = with_flag-up test sets wider b a FLAG_CLEAR FLAG_CLEAR (itself FLAG_CLEAR)
  left-up (forms.Nf a) u = with_flag-up test sets wider b a _ _ (not-up (flag sets a) (flag wider a) (flag-up test sets wider b a))
  left-up (forms.Movf a d) u = with_flag-up test sets wider b a _ _ (flag-up test sets wider b d)
  left-up (forms.Andf a d) u = with_flag-up test sets wider b a _ _
      (set_and-up (flag sets a) (flag wider a) (flag sets d) (flag wider d) (flag-up test sets wider b a) (flag-up test sets wider b d))
  left-up (forms.Orf a d) u = with_flag-up test sets wider b a _ _
      (set_or-up (flag sets a) (flag wider a) (flag sets d) (flag wider d) (flag-up test sets wider b a) (flag-up test sets wider b d))
  left-up forms.Rdw u = assumption b
  left-up forms.Gad u = assumption b
  left-up (forms.Wde x) u = let own = itself (only_state x) in assumption b
  left-up (forms.Wds a x) u = pay-up test sets wider b a x
  left-up forms.Fin u = idle_with-up test sets wider b
  left-up (forms.Wfq a) u = wait-up test sets wider b a
  left-up (forms.Popq a) u = pop-whole test sets wider (u refl) b
  left-up forms.Defer u = assumption b
  left-up (forms.Inv a) u = invalidate-up test sets wider b (u refl) h a
  left-up (forms.Stwb a x) u = flush-up test sets wider b a x
  left-up (forms.Blk x) u = let debt = itself (only_debt x) in assumption b
  left-up forms.Wake u = assumption b
  left-up (forms.Tr y x) u = let debt = itself (only_debt x) in let down = itself (only_down y) in assumption b
  left-up forms.Ucblk u = assumption b
  left-up forms.Ucdone u = assumption b
  left-up forms.Done u = assumption b
  left-up forms.Memrd u = assumption b
  left-up forms.Memwb u = assumption b
  left-up forms.Memww u = assumption b
  left-up f u = b

-- EDGES

-- an edge exists, and a mask is below what it leads in
pub record Edge (b : Bool) (sets : Sets) (edge : Option Sets) : Type 0 where
  pub to : Sets
  pub exists : edge ≡ Some to
  pub below : Below b sets to

-- the edge that exists
pub existing-is : (sets e : Sets) → existing sets ≡ Some e → (any_empty sets ≡ false) × (sets ≡ e)
existing-is sets e = go (any_empty sets)
  where
    go : (b : Bool) → (if b then None else Some sets) ≡ Some e → (b ≡ false) × (sets ≡ e)
    go true q = absurd (cc)
    go false q = (refl, same_Some sets e q)

pub existing-some : (y : Sets) → any_empty y ≡ false → existing y ≡ Some y
existing-some y e = ap (λ (b : Bool). if b then None else Some y) e

pub edge-up : (b : Bool) (sets y e : Sets) → existing sets ≡ Some e → (Filled sets → Below b sets y) → Edge b e (existing y)
edge-up b sets y e q f =
    let i = existing-is sets e q in
    let h = filled sets i.0 in
    record {
      to = y;
      exists = existing-some y (filled-some y (filled_up b sets y (f h) h));
      below = subst (λ (z : Sets). Below b z y) i.1 (f h);
    }

module _ (test : Bool) (sets wider : Sets) (b : Below test sets wider) (h : Filled sets) where
  pub fall-up : (f : Form) (e : Sets) → (reads_aside f ≡ true → test ≡ false) → fall f sets ≡ Some e
      → Edge test e (fall f wider)
  fall-up (forms.Bi to) e u q = absurd (cc)
  fall-up (forms.Bk k v to) e u q = edge-up test (lose_values sets k v) (lose_values wider k v) e q (lose-up test sets wider b k v u)
  fall-up f e u q = edge-up test (left f sets) (left f wider) e q (λ _. left-up test sets wider b h f u)

  pub jump-up : (f : Form) (e : Sets) → (reads_aside f ≡ true → test ≡ false) → jump f sets ≡ Some e
      → Edge test e (jump f wider)
  jump-up (forms.Bk k v to) e u q = edge-up test (keep_values sets k v) (keep_values wider k v) e q (keep-up test sets wider b k v u)
  jump-up f e u q = edge-up test sets wider e q (λ _. b)
