-- `bk`: the field keeps the values of the edge that is taken.
use Rattle.std.proofs.Common.{◌≡◌, ℕ, ◌*◌, ◌-◌, ◌/◌, ◌%◌, ◌^◌, ◌<◌, ◌≤◌, ◌==◌, ◌⊎◌, inl, inr, Bool, true, false, refl, sym, ap, ◌∙◌, subst, arith, List, [], ◌∷◌, Option, Some, None}
use Rattle.std.specs.Prelude.{nat_lt, bit_and, if◌then◌else◌}
use Rattle.std.specs.Int.{bit_at}
use Rattle.std.proofs.lemmas.Bool.{and_parts, agree_below_at, ltb-true}
use Rattle.std.proofs.lemmas.Bool.Decides.{nat_tests}
use Rattle.std.proofs.lemmas.Nat.{and_comm}
use Rattle.std.proofs.lemmas.Nat.Bits.{and_pow}
use Rattle.bk_base.specs.Places.{Shape, group_of, tag_at}
use Rattle.bk_base.specs.States.{is_writable}
use Rattle.bk_base.specs.declared.coh.Coh.{Coh}
use Rattle.bk_base.specs.declared.coh.Coh.TheVariants as states
use Rattle.bk_isa.specs.declared.form.Form.TheVariants.{Bk}
use Rattle.bk_isa.specs.declared.table.Allowed.TheVariants.{Zero}
use Rattle.bk_isa.specs.Fields.{fields_of}
use Rattle.bk_isa.specs.Table.{admits, tested, value_set, target, set_limit}
use Rattle.bk_isa.specs.Words.{IsInRange}
use Rattle.bk_isa.proofs.Admitted.{AdmitsAll-from_none}
use Rattle.bk_isa.proofs.Operands.{operands}
use Rattle.bk_know.specs.declared.sets.Sets.{Sets}
use Rattle.bk_know.specs.Sets.{only}
use Rattle.bk_flow.specs.Flow.{existing, keep_values, lose_values, own_of_kind}
use Rattle.bk_know.specs.declared.values.TheConstants.{HEAD_REQUEST, STAGE_HELD, KIND_RD, KIND_WR, OWN_I, OWN_I_S_F_O, GP_FREE}
use Rattle.bk_check.specs.Obligations.{may_branch}
use Rattle.bk_order.specs.Fits.{Leads}
use Rattle.bk_order.proofs.Leading.{leads-path}
use Rattle.bk_msg.specs.declared.row.Row.{Row}
use Rattle.bk_dir.specs.Contents.{Contents}
use Rattle.bk_dir.specs.declared.entry.Summary.{Summary}
use Rattle.bk_engine.specs.declared.parts.Choice.{Choice}
use Rattle.bk_engine.specs.declared.parts.Core.{Core}
use Rattle.bk_engine.specs.declared.parts.Head.{Head}
use Rattle.bk_engine.specs.declared.parts.Held.{Held}
use Rattle.bk_engine.specs.declared.parts.RequestKind.{RequestKind}
use Rattle.bk_engine.specs.declared.parts.RequestKind.TheVariants as kinds
use Rattle.bk_engine.specs.Heads.{head_value, has_value, kind_number}
use Rattle.bk_engine.specs.Reads.{field_value, held_value, summary_for, kind_value, gp_value, number_of, own_number, owner_number, is_heavy}
use Rattle.bk_system.specs.State.{State}
use Rattle.bk_machine.specs.Readings.{OpenReadings}
use Rattle.bk_machine.specs.Transactions.{Transaction}
use Rattle.bk_machine.proofs.Readings.{readings}
use Rattle.bk_exact.specs.Told.{Told}
use Rattle.bk_exact.specs.Exact.{exact}
use Rattle.bk_exact.specs.Ties.{Tied, told_world}
use Rattle.bk_exact.proofs.Parts.{and3}
use Rattle.bk_exact.proofs.Readings.{of-kind, own-read}
use Rattle.bk_exact.proofs.Serving.{Staged, serves-held}
use Rattle.bk_exact.proofs.Values as values
use Rattle.bk_flows.proofs.Masks.{after_mask, Goal, idle-mask}
use Rattle.bk_flows.proofs.Small.{below-eight, is_among, among-each}

-- ONE VALUE

is-bit : (n : ℕ) → (n == 1) ≡ true → n ≡ 1
is-bit n e = grind (arith, nat_tests)

-- a bit is 0 or 1
no-bit : (n : ℕ) → (n % 2 == 1) ≡ false → n % 2 ≡ 0
no-bit n e = grind (arith, nat_tests)

-- a set of one value, cut by a set that has the value
one-of : (w b : ℕ) → bit_at b w ≡ 1 → bit_and (only w) b ≡ only w
one-of w b e = and_comm (2 ^ w) b ∙ and_pow b w ∙ subst (λ (c : ℕ). c * 2 ^ w ≡ 2 ^ w) (sym e) (omega arith)

-- a value that the set has is kept
keeps : (w b : ℕ) → has_value b w ≡ true → bit_and (only w) b ≡ only w
keeps w b e = one-of w b (is-bit (b / 2 ^ w % 2) e)

-- and one that a set below 256 hasn't is kept by the values that the set hasn't
others-bit : (w : ℕ) → w < 8 → (b : ℕ) → b < 256 → b / 2 ^ w % 2 ≡ 0 → (255 - b) / 2 ^ w % 2 ≡ 1
others-bit =
    below-eight (λ w. (b : ℕ) → b < 256 → b / 2 ^ w % 2 ≡ 0 → (255 - b) / 2 ^ w % 2 ≡ 1)
    (λ b l e. omega (arith, l, e)) (λ b l e. omega (arith, l, e)) (λ b l e. omega (arith, l, e)) (λ b l e. omega (arith, l, e))
    (λ b l e. omega (arith, l, e)) (λ b l e. omega (arith, l, e)) (λ b l e. omega (arith, l, e)) (λ b l e. omega (arith, l, e))

loses : (w b : ℕ) → w < 8 → b < 256 → has_value b w ≡ false → bit_and (only w) (255 - b) ≡ only w
loses w b l k e = one-of w (255 - b) (others-bit w l b k (no-bit (b / 2 ^ w) e))

-- THE VALUES ARE SMALL

if-small : (b : Bool) (n y : ℕ) → n < 8 → y < 8 → (if b then n else y) < 8
if-small true n y p q = p
if-small false n y p q = q

number-small : (b : Bool) → number_of b < 8
number-small b = if-small b 1 0 (omega arith) (omega arith)

head-small : (o : Option Head) → head_value o < 8
head-small None = omega arith
head-small (Some h) = grind arith

kind-small : (o : Option Held) → kind_value o < 8
kind-small None = omega arith
kind-small (Some h) = grind arith

gp-small : (k : Shape) (d : Contents) (o : Option Head) → gp_value k d o < 8
gp-small k d None = omega arith
gp-small k d (Some h) = number-small _

held-small : (k : Shape) (d : Contents) (o : Option Held) (field : ℕ) → held_value k d o field < 8
held-small k d None field = omega arith
held-small k d (Some h) field =
    if-small (field == 6) _ _ (own (summary_for k d h).own)
    (if-small (field == 7) _ _ (owner (summary_for k d h).owner_state)
    (if-small (field == 8) _ _ (number-small _) (number-small (is_heavy (summary_for k d h).victim))))
  where
    own : (y : Coh) → own_number y < 8
    own y = grind arith

    owner : (y : Coh) → owner_number y < 8
    owner y = grind arith

-- and so are the sets of values
limit-small : (a : ℕ) → set_limit a ≤ 256
limit-small a = grind arith

-- THE FIELDS THAT ARE TESTED

abbrev fields : List ℕ
fields = 2 ∷ 3 ∷ 4 ∷ 6 ∷ 7 ∷ 8 ∷ 9 ∷ 10 ∷ 15 ∷ 16 ∷ 17 ∷ 18 ∷ []

-- `bk` in range tests one of them
pub tests-of : (a b to : ℕ) → IsInRange (Bk a b to) → is_among a fields ≡ true
tests-of a b to h =
    let p = AdmitsAll-from_none (record { a = tested; b = value_set a; c = Zero; imm = target }) (fields_of (Bk a b to)) h.admitted in
    sym (agree_below_at (admits tested) (λ c. is_among c fields) 32 a refl (ltb-true a 32 (and_parts _ _ p.a).0)) ∙ p.a

-- THE EXACT MASK

-- a state that may not be written is one of a Wr's
own-kept : (y : Coh) → is_writable y ≡ false → bit_and (only (own_number y)) OWN_I_S_F_O ≡ only (own_number y)
own-kept y e = grind arith

module _ (k : Shape) (later : State) (told : Told) (tied : Tied k later told) where
  abbrev s : Sets
  s = exact k later.engine told

  abbrev e : Core
  e = later.engine.core

  -- what a request of its kind finds as own
  module _ (v : Staged k later told false) where
    abbrev h : Held
    h = v.serving.held

    abbrev x : Transaction
    x = v.serving.transaction

    abbrev sum : Summary
    sum = summary_for k later.engine.directory h

    open_readings : OpenReadings k (group_of k h.addr) x (told_world k later told)
    open_readings = (readings k (told_world k later told) tied.invariant).while_open (group_of k h.addr) x v.serving.is_told v.is_granted

    own-of : (c : ℕ) → bit_and (only (own_number sum.own)) c ≡ only (own_number sum.own) → bit_and s.own c ≡ s.own
    own-of c q =
        subst (λ (o : Option Held). bit_and (only (held_value k later.engine.directory o 6)) c
        ≡ only (held_value k later.engine.directory o 6))
        (sym v.serving.is_held) q

    kind-is : (c : ℕ) → (only (kind_value e.held) == only c) ≡ true → kind_number h.kind ≡ c
    kind-is c q = ap kind_value (sym v.serving.is_held) ∙ values.only-is c (kind_value e.held) q

    own-rd : (s.kind == KIND_RD) ≡ true → bit_and s.own OWN_I ≡ s.own
    own-rd q =
        own-of OWN_I
        (subst (λ (y : Coh). bit_and (only (own_number y)) OWN_I ≡ only (own_number y))
        (sym (open_readings.rd (tag_at k h.addr) h.way (of-kind k later told v.serving kinds.Rd (rd h.kind (kind-is 0 q))))
        ∙ own-read k later told v.serving) refl)
      where
        rd : (r : RequestKind) → kind_number r ≡ 0 → r ≡ kinds.Rd
        rd r e = grind arith

    own-wr : (s.kind == KIND_WR) ≡ true → bit_and s.own OWN_I_S_F_O ≡ s.own
    own-wr q =
        own-of OWN_I_S_F_O
        (subst (λ (y : Coh). bit_and (only (own_number y)) OWN_I_S_F_O ≡ only (own_number y)) (own-read k later told v.serving)
        (own-kept _ (weaker _
        (open_readings.wr (tag_at k h.addr) h.way (of-kind k later told v.serving kinds.Wr (wr h.kind (kind-is 1 q)))))))
      where
        wr : (r : RequestKind) → kind_number r ≡ 1 → r ≡ kinds.Wr
        wr r e = grind arith

        none : (y : Coh) → y ≡ states.I → is_writable y ≡ false
        none y e = grind arith

        weaker : {A : Type 0} (y : Coh) → (y ≡ states.I) ⊎ (A × (is_writable y ≡ false)) → is_writable y ≡ false
        weaker y (inl i) = none y i
        weaker y (inr p) = p.1

  -- so the cut by the kind leaves it
  cut-same : (if s.stage == STAGE_HELD then own_of_kind s else s.own) ≡ s.own
  cut-same = go (s.stage == STAGE_HELD) refl
    where
      go : (b : Bool) → (s.stage == STAGE_HELD) ≡ b → (if b then own_of_kind s else s.own) ≡ s.own
      go false i = refl
      go true i = by (s.kind == KIND_RD) refl (s.kind == KIND_WR) refl
        where
          by : (r : Bool) → (s.kind == KIND_RD) ≡ r → (u : Bool) → (s.kind == KIND_WR) ≡ u
              → (if r then bit_and s.own OWN_I else if u then bit_and s.own OWN_I_S_F_O else s.own) ≡ s.own
          by true j u l = own-rd (serves-held k later told tied i) j
          by false j true l = own-wr (serves-held k later told tied i) l
          by false j false l = refl

  -- with a request at the head gp is a set of one value too
  gp-is : (s.head == HEAD_REQUEST) ≡ true → s.gp ≡ only (gp_value k later.engine.directory e.head)
  gp-is q = ap (λ (w : ℕ). if w == 1 then only (gp_value k later.engine.directory e.head)
      else GP_FREE) (values.only-is 1 (head_value e.head) q)

  -- where the field keeps its one value, so does the mask
  keeps-mask : (a : ℕ) → is_among a fields ≡ true → (c : ℕ) → bit_and (only (field_value k later.engine a)) c
      ≡ only (field_value k later.engine a)
      → may_branch a s ≡ true → keep_values s a c ≡ s
  keeps-mask =
      among-each (λ a. (c : ℕ) → bit_and (only (field_value k later.engine a)) c ≡ only (field_value k later.engine a)
      → may_branch a s ≡ true
      → keep_values s a c ≡ s) fields (
        λ c q o. ap (λ (w : ℕ). record s { head = w }) q,
        (
          λ c q o. ap (λ (w : ℕ). record s { gp = w })
              (subst (λ (w : ℕ). bit_and w c ≡ w) (sym (gp-is (and3 (s.head == HEAD_REQUEST) true true o).0)) q),
          (
            λ c q o. (λ i. record s { kind = q i; own = if s.stage == STAGE_HELD then own_of_kind (record s { kind = q i }) else s.own })
                ∙ ap (λ (w : ℕ). record s { own = w }) cut-same,
            (
              λ c q o. ap (λ (w : ℕ). record s { own = w }) q,
              (
                λ c q o. ap (λ (w : ℕ). record s { owner = w }) q,
                (
                  λ c q o. ap (λ (w : ℕ). record s { others = w }) q,
                  (
                    λ c q o. ap (λ (w : ℕ). record s { victim = w }) q,
                    (
                      λ c q o. ap (λ (w : ℕ). record s { acks = w }) q,
                      (
                        λ c q o. ap (λ (w : ℕ). record s { f0 = w }) q,
                        (
                          λ c q o. ap (λ (w : ℕ). record s { f1 = w }) q,
                          (
                            λ c q o. ap (λ (w : ℕ). record s { f2 = w }) q,
                            (
                              λ c q o. ap (λ (w : ℕ). record s { f3 = w }) q,
                              tt,
                            ),
                          ),
                        ),
                      ),
                    ),
                  ),
                ),
              ),
            ),
          ),
        ),
      )

  value-small : (a : ℕ) → field_value k later.engine a < 8
  value-small a =
      if-small (a == 2) _ _ (head-small e.head)
      (if-small (a == 3) _ _ (gp-small k later.engine.directory e.head)
      (if-small (a == 4) _ _ (kind-small e.held)
      (if-small (a == 10) _ _ (number-small _)
      (if-small (nat_lt a 15) _ _ (held-small k later.engine.directory e.held a) (number-small _)))))

  pub leads-bk : (choice : Choice) (message : Option Row) (a b to : ℕ) → IsInRange (Bk a b to) → may_branch a s ≡ true
      → Goal k later told choice message (Bk a b to)
  leads-bk choice message a b to r o filled = go (has_value b (field_value k later.engine a)) refl
    where
      quiet : after_mask k later told choice message (Bk a b to) ≡ s
      quiet = idle-mask k later told choice message (Bk a b to) refl (λ h y. refl) refl (λ h. refl) refl

      edge : (c : ℕ) → bit_and (only (field_value k later.engine a)) c ≡ only (field_value k later.engine a)
          → Leads (existing (keep_values s a c)) (after_mask k later told choice message (Bk a b to))
      edge c q = leads-path _ _ (quiet ∙ sym (keeps-mask a (tests-of a b to r) c q o)) filled

      small : b < 256
      small = let l = (operands (Bk a b to) r).1 in let m = limit-small a in omega (arith, l, m)

      go : (test : Bool) → has_value b (field_value k later.engine a) ≡ test
          → Leads (if test then existing (keep_values s a b) else existing (lose_values s a b))
          (after_mask k later told choice message (Bk a b to))
      go true i = edge b (keeps (field_value k later.engine a) b i)
      go false i = edge (255 - b) (loses (field_value k later.engine a) b (value-small a) small i)
