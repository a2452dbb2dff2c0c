-- Rows of the obligations, computed at single masks.
use Rattle.std.proofs.Common.{◌≡◌, true, false, length, refl}
use Rattle.bk_base.specs.declared.coh.Coh.TheVariants.{I, S, F, M, O}
use Rattle.bk_isa.specs.declared.form.Form.{Form}
use Rattle.bk_isa.specs.declared.form.Form.TheVariants.{Wfq, Bk, Wds, Stwb, Tr}
use Rattle.bk_know.specs.declared.sets.Sets.{Sets}
use Rattle.bk_know.specs.Sets.{idle_base as idle, held_base as held}
use Rattle.bk_check.specs.Obligations.{obligations, obligation_5, obligation_6, obligation_10, obligation_12, obligation_19, obligation_21}

-- there are nineteen obligations from the fifth on
obligation_count : (f : Form) (sets : Sets) → length (obligations f sets) ≡ 19
obligation_count f sets = refl

pair-met : obligation_19 (Tr O S) (record held { kind = 1; owner = 8 }) ≡ true
pair-met = refl

pair-turned : obligation_19 (Tr F S) (record held { kind = 1; owner = 8 }) ≡ false
pair-turned = refl

-- a paid debt is no state I
no-debt : obligation_21 (Wds 0 I) (record held { stage = 8; own = 2; dreq = 1 }) ≡ false
no-debt = refl

debt-paid : obligation_21 (Wds 0 M) (record held { stage = 8; own = 2; dreq = 16 }) ≡ true
debt-paid = refl

owner-debt : obligation_21 (Wds 1 I) (record held { stage = 8; down = 2 }) ≡ true
owner-debt = refl

owner-paid : obligation_21 (Wds 1 I) (record held { stage = 8; down = 1 }) ≡ false
owner-paid = refl

-- in Idle a wait is for responses and requests exactly
idle-classes : obligation_5 (Wfq 7) idle ≡ false
idle-classes = refl

held-waits : obligation_6 (Wfq 3) (record held { acks = 3; mem = 2 }) ≡ true
held-waits = refl

held-waits-for-nothing : obligation_6 (Wfq 3) (record held { acks = 3; mem = 4 }) ≡ false
held-waits-for-nothing = refl

own-before-sum : obligation_10 (Bk 6 1 0) (record held { summ = 2 }) ≡ false
own-before-sum = refl

own-of-sum : obligation_10 (Bk 6 1 0) (record held { summ = 4 }) ≡ true
own-of-sum = refl

victim-not-shared : obligation_12 (Stwb 2 S) (record held { victim = 2 }) ≡ false
victim-not-shared = refl
