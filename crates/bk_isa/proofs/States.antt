-- States and their codes.
use Rattle.std.proofs.Common.{◌≡◌, ℕ, ◌<◌, Bool, true, false, eqb, refl, inl, inr}
use Rattle.std.specs.Prelude.{◌&&◌, not}
use Rattle.std.proofs.lemmas.Bool.{eqb-true, and_parts, agree_below_at, cases_Bool, ltb-true}
use Rattle.bk_base.specs.declared.coh.Coh.{Coh}
use Rattle.bk_base.specs.declared.coh.Coh.TheVariants.{I, S, E, F, M, O}
use Rattle.bk_base.specs.States.{code_of}
use Rattle.bk_isa.specs.declared.table.Allowed.{Allowed}
use Rattle.bk_isa.specs.Table.{state, admits, all_states, valid_states, clean_states, granted_states, left_states, received_states}

pub state-code_of : (z : Coh) → state (code_of z) ≡ z
state-code_of I = refl
state-code_of S = refl
state-code_of E = refl
state-code_of F = refl
state-code_of M = refl
state-code_of O = refl

-- a number that the set admits and that is no state's code
abbrev is_off : Allowed → ℕ → Bool
is_off set v = admits set v && not (eqb (code_of (state v)) v)

code_if_on : (set : Allowed) (v : ℕ) → is_off set v ≡ false → admits set v ≡ true → code_of (state v) ≡ v
code_if_on set v on h =
    elim (cases_Bool (eqb (code_of (state v)) v)) [
      | inl e ↦ eqb-true _ _ e
      | inr e ↦ let off : is_off set v ≡ true = rw (h, e) refl in absurd cc
    ]

pub code_of-all_states : (allowed : Allowed) (v : ℕ) → allowed ≡ all_states → admits allowed v ≡ true → code_of (state v) ≡ v
code_of-all_states allowed v is h =
    let admitted : admits all_states v ≡ true = rw is at h in
    let small : v < 32 = ltb-true v 32 (and_parts _ _ admitted).0 in
    code_if_on all_states v (agree_below_at (is_off all_states) (λ _. false) 32 v refl small) admitted

pub code_of-valid_states : (allowed : Allowed) (v : ℕ) → allowed ≡ valid_states → admits allowed v ≡ true
    → code_of (state v) ≡ v
code_of-valid_states allowed v is h =
    let admitted : admits valid_states v ≡ true = rw is at h in
    let small : v < 32 = ltb-true v 32 (and_parts _ _ admitted).0 in
    code_if_on valid_states v (agree_below_at (is_off valid_states) (λ _. false) 32 v refl small) admitted

pub code_of-clean_states : (allowed : Allowed) (v : ℕ) → allowed ≡ clean_states → admits allowed v ≡ true
    → code_of (state v) ≡ v
code_of-clean_states allowed v is h =
    let admitted : admits clean_states v ≡ true = rw is at h in
    let small : v < 32 = ltb-true v 32 (and_parts _ _ admitted).0 in
    code_if_on clean_states v (agree_below_at (is_off clean_states) (λ _. false) 32 v refl small) admitted

pub code_of-granted_states : (allowed : Allowed) (v : ℕ) → allowed ≡ granted_states → admits allowed v ≡ true
    → code_of (state v) ≡ v
code_of-granted_states allowed v is h =
    let admitted : admits granted_states v ≡ true = rw is at h in
    let small : v < 32 = ltb-true v 32 (and_parts _ _ admitted).0 in
    code_if_on granted_states v (agree_below_at (is_off granted_states) (λ _. false) 32 v refl small) admitted

pub code_of-left_states : (allowed : Allowed) (v : ℕ) → allowed ≡ left_states → admits allowed v ≡ true
    → code_of (state v) ≡ v
code_of-left_states allowed v is h =
    let admitted : admits left_states v ≡ true = rw is at h in
    let small : v < 32 = ltb-true v 32 (and_parts _ _ admitted).0 in
    code_if_on left_states v (agree_below_at (is_off left_states) (λ _. false) 32 v refl small) admitted

pub code_of-received_states : (allowed : Allowed) (v : ℕ) → allowed ≡ received_states → admits allowed v ≡ true
    → code_of (state v) ≡ v
code_of-received_states allowed v is h =
    let admitted : admits received_states v ≡ true = rw is at h in
    let small : v < 32 = ltb-true v 32 (and_parts _ _ admitted).0 in
    code_if_on received_states v (agree_below_at (is_off received_states) (λ _. false) 32 v refl small) admitted
