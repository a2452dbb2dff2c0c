-- Kinds and states, and their numbers.
use Rattle.std.proofs.Common.{◌≡◌, ℕ, Bool, true, false, cond, eqb, List, [], ◌∷◌, Option, Some, None, refl, subst}
use Rattle.std.proofs.lemmas.Bool.{eqb-true}
use Rattle.bk_base.specs.declared.coh.Coh.{Coh}
use Rattle.bk_base.specs.declared.coh.Coh.TheVariants.{I, S, E, F, M, O}
use Rattle.bk_base.specs.States.{code_of, state_of_code}
use Rattle.bk_msg.specs.declared.kind.Kind.{Kind}
use Rattle.bk_msg.specs.declared.kind.Kind.TheVariants.{Rd, Wr, UcRd, UcWr, Evict, Inv, StWb, StTr, Blk, StWake, UcBlk, UcDone, Done, Fill, InvAck, CohAck, Wb, NullWb, Read, Write, WriteWord, Block}
use Rattle.bk_msg.specs.Kinds.{kind_code, kinds, with_code, kind_of_code}

-- The 22 numbers differ, so the search through the list of kinds passes all the kinds before and stops at this one: each is computed.
pub kind_again : (kind : Kind) → kind_of_code (kind_code kind) ≡ Some kind
kind_again Rd = refl
kind_again Wr = refl
kind_again UcRd = refl
kind_again UcWr = refl
kind_again Evict = refl
kind_again Inv = refl
kind_again StWb = refl
kind_again StTr = refl
kind_again Blk = refl
kind_again StWake = refl
kind_again UcBlk = refl
kind_again UcDone = refl
kind_again Done = refl
kind_again Fill = refl
kind_again InvAck = refl
kind_again CohAck = refl
kind_again Wb = refl
kind_again NullWb = refl
kind_again Read = refl
kind_again Write = refl
kind_again WriteWord = refl
kind_again Block = refl

found_here : (test : Bool) (n : ℕ) (j kind : Kind) (others : Option Kind) → (test ≡ true → n ≡ kind_code j)
    → (others ≡ Some kind → n ≡ kind_code kind) → cond test (Some j) others ≡ Some kind → n ≡ kind_code kind
found_here true n j kind others here later e = let same : j ≡ kind = cc in subst (λ (x : Kind). n ≡ kind_code x) same (here refl)
found_here false n j kind others here later e = later e

found_in : (n : ℕ) (ks : List Kind) (kind : Kind) → with_code n ks ≡ Some kind → n ≡ kind_code kind
found_in n [] kind e = absurd cc
found_in n (j ∷ js) kind e =
    found_here (eqb n (kind_code j)) n j kind (with_code n js) (λ h. eqb-true _ _ h) (λ h. found_in n js kind h) e

-- a kind that is found has the number
pub kind_found : (n : ℕ) (kind : Kind) → kind_of_code n ≡ Some kind → n ≡ kind_code kind
kind_found n kind e = found_in n kinds kind e

state_here : (test : Bool) (n : ℕ) (j y : Coh) (others : Option Coh) → (test ≡ true → n ≡ code_of j)
    → (others ≡ Some y → n ≡ code_of y)
    → cond test (Some j) others ≡ Some y → n ≡ code_of y
state_here true n j y others here later e = let same : j ≡ y = cc in subst (λ (state : Coh). n ≡ code_of state) same (here refl)
state_here false n j y others here later e = later e

-- a state that is found has the code
pub state_found : (n : ℕ) (y : Coh) → state_of_code n ≡ Some y → n ≡ code_of y
state_found n y e =
    state_here (eqb n 0) n I y _ (λ h. eqb-true _ _ h)
    (state_here (eqb n 1) n S y _ (λ h. eqb-true _ _ h)
    (state_here (eqb n 2) n E y _ (λ h. eqb-true _ _ h)
    (state_here (eqb n 3) n F y _ (λ h. eqb-true _ _ h)
    (state_here (eqb n 6) n M y _ (λ h. eqb-true _ _ h)
    (state_here (eqb n 7) n O y None (λ h. eqb-true _ _ h) (λ h. absurd cc)))))) e

pub state_again : (y : Coh) → state_of_code (code_of y) ≡ Some y
state_again I = refl
state_again S = refl
state_again E = refl
state_again F = refl
state_again M = refl
state_again O = refl
