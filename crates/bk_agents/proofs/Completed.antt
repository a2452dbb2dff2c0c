-- How many operations a cache has in the history, where one more has completed or none.
use Rattle.std.proofs.Common.{◌≡◌, ℕ, ◌+◌, Bool, true, false, cond, eqb, refl, sym, ap, ◌∙◌, List, [], ◌∷◌, ◌++◌, length, length-append, Option, Some, None, option_to_list, append-nil, eq-eqb, ne_eqb}
use Rattle.bk_base.specs.declared.op.Op.{Op}
use Rattle.bk_base.specs.declared.op.Done.{Done}
use Rattle.bk_system.specs.Runs.{completed_by}
use Rattle.bk_agents.proofs.Own.{CompletesOwn}

completed-joined : (c : ℕ) (xs ys : List Done) → completed_by c (xs ++ ys) ≡ completed_by c xs ++ completed_by c ys
completed-joined c [] ys = refl
completed-joined c (done ∷ xs) ys =
    ap (λ (ops : List Op). cond (eqb done.cache c) (done.op ∷ ops) ops) (completed-joined c xs ys) ∙ go (eqb done.cache c)
  where
    go : (b : Bool) → cond b (done.op ∷ (completed_by c xs ++ completed_by c ys)) (completed_by c xs ++ completed_by c ys)
        ≡ cond b (done.op ∷ completed_by c xs) (completed_by c xs) ++ completed_by c ys
    go true = refl
    go false = refl

-- the cache that completes it has one more
own-one : (c : ℕ) (o : Option Done) → CompletesOwn c o → length (completed_by c (option_to_list o)) ≡ length (option_to_list o)
own-one c None own = refl
own-one c (Some done) own = ap (λ (b : Bool). length (cond b (done.op ∷ []) [])) (eq-eqb done.cache c own)

pub completed-own : (c : ℕ) (history : List Done) (o : Option Done) → CompletesOwn c o
    → length (completed_by c (history ++ option_to_list o)) ≡ length (completed_by c history) + length (option_to_list o)
completed-own c history o own =
    ap length (completed-joined c history (option_to_list o))
    ∙ length-append (completed_by c history) (completed_by c (option_to_list o))
    ∙ ap (λ (n : ℕ). length (completed_by c history) + n) (own-one c o own)

-- any other as many as before
other-none : (c n : ℕ) (o : Option Done) → CompletesOwn c o → (n ≡ c → ⊥) → completed_by n (option_to_list o) ≡ []
other-none c n None own other = refl
other-none c n (Some done) own other =
    ap (λ (b : Bool). cond b (done.op ∷ []) []) (ne_eqb done.cache n (λ e. other (sym e ∙ own)))

pub completed-other : (c n : ℕ) (history : List Done) (o : Option Done) → CompletesOwn c o → (n ≡ c → ⊥)
    → completed_by n (history ++ option_to_list o) ≡ completed_by n history
completed-other c n history o own other =
    completed-joined n history (option_to_list o)
    ∙ ap (λ (ops : List Op). completed_by n history ++ ops) (other-none c n o own other)
    ∙ append-nil (completed_by n history)
