-- Instructions that set a flag.
use Rattle.std.proofs.Common.{◌≡◌, ℕ, zero, suc, ◌<◌, ◌==◌, ◌&&◌, ◌||◌, Bool, true, false, not, refl, sym, ap, ◌∙◌, arith, List, length, Option, Some}
use Rattle.std.specs.Prelude.{nat_lt, slice_index_or, slice_set, if◌then◌else◌}
use Rattle.std.proofs.lemmas.Bool.{eqb-true, eqb-false}
use Rattle.std.proofs.lemmas.Bool.Decides.{nat_tests}
use Rattle.std.proofs.lemmas.List.{get_or-set_same, get_or-set_other}
use Rattle.bk_base.specs.Places.{Shape}
use Rattle.bk_isa.specs.declared.form.Form.{Form}
use Rattle.bk_isa.specs.declared.form.Form.TheVariants.{Sf, Cf, Nf, Movf, Andf, Orf}
use Rattle.bk_know.specs.declared.sets.Sets.{Sets}
use Rattle.bk_know.specs.Sets.{only}
use Rattle.bk_flow.specs.Flow.{with_flag, set_not, set_and, set_or}
use Rattle.bk_flow.specs.Flow as flow
use Rattle.bk_order.proofs.Leading.{leads-path}
use Rattle.bk_msg.specs.declared.row.Row.{Row}
use Rattle.bk_engine.specs.declared.parts.Choice.{Choice}
use Rattle.bk_engine.specs.declared.parts.Core.{Core}
use Rattle.bk_engine.specs.declared.parts.Held.{Held}
use Rattle.bk_engine.specs.Changes.{core_after, directory_after, directory_for_held, directory_for}
use Rattle.bk_engine.specs.Reads.{flag, number_of}
use Rattle.bk_system.specs.State.{State}
use Rattle.bk_machine.specs.Actions.{Idles}
use Rattle.bk_machine.specs.Transactions.{Transaction}
use Rattle.bk_bridge.specs.Acting.{action_of}
use Rattle.bk_exact.specs.Told.{Told}
use Rattle.bk_exact.specs.After.{action_at, served_action, deferred_after}
use Rattle.bk_exact.specs.Ties.{told_world}
use Rattle.bk_flows.proofs.Masks.{m, after_mask, Goal, beside, idle-mask}

-- a flag's set of one value
abbrev flag_set : Bool → ℕ
flag_set b = only (number_of b)

-- the mask with these flags
abbrev with_flags : Sets → List Bool → Sets
with_flags sets fs = record sets {
  f0 = flag_set (slice_index_or fs 0 false);
  f1 = flag_set (slice_index_or fs 1 false);
  f2 = flag_set (slice_index_or fs 2 false);
  f3 = flag_set (slice_index_or fs 3 false);
}

-- a flag of the engine is written, and so is the mask's
set-flag : (sets : Sets) (fs : List Bool) (a : ℕ) (b : Bool) → length fs ≡ 4 → a < 4
    → with_flags sets (slice_set fs a b) ≡ with_flag (with_flags sets fs) a (flag_set b)
set-flag sets fs a b l k =
    λ i. record sets {
      f0 = at 0 (omega arith) i;
      f1 = at 1 (omega arith) i;
      f2 = at 2 (omega arith) i;
      f3 = (at 3 (omega arith) ∙ last _ _) i;
    }
  where
    at : (j : ℕ) → j < 4 → flag_set (slice_index_or (slice_set fs a b) j false)
        ≡ (if a == j then flag_set b else flag_set (slice_index_or fs j false))
    at j m = go (a == j) refl
      where
        go : (c : Bool) → (a == j) ≡ c → flag_set (slice_index_or (slice_set fs a b) j false)
            ≡ (if c then flag_set b else flag_set (slice_index_or fs j false))
        go true i =
            ap (λ (c : ℕ). flag_set (slice_index_or (slice_set fs c b) j false)) (eqb-true a j i)
            ∙ ap flag_set (get_or-set_same fs j b false (omega (arith, l)))
        go false i = ap flag_set (get_or-set_other fs a j b false (λ z. eqb-false a j i (sym z)))

    last : (n y : ℕ) → (if a == 3 then n else y) ≡ (if nat_lt a 3 then y else n)
    last n y = grind (arith, nat_tests)

-- the flag that is read
read-flag : (sets : Sets) (fs : List Bool) (a : ℕ) → a < 4 → flow.flag (with_flags sets fs) a ≡ flag_set (slice_index_or fs a false)
read-flag sets fs zero k = refl
read-flag sets fs (suc zero) k = refl
read-flag sets fs (suc (suc zero)) k = refl
read-flag sets fs (suc (suc (suc zero))) k = refl
read-flag sets fs (suc (suc (suc (suc a)))) k = absurd (omega (arith, k))

-- of sets of one value the results are sets of one value
not-exact : (b : Bool) → flag_set (not b) ≡ set_not (flag_set b)
not-exact true = refl
not-exact false = refl

and-exact : (a b : Bool) → flag_set (a && b) ≡ set_and (flag_set a) (flag_set b)
and-exact true true = refl
and-exact true false = refl
and-exact false true = refl
and-exact false false = refl

or-exact : (a b : Bool) → flag_set (a || b) ≡ set_or (flag_set a) (flag_set b)
or-exact true true = refl
or-exact true false = refl
or-exact false true = refl
or-exact false false = refl

module _ (k : Shape) (later : State) (told : Told) (choice : Choice) (message : Option Row)
    (flags : length later.engine.core.flags ≡ 4) where
  abbrev e : Core
  e = later.engine.core

  abbrev s : Sets
  s = m k later told choice message

  abbrev goal : Form → Type 0
  goal = Goal k later told choice message

  -- the mask after an instruction that writes one flag
  set-mask : (f : Form) (a : ℕ) (b : Bool) → action_at k e (told_world k later told) f
      ≡ served_action k e e.held told.transaction (told_world k later told) f
      → ((h : Held) (x : Transaction) → action_of k e h x (told_world k later told) f ≡ Some Idles)
      → directory_after k later.engine f ≡ directory_for_held k later.engine.directory e.held f
      → ((h : Held) → directory_for k later.engine.directory h f ≡ later.engine.directory)
      → (p : ℕ) → core_after k later.engine f choice message ≡ record e { flags = slice_set e.flags a b; place = p }
      → deferred_after k e f told.deferred ≡ told.deferred → a < 4
      → after_mask k later told choice message f ≡ with_flag s a (flag_set b)
  set-mask f a b i j d q p c u l =
      idle-mask k later told choice message f i j d q (ap (λ (core : Core). core.held) c)
      ∙ (λ z. beside k later told choice message (c z) (u z))
      ∙ set-flag s e.flags a b flags l

  pub leads-sf : (a : ℕ) → a < 4 → goal (Sf a)
  leads-sf a l = leads-path _ _ (set-mask (Sf a) a true refl (λ h x. refl) refl (λ h. refl) _ refl refl l)

  pub leads-cf : (a : ℕ) → a < 4 → goal (Cf a)
  leads-cf a l = leads-path _ _ (set-mask (Cf a) a false refl (λ h x. refl) refl (λ h. refl) _ refl refl l)

  pub leads-nf : (a : ℕ) → a < 4 → goal (Nf a)
  leads-nf a l =
      leads-path _ _
      (set-mask (Nf a) a (not (flag e a)) refl (λ h x. refl) refl (λ h. refl) _ refl refl l
      ∙ ap (with_flag s a) (not-exact (flag e a) ∙ ap set_not (sym (read-flag s e.flags a l))))

  pub leads-movf : (a b : ℕ) → a < 4 → b < 4 → goal (Movf a b)
  leads-movf a b l j =
      leads-path _ _
      (set-mask (Movf a b) a (flag e b) refl (λ h x. refl) refl (λ h. refl) _ refl refl l
      ∙ ap (with_flag s a) (sym (read-flag s e.flags b j)))

  pub leads-andf : (a b : ℕ) → a < 4 → b < 4 → goal (Andf a b)
  leads-andf a b l j =
      leads-path _ _
      (set-mask (Andf a b) a (flag e a && flag e b) refl (λ h x. refl) refl (λ h. refl) _ refl refl l
      ∙ ap (with_flag s a) (and-exact (flag e a) (flag e b)
      ∙ (λ i. set_and (sym (read-flag s e.flags a l) i) (sym (read-flag s e.flags b j) i))))

  pub leads-orf : (a b : ℕ) → a < 4 → b < 4 → goal (Orf a b)
  leads-orf a b l j =
      leads-path _ _
      (set-mask (Orf a b) a (flag e a || flag e b) refl (λ h x. refl) refl (λ h. refl) _ refl refl l
      ∙ ap (with_flag s a) (or-exact (flag e a) (flag e b)
      ∙ (λ i. set_or (sym (read-flag s e.flags a l) i) (sym (read-flag s e.flags b j) i))))
