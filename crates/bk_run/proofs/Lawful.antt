-- The operations of a list of enabled events that has each cache issue those of a trace in order are each at the address of a word.
use Rattle.std.proofs.Common.{◌≡◌, ℕ, zero, suc, ◌<◌, ◌==◌, Bool, true, false, ◌&&◌, refl, subst, arith, List, [], ◌∷◌, ◌++◌, Some, slice_get}
use Rattle.std.specs.Prelude.{if◌then◌else◌, IsTrue, is_some, nat_lt}
use Rattle.std.specs.List.{All}
use Rattle.std.proofs.lemmas.Bool.{and_parts, eq-eqb, ltb-true}
use Rattle.bk_base.specs.Places.{IsAddr, Shape}
use Rattle.bk_base.specs.declared.op.Op.{Op}
use Rattle.bk_base.specs.declared.op.Op.TheVariants.{Load, Store, UcLoad, UcStore, Evict}
use Rattle.bk_isa.specs.declared.form.Form.{Form}
use Rattle.bk_trace.specs.Traces.{operations_of, IsOp, IsLine}
use Rattle.bk_lce.specs.CacheTable.{address_of, issue}
use Rattle.bk_system.specs.declared.event.Event.{Event}
use Rattle.bk_system.specs.declared.event.Event.TheVariants as events
use Rattle.bk_system.specs.Lawful.{AreLawful}
use Rattle.bk_system.specs.Events.{issue_taken}
use Rattle.bk_system.specs.State.{State, opening}
use Rattle.bk_system.specs.Runs.{after, is_enabled, issued_by, IsPrefix, IsTightFrom, IsTight, IsInOrder}
use Rattle.bk_run.proofs.Tight.{taken-some, is_some-if}

first-of : {X : Type 0} (P : X → Type 0) (x : X) (xs : List X) → All P (x ∷ xs) → P x
first-of P x xs h = h 0 x (omega arith)

rest-of : {X : Type 0} (P : X → Type 0) (x : X) (xs : List X) → All P (x ∷ xs) → All P xs
rest-of P x xs h = λ i d l. h (suc i) d (omega arith)

op-addressed : (op : Op) → IsOp op → IsAddr (address_of op)
op-addressed (Load addr) h = h
op-addressed (Store addr value) h = h.0
op-addressed (UcLoad addr) h = h
op-addressed (UcStore addr value) h = h.0
op-addressed (Evict addr) h = h

-- each operation of a cache in a trace's lines
addressed : (n c : ℕ) (lines : List (ℕ × Op)) → All (IsLine n) lines → (i : ℕ) (op : Op)
    → slice_get (operations_of c lines) i ≡ Some op
    → IsAddr (address_of op)
addressed n c [] h zero op e = absurd (cc)
addressed n c [] h (suc i) op e = absurd (cc)
addressed n c (line ∷ lines) h i op e = go (line.0 == c) i e (λ j. addressed n c lines (rest-of (IsLine n) line lines h) j op)
  where
    here : line.1 ≡ op → IsAddr (address_of op)
    here f = subst (λ (o : Op). IsAddr (address_of o)) f (op-addressed line.1 (first-of (IsLine n) line lines h).op)

    go : (b : Bool) (i : ℕ) → slice_get (if b then line.1 ∷ operations_of c lines else operations_of c lines) i ≡ Some op
        → ((j : ℕ) → slice_get (operations_of c lines) j ≡ Some op → IsAddr (address_of op)) → IsAddr (address_of op)
    go true zero f later = here (cc)
    go true (suc i) f later = later i f
    go false i f later = later i f

-- an Issue that is enabled is given to a cache that there is
pub issue-cache : (k : Shape) (program : List Form) (s : State) (c way : ℕ) (op : Op)
    → IsTrue (is_enabled k program s (events.Issue c way op)) → c < k.caches
issue-cache k program s c way op enabled =
    let taken : IsTrue (is_some (issue_taken k s c op way)) =
    subst (λ (b : Bool). IsTrue b) (taken-some s c (issue_taken k s c op way)) enabled in
    let parts = is_some-if (nat_lt c k.caches && nat_lt way k.ways) (issue k (s.caches c) c op way) taken in
    ltb-true c k.caches (and_parts (nat_lt c k.caches) (nat_lt way k.ways) parts.0).0

-- what stands in a list stands there in one that goes on behind it
get-before : (xs more : List Op) (i : ℕ) (op : Op) → slice_get xs i ≡ Some op → slice_get (xs ++ more) i ≡ Some op
get-before [] more zero op e = absurd (cc)
get-before [] more (suc i) op e = absurd (cc)
get-before (x ∷ xs) more zero op e = e
get-before (x ∷ xs) more (suc i) op e = get-before xs more i op e

-- each operation that a cache issues is at the address of a word
abbrev AreAddressed : Shape → List Event → Type 0
AreAddressed k es = (c i : ℕ) (op : Op) → c < k.caches → slice_get (issued_by c es) i ≡ Some op → IsAddr (address_of op)

-- so each of the events is lawful
issued-lawful : (k : Shape) (program : List Form) (s : State) (es : List Event) → IsTightFrom k program s es → AreAddressed k es
    → AreLawful es
issued-lawful k program s [] tight h = tt
issued-lawful k program s (events.Issue c way op ∷ es) tight h = (
  h c 0 op (issue-cache k program s c way op tight.0) (rw (eq-eqb c c refl) refl),
  issued-lawful k program (after k program s (events.Issue c way op)) es tight.1
      (λ at i other l e. behind other (c == at) (issued_by at es) (λ j. h at j other l) i e),
)
  where
    behind : (other : Op) (b : Bool) (ops : List Op)
        → ((i : ℕ) → slice_get (if b then op ∷ ops else ops) i ≡ Some other → IsAddr (address_of other))
        → (i : ℕ) → slice_get ops i ≡ Some other → IsAddr (address_of other)
    behind other true ops each i e = each (suc i) e
    behind other false ops each i e = each i e
issued-lawful k program s (events.Command c ∷ es) tight h =
    (tt, issued-lawful k program (after k program s (events.Command c)) es tight.1 h)
issued-lawful k program s (events.Fill to from ∷ es) tight h =
    (tt, issued-lawful k program (after k program s (events.Fill to from)) es tight.1 h)
issued-lawful k program s (events.Memory ∷ es) tight h =
    (tt, issued-lawful k program (after k program s events.Memory) es tight.1 h)
issued-lawful k program s (events.Engine choice ∷ es) tight h =
    (tt, issued-lawful k program (after k program s (events.Engine choice)) es tight.1 h)

-- where each event was enabled and each cache issues its operations of the trace in order, each is lawful
pub in_order-lawful : (k : Shape) (program : List Form) (lines : List (ℕ × Op)) (es : List Event) → All (IsLine k.caches) lines
    → IsTight k program es → IsInOrder k lines es → AreLawful es
in_order-lawful k program lines es h tight in_order =
    issued-lawful k program (opening k) es tight (λ c i op l e. found c i op (in_order c l) e)
  where
    found : (c i : ℕ) (op : Op) → IsPrefix (issued_by c es) (operations_of c lines) → slice_get (issued_by c es) i ≡ Some op
        → IsAddr (address_of op)
    found c i op prefix e =
        addressed k.caches c lines h i op
        (subst (λ (ops : List Op). slice_get ops i ≡ Some op) prefix.1 (get-before (issued_by c es) prefix.0 i op e))
