-- The heads that were had already are among those that are counted.
use Rattle.std.proofs.Common.{◌≡◌, ℕ, suc, ◌+◌, ◌*◌, ◌<◌, ◌≤◌, ◌==◌, Bool, true, false, cond, refl, sym, ap, ◌∙◌, subst, arith, List, [], ◌∷◌, length, Option, Some, None, IfSome}
use Rattle.std.specs.Prelude.{not, is_some, if◌then◌else◌}
use Rattle.std.specs.List.{filter_map, cons_option}
use Rattle.std.proofs.Math.Nat.{mul-le-mul_left}
use Rattle.bk_base.specs.Places.{Shape, InProfile}
use Rattle.bk_msg.specs.declared.row.Row.{Row}
use Rattle.bk_msg.specs.declared.row.Network.TheVariants as networks
use Rattle.bk_engine.specs.declared.parts.Choice.{Choice}
use Rattle.bk_engine.specs.declared.parts.Head.{Head}
use Rattle.bk_engine.specs.declared.parts.TheConstants.{CLASS_RESPONSE, CLASS_MEMORY, CLASS_REQUEST}
use Rattle.bk_system.specs.State.{State}
use Rattle.bk_system.specs.Events.{first, offered_head}
use Rattle.bk_machine.specs.Invariant.{is_free}
use Rattle.bk_machine.specs.Messages.{Request, Response}
use Rattle.bk_machine.specs.Phases.{Phase, Free, Open, Flying, Settling, responses_of}
use Rattle.bk_machine.specs.Products.{as_request, as_response, as_block}
use Rattle.bk_machine.specs.Transactions.{Transaction}
use Rattle.bk_machine.specs.World.{World, of_group}
use Rattle.bk_machine.proofs.Collectable.{collectable}
use Rattle.bk_machine.proofs.Opened.{opened}
use Rattle.bk_machine.proofs.Spoken.{spoken}
use Rattle.bk_machine.proofs.View.{of_group-head}
use Rattle.bk_bridge.specs.Formed.{AreOf}
use Rattle.bk_bridge.specs.Fronts.{IsFront}
use Rattle.bk_exact.specs.Told.{Told, Deferred}
use Rattle.bk_exact.specs.Exact.{exact}
use Rattle.bk_exact.specs.Agrees.{IsLeft, LeavesDeferred}
use Rattle.bk_exact.specs.Ties.{Tied, told_world}
use Rattle.bk_bound.proofs.Sums.{sum-has}
use Rattle.bk_bound.proofs.Counted.{number_in, heads_counted, heads_had}
use Rattle.bk_bound.proofs.Due.{heads_due}
use Rattle.bk_bound.proofs.Inside.{Inside, told-inside}
use Rattle.bk_bound.proofs.WorldCounts.{waiting_requests, pending_groups, open_acks}

-- a value that is there
there : {X : Type 0} (o : Option X) → is_some o ≡ true → (y : X) × (o ≡ Some y)
there None e = absurd (cc)
there (Some y) e = (y, refl)

-- the first of a list
first-of : (ms : List Row) (m : Row) → first ms ≡ Some m → (rest : List Row) × (ms ≡ m ∷ rest)
first-of [] m e = absurd (cc)
first-of (h ∷ ms) m e = (ms, ap (λ (y : Row). y ∷ ms) (same e))
  where
    same : ◌≡◌ {A = Option Row} (Some h) (Some m) → h ≡ m
    same e = cc

machine-head : {X : Type 0} (h : Row → Option X) (ms : List Row) (m : Row) (rest : List Row) (y : X) → ms ≡ m ∷ rest
    → h m ≡ Some y → filter_map h ms ≡ y ∷ filter_map h rest
machine-head {X} h ms m rest y e i = ap (filter_map h) e ∙ ap (λ (o : Option X). cons_option o (filter_map h rest)) i

-- while a response is under way its group isn't free
response-busy : (p : Phase) (c : ℕ) (r : Response) (rest : List Response) → responses_of p c ≡ r ∷ rest → is_free p ≡ false
response-busy Free c r rest e = absurd (cc)
response-busy (Open o b flush acks) c r rest e = refl
response-busy (Flying o b fill) c r rest e = refl
response-busy (Settling o t) c r rest e = refl

module _ (k : Shape) (s : State) (told : Told) (profile : InProfile k) (tied : Tied k s told) where
  abbrev world : World
  world = told_world k s told

  inside : Inside k world
  inside = told-inside k s told profile tied

  -- A group that is pending counts 2, and a request at least 1.
  by-group : (g : ℕ) → world.pending g ≡ true → g < k.sets → (n : ℕ) → n ≤ 2 → n ≤ heads_counted k s told
  by-group g e l n few =
      num ((k.caches + 7) * waiting_requests k world) (cond (world.pending g) 1 0) (pending_groups k world) (open_acks k world)
      (heads_due (exact k s.engine told)) (sum-has k.sets g (λ i. cond (world.pending i) 1 0) l) (ap (λ (b : Bool). cond b 1 0) e) few
    where
      num : (a i b c d : ℕ) → i ≤ b → i ≡ 1 → n ≤ 2 → n ≤ a + 2 * b + c + d
      num a i b c d l e few = omega (arith, l, e, few)

  by-request : (c : ℕ) (y : ℕ × Request) (rest : List (ℕ × Request)) → world.request c ≡ y ∷ rest
      → 1 ≤ heads_counted k s told
  by-request c y rest e =
      last ((k.caches + 7) * waiting_requests k world) ((k.caches + 7) * 1) (pending_groups k world) (open_acks k world)
      (heads_due (exact k s.engine told))
      (mul-le-mul_left (k.caches + 7)
      (num (length (world.request c)) (waiting_requests k world) (length rest)
      (sum-has k.caches c (λ i. length (world.request i)) (inside.request c y rest e).0)
      (ap (λ (xs : List (ℕ × Request)). length xs) e)))
      (seven k.caches)
    where
      num : (a b i : ℕ) → a ≤ b → a ≡ suc i → 1 ≤ b
      num a b i l e = omega (arith, l, e)

      seven : (c : ℕ) → 1 ≤ (c + 7) * 1
      seven c = omega arith

      last : (a i b c d : ℕ) → i ≤ a → 1 ≤ i → 1 ≤ a + 2 * b + c + d
      last a i b c d l q = omega (arith, l, q)

  -- THE HEAD stands first in its channel: of the responses, of the memory's answers or of the requests
  of-response : (c : ℕ) (m : Row) → first (s.response c) ≡ Some m → 1 ≤ heads_counted k s told
  of-response c m e =
      let r = first-of (s.response c) m e in
      let y = there (as_response k m) ((spoken k m).response (subst (AreOf networks.Response) r.1 (tied.formed.response c)).0.is) in
      let h = machine-head (as_response k) (s.response c) m r.0 y.0 r.1 y.1 in
      let busy = response-busy (tied.invariant.groups y.0.0).0 c y.0.1 (of_group y.0.0 (filter_map (as_response k) r.0))
      (sym ((tied.invariant.groups y.0.0).1.responses c)
      ∙ of_group-head y.0.0 (world.response c) (filter_map (as_response k) r.0) y.0.1 h) in
      by-group y.0.0 ((tied.invariant.groups y.0.0).1.pending ∙ ap (λ (b : Bool). not b) busy)
      (inside.response c y.0 (filter_map (as_response k) r.0) h) 1 (omega arith)

  -- while a block is awaited its group isn't free
  awaits-busy : (g : ℕ) (x : Transaction) → world.transaction ≡ Some (g, x) → x.granted ≡ false
      → is_free (tied.invariant.groups g).0 ≡ false
  awaits-busy g x is ungranted = ap is_free (opened k world tied.invariant g x is ungranted).is

  of-memory : (m : Row) → first s.memin ≡ Some m → 1 ≤ heads_counted k s told
  of-memory m e =
      let r = first-of s.memin m e in
      let y = there (as_block k m) ((spoken k m).memin (subst (AreOf networks.Memin) r.1 tied.formed.memin).0.is) in
      let h = machine-head (as_block k) s.memin m r.0 y.0 r.1 y.1 in
      let x = (collectable world tied.invariant.groups).block y.0.0 y.0.1 (filter_map (as_block k) r.0) h in
      let busy : is_free (tied.invariant.groups y.0.0).0 ≡ false =
      ap is_free (opened k world tied.invariant y.0.0 x.transaction x.is x.ungranted).is in
      by-group y.0.0 ((tied.invariant.groups y.0.0).1.pending ∙ ap (λ (b : Bool). not b) busy)
      (inside.memin y.0 (filter_map (as_block k) r.0) h) 1 (omega arith)

  of-request : (c : ℕ) (m : Row) → first (s.request c) ≡ Some m → 1 ≤ heads_counted k s told
  of-request c m e =
      let r = first-of (s.request c) m e in
      let y = there (as_request k m) ((spoken k m).request (subst (AreOf networks.Request) r.1 (tied.formed.request c)).0.is) in
      by-request c y.0 (filter_map (as_request k) r.0) (machine-head (as_request k) (s.request c) m r.0 y.0 r.1 y.1)

  of-offered : (choice : Choice) (m : Row) → offered_head s choice ≡ Some m → 1 ≤ heads_counted k s told
  of-offered choice m e =
      go (choice.class == CLASS_RESPONSE) (choice.class == CLASS_MEMORY) (choice.source == 0) (choice.class == CLASS_REQUEST) e
    where
      go : (a b c d : Bool)
          → (
          if a then first (s.response choice.source)
          else if b then (if c then first s.memin else None)
          else if d then first (s.request choice.source)
          else None
          ) ≡ Some m → 1 ≤ heads_counted k s told
      go true b c d e = of-response choice.source m e
      go false true true d e = of-memory m e
      go false true false d e = absurd (cc)
      go false false c true e = of-request choice.source m e
      go false false c false e = absurd (cc)

  -- the group of a request that was deferred is pending, and counts for the head too
  of-deferred : (d : Deferred) → IsLeft world d → (n : ℕ) → n ≤ 2 → n ≤ heads_counted k s told
  of-deferred d left n l =
      by-group d.group left.pending (inside.request d.cache (d.group, left.request) left.rest left.first).1 n l

  pub had-counted : heads_had s told ≤ heads_counted k s told
  had-counted = go s.engine.core.head told.deferred tied.front tied.left
    where
      go : (o : Option Head) (d : Option Deferred) → IfSome o (IsFront k s) → LeavesDeferred world d
          → number_in o + number_in d ≤ heads_counted k s told
      go None None front left = omega arith
      go (Some h) None front left = of-offered h.choice h.message front.first
      go None (Some d) front left = of-deferred d left 1 (omega arith)
      go (Some h) (Some d) front left = of-deferred d left 2 (omega arith)
