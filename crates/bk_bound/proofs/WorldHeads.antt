-- What a permitted action takes of the heads that a state of the machine has still to come: it adds none.
use Rattle.std.proofs.Common.{◌≡◌, ℕ, ◌+◌, ◌*◌, ◌<◌, ◌≤◌, Bool, true, false, cond, refl, sym, ap, ◌∙◌, arith, List, ◌∷◌, ◌++◌, length, Some}
use Rattle.std.specs.Prelude.{not}
use Rattle.bk_base.specs.Places.{Shape}
use Rattle.bk_base.specs.Tables.{put}
use Rattle.bk_base.specs.declared.coh.Coh.{Coh}
use Rattle.bk_base.specs.declared.coh.Coh.TheVariants.{I}
use Rattle.bk_machine.specs.Actions.{Action, Takes, Settles, CollectsAck, CollectsAnswer, CollectsBlock, Invalidates, FlushesVictim, FlushesOwn, FlushesOwner, WritesBack, ReadsMemory, WritesWord, GrantsByBlock, GrantsByWake, GrantsByTransfer, AnswersWord, AnswersStore, AnswersEvict, PaysRequester, PaysOwner, Finishes, Idles, Permitted, Ungranted, action_after, with_flush}
use Rattle.bk_machine.specs.Entries.{Entry, Holds}
use Rattle.bk_machine.specs.Invariant.{Invariant, is_free}
use Rattle.bk_machine.specs.Messages.{Request, Response, CohAck, request_tag, request_way}
use Rattle.bk_machine.specs.Phases.{Phase, Free, Open, Flying, Settling, responses_of}
use Rattle.bk_machine.specs.Readings.{AcksFall, acks_left}
use Rattle.bk_machine.specs.Transactions.{Transaction, Idle, ReadAsked, Got, remove_one, write_back_after}
use Rattle.bk_machine.specs.World.{World, of_group}
use Rattle.bk_machine.proofs.Allowed.{Allowed}
use Rattle.bk_machine.proofs.Fall.{acks_fall}
use Rattle.bk_machine.proofs.Permits.{permitted_allowed}
use Rattle.bk_machine.proofs.View.{of_group-head, put-here, put-other}
use Rattle.bk_bound.proofs.Sums.{sum_below, sum-one, sum-more}
use Rattle.bk_bound.proofs.Channels.{one-less}
use Rattle.bk_bound.proofs.Inside.{Inside}
use Rattle.bk_bound.proofs.WorldCounts.{waiting_requests, pending_groups, acks_for, open_acks, heads_of, heads_taken}

-- the three parts of `heads_of`
parts-fall : (c a b d i j l n : ℕ) → i ≡ a → j ≡ b → l + n ≤ d → c * i + 2 * j + l + n ≤ c * a + 2 * b + d
parts-fall c a b d i j l n p q r = num (c * i) (c * a) (ap (λ (o : ℕ). c * o) p) q r
  where
    num : (u v : ℕ) → u ≡ v → j ≡ b → l + n ≤ d → u + 2 * j + l + n ≤ v + 2 * b + d
    num u v p q r = omega (arith, p, q, r)

-- a number of times one less
pub times-less : (c a i : ℕ) → i + 1 ≡ a → c * a ≡ c * i + c
times-less c a i e = ap (λ (o : ℕ). c * o) (sym e) ∙ spread c i
  where
    spread : (c i : ℕ) → c * (i + 1) ≡ c * i + c
    spread c i = omega arith

-- while a CohAck is under way its group isn't free
ack-busy : (p : Phase) (c t : ℕ) (rest : List Response) → responses_of p c ≡ CohAck t ∷ rest → is_free p ≡ false
ack-busy Free c t rest e = absurd (cc)
ack-busy (Open r b flush acks) c t rest e = refl
ack-busy (Flying r b fill) c t rest e = refl
ack-busy (Settling r u) c t rest e = refl

-- a number that doesn't count once the request is granted
pub open-is : (b : Bool) (n : ℕ) → b ≡ false → cond b 0 n ≡ n
open-is true n e = absurd (cc)
open-is false n e = refl

pub closed-is : (b : Bool) (n : ℕ) → b ≡ true → cond b 0 n ≡ 0
closed-is true n e = refl
closed-is false n e = absurd (cc)

module _ (k : Shape) (world : World) (inv : Invariant k world) (inside : Inside k world) where
  abbrev falls : AcksFall k world
  falls = acks_fall k world inv

  -- what an action owes
  abbrev Fall : ℕ → Action → Type 0
  Fall g a = Permitted k g a world → heads_of k (action_after g a world) + heads_taken a ≤ heads_of k world

  -- the acks that may come for the transaction that there is
  acks-is : (g : ℕ) (x : Transaction) → world.transaction ≡ Some (g, x)
      → open_acks k world ≡ acks_for k world.directory (Some (g, x))
  acks-is g x e = ap (acks_for k world.directory) e

  left-is : (g : ℕ) (x : Transaction) → world.transaction ≡ Some (g, x) → x.granted ≡ false
      → open_acks k world ≡ acks_left k (world.directory g) x.cache (request_tag x.request) x.waiting
  left-is g x e ungranted = acks-is g x e ∙ open-is x.granted _ ungranted

  -- TAKE: caches + 7 for a request less, 2 for its group and caches - 1 acks more, and 6 with the mask
  take-falls : (g c : ℕ) (q : Request) (rest : List (ℕ × Request)) → Fall g (Takes c q rest)
  take-falls g c q rest p =
      num ((k.caches + 7) * waiting_requests k world) ((k.caches + 7) * waiting_requests k later) (pending_groups k world)
      (pending_groups k later) (open_acks k world) (open_acks k later) k.caches
      (times-less (k.caches + 7) (waiting_requests k world) (waiting_requests k later)
      (one-less k.caches world.request c (g, q) rest p.1 here)) groups acks
    where
      later : World
      later = action_after g (Takes c q rest) world

      here : c < k.caches
      here = (inside.request c (g, q) rest p.1).0

      groups : pending_groups k later ≤ pending_groups k world + 1
      groups =
          sum-more k.sets g 1 (λ i. cond (world.pending i) 1 0) (λ i. cond (put world.pending g true i) 1 0)
          (λ i n. ap (λ (b : Bool). cond b 1 0) (put-other world.pending g i true n)) (one (world.pending g) (put world.pending g true g))
        where
          one : (a b : Bool) → cond b 1 0 ≤ cond a 1 0 + 1
          one true true = omega arith
          one true false = omega arith
          one false true = omega arith
          one false false = omega arith

      acks : open_acks k later < k.caches
      acks = falls.begin (world.directory g) c (request_tag q) here

      num : (a b i j o l n : ℕ) → a ≡ b + (n + 7) → j ≤ i + 1 → l < n → b + 2 * j + l + 6 ≤ a + 2 * i + o
      num a b i j o l n p q r = omega (arith, p, q, r)

  -- SETTLE: its group is pending no more
  settle-falls : (g c t : ℕ) (rest : List (ℕ × Response)) → Fall g (Settles c t rest)
  settle-falls g c t rest p =
      num ((k.caches + 7) * waiting_requests k world) (pending_groups k world) (pending_groups k later) (open_acks k world)
      (one (pending_groups k later) (pending_groups k world) (world.pending g) (put world.pending g false g)
      (sum-one k.sets g (λ i. cond (world.pending i) 1 0) (λ i. cond (put world.pending g false i) 1 0)
      (λ i n. ap (λ (b : Bool). cond b 1 0) (put-other world.pending g i false n)) (inside.response c (g, CohAck t) rest p.1))
      is-pending (put-here world.pending g false))
    where
      later : World
      later = action_after g (Settles c t rest) world

      is-pending : world.pending g ≡ true
      is-pending =
          (inv.groups g).1.pending ∙ ap (λ (b : Bool). not b)
          (ack-busy (inv.groups g).0 c t (of_group g rest)
          (sym ((inv.groups g).1.responses c) ∙ of_group-head g (world.response c) rest (CohAck t) p.1))

      one : (i j : ℕ) (a b : Bool) → i + cond a 1 0 ≡ j + cond b 1 0 → a ≡ true → b ≡ false → i + 1 ≡ j
      one i j true true e p q = absurd (cc)
      one i j true false e p q = omega (arith, e)
      one i j false b e p q = absurd (cc)

      num : (a i j o : ℕ) → j + 1 ≡ i → a + 2 * j + o + 2 ≤ a + 2 * i + o
      num a i j o e = omega (arith, e)

  -- COLLECT: an ack less
  ack-falls : (g c t : ℕ) (rest : List (ℕ × Response)) (x : Transaction) → Fall g (CollectsAck c t rest x)
  ack-falls g c t rest x p =
      parts-fall (k.caches + 7) (waiting_requests k world) (pending_groups k world) (open_acks k world) (waiting_requests k world)
      (pending_groups k world) (open_acks k later) 1 refl refl
      (num (open_acks k later) (open_acks k world) _ (length (remove_one c x.waiting)) (length x.waiting)
      (open-is x.granted _ p.0.ungranted) (left-is g x p.0.is p.0.ungranted) (falls.collect g x c t rest p))
    where
      later : World
      later = action_after g (CollectsAck c t rest x) world

      num : (a b h i j : ℕ) → a ≡ h + i → b ≡ h + j → i + 1 ≡ j → a + 1 ≤ b
      num a b h i j p q r = omega (arith, p, q, r)

  -- OTHERS leave requests and pending groups, and have no more acks to come
  same-acks : (later : World) → later.request ≡ world.request → later.pending ≡ world.pending
      → open_acks k later ≤ open_acks k world → heads_of k later + 0 ≤ heads_of k world
  same-acks later p q l =
      parts-fall (k.caches + 7) (waiting_requests k world) (pending_groups k world) (open_acks k world) (waiting_requests k later)
      (pending_groups k later) (open_acks k later) 0
      (ap (λ (r : ℕ → List (ℕ × Request)). sum_below k.caches (λ c. length (r c))) p)
      (ap (λ (r : ℕ → Bool). sum_below k.sets (λ i. cond (r i) 1 0)) q) (num (open_acks k later) (open_acks k world) l)
    where
      num : (a b : ℕ) → a ≤ b → a + 0 ≤ b
      num a b l = omega (arith, l)

  le-of : (a b : ℕ) → a ≡ b → a ≤ b
  le-of a b e = omega (arith, e)

  none : (a b : ℕ) → a ≡ 0 → a ≤ b
  none a b e = omega (arith, e)

  -- the transaction goes on in another record
  kept : (g : ℕ) (x y : Transaction) → world.transaction ≡ Some (g, x)
      → acks_for k world.directory (Some (g, y)) ≡ acks_for k world.directory (Some (g, x))
      → acks_for k world.directory (Some (g, y)) ≤ open_acks k world
  kept g x y e i = le-of _ _ (i ∙ sym (acks-is g x e))

  through : (a b c d e : ℕ) → a ≡ c → c ≡ d → d ≤ e → b ≡ e → a ≤ b
  through a b c d e p q r i = omega (arith, p, q, r, i)

  flush-falls : (g o w t : ℕ) (y : Coh) (x : Transaction) → Ungranted g x world → (u : ℕ) → Holds (world.directory g o w) u
      → heads_of k (with_flush g o w t y x world) + 0 ≤ heads_of k world
  flush-falls g o w t y x asks u h =
      same-acks later refl refl
      (through (open_acks k later) (open_acks k world) _ _ _ (open-is x.granted _ asks.ungranted)
      (ap (λ (d : ℕ → ℕ → Entry). acks_left k d x.cache (request_tag x.request) x.waiting) (put-here world.directory g _))
      (falls.flush g x o w u y h) (left-is g x asks.is asks.ungranted))
    where
      later : World
      later = with_flush g o w t y x world

  inv-falls : (g : ℕ) (with_owner : Bool) (to : List ℕ) (x : Transaction) → Fall g (Invalidates with_owner to x)
  inv-falls g with_owner to x p =
      same-acks later refl refl
      (through (open_acks k later) (open_acks k world) _ _ _ (open-is x.granted _ p.0.ungranted)
      (ap (λ (d : ℕ → ℕ → Entry). acks_left k d x.cache (request_tag x.request) (x.waiting ++ to)) (put-here world.directory g _))
      (falls.invalidate g x with_owner to p) (left-is g x p.0.is p.0.ungranted))
    where
      later : World
      later = action_after g (Invalidates with_owner to x) world

  allowed : (g : ℕ) (a : Action) → Permitted k g a world → Allowed g a world
  allowed g a p = permitted_allowed k g world inv a p

  leaves : (g : ℕ) (a : Action) → (action_after g a world).request ≡ world.request
      → (action_after g a world).pending ≡ world.pending → open_acks k (action_after g a world) ≤ open_acks k world
      → heads_of k (action_after g a world) + 0 ≤ heads_of k world
  leaves g a p q l = same-acks (action_after g a world) p q l

  grants : (g : ℕ) (a : Action) → (action_after g a world).request ≡ world.request
      → (action_after g a world).pending ≡ world.pending → open_acks k (action_after g a world) ≡ 0
      → heads_of k (action_after g a world) + 0 ≤ heads_of k world
  grants g a p q e = leaves g a p q (none (open_acks k (action_after g a world)) (open_acks k world) e)

  -- EACH ACTION
  pub action-falls : (g : ℕ) (a : Action) → Fall g a
  action-falls g (Takes c q rest) p = take-falls g c q rest p
  action-falls g (Settles c t rest) p = settle-falls g c t rest p
  action-falls g (CollectsAck c t rest x) p = ack-falls g c t rest x p
  action-falls g (CollectsAnswer c t ws rest x) p =
      leaves g (CollectsAnswer c t ws rest x) refl refl (kept g x (record x { write_back = write_back_after t ws }) p.0.is refl)
  action-falls g (CollectsBlock t ws rest x) p =
      leaves g (CollectsBlock t ws rest x) refl refl (kept g x (record x { reading = Got ws }) p.0.is refl)
  action-falls g (Invalidates with_owner to x) p = inv-falls g with_owner to x p
  action-falls g (FlushesVictim x) p =
      let q = allowed g (FlushesVictim x) p in
      flush-falls g x.cache (request_way x.request) (world.directory g x.cache (request_way x.request)).tag I x q.ungranted
      (world.directory g x.cache (request_way x.request)).tag q.aims
  action-falls g (FlushesOwn w y x) p =
      let q = allowed g (FlushesOwn w y x) p in
      flush-falls g x.cache w (request_tag x.request) y x q.ungranted (request_tag x.request) q.aims
  action-falls g (FlushesOwner o w y x) p =
      let q = allowed g (FlushesOwner o w y x) p in
      flush-falls g o w (request_tag x.request) y x q.ungranted (request_tag x.request) q.aims
  action-falls g (WritesBack b x) p = leaves g (WritesBack b x) refl refl (kept g x (record x { write_back = Idle }) p.0 refl)
  action-falls g (ReadsMemory x) p = leaves g (ReadsMemory x) refl refl (kept g x (record x { reading = ReadAsked }) p.0.is refl)
  action-falls g (WritesWord t i f x) p =
      leaves g (WritesWord t i f x) refl refl (kept g x (record x { written = true }) p.0.ungranted.is refl)
  action-falls g (GrantsByBlock ws y x) p = grants g (GrantsByBlock ws y x) refl refl refl
  action-falls g (GrantsByWake t w x) p = grants g (GrantsByWake t w x) refl refl refl
  action-falls g (GrantsByTransfer o w y z x) p = grants g (GrantsByTransfer o w y z x) refl refl refl
  action-falls g (AnswersWord t i ws x) p = grants g (AnswersWord t i ws x) refl refl refl
  action-falls g (AnswersStore t i f x) p = grants g (AnswersStore t i f x) refl refl refl
  action-falls g (AnswersEvict t w x) p = grants g (AnswersEvict t w x) refl refl refl
  action-falls g (PaysRequester d x) p =
      grants g (PaysRequester d x) refl refl (closed-is x.granted _ (allowed g (PaysRequester d x) p).0.granted)
  action-falls g (PaysOwner d x) p =
      grants g (PaysOwner d x) refl refl (closed-is x.granted _ (allowed g (PaysOwner d x) p).0.granted)
  action-falls g (Finishes x) p = grants g (Finishes x) refl refl refl
  action-falls g Idles p = leaves g Idles refl refl (le-of (open_acks k world) (open_acks k world) refl)
