-- What a permitted action sends is still to come before it: what is under way and to come grows by that much at most.
use Rattle.std.proofs.Common.{◌≡◌, ℕ, ◌+◌, ◌*◌, ◌<◌, ◌≤◌, Bool, true, false, refl, sym, ap, ◌∙◌, arith, List, [], ◌∷◌, ◌++◌, length, Some}
use Rattle.std.proofs.lemmas.List.{length-append}
use Rattle.bk_base.specs.Places.{Shape}
use Rattle.bk_base.specs.Tables.{put}
use Rattle.bk_base.specs.declared.coh.Coh.{Coh}
use Rattle.bk_base.specs.declared.coh.Coh.TheVariants.{I}
use Rattle.bk_machine.specs.Actions.{Action, Takes, Settles, CollectsAck, CollectsAnswer, CollectsBlock, Invalidates, FlushesVictim, FlushesOwn, FlushesOwner, WritesBack, ReadsMemory, WritesWord, GrantsByBlock, GrantsByWake, GrantsByTransfer, AnswersWord, AnswersStore, AnswersEvict, PaysRequester, PaysOwner, Finishes, Idles, Permitted, Ungranted, action_after, with_flush}
use Rattle.bk_machine.specs.Entries.{Entry, Holds}
use Rattle.bk_machine.specs.Invariant.{Invariant}
use Rattle.bk_machine.specs.Messages.{Request, ToCache, StWb, FillMessage, ToMemory, request_tag, request_way}
use Rattle.bk_machine.specs.Readings.{AcksFall, holders}
use Rattle.bk_machine.specs.Transactions.{Transaction, Idle, ReadAsked, Got, remove_one, write_back_after}
use Rattle.bk_machine.specs.World.{World}
use Rattle.bk_machine.proofs.Allowed.{Allowed}
use Rattle.bk_machine.proofs.Fall.{acks_fall}
use Rattle.bk_machine.proofs.Permits.{permitted_allowed}
use Rattle.bk_machine.proofs.View.{put-here}
use Rattle.bk_bound.proofs.Channels.{all_in, all_between, one-more, one-less, invs-more}
use Rattle.bk_bound.proofs.Inside.{Inside}
use Rattle.bk_bound.proofs.WorldCounts.{waiting_requests, holders_for, open_holders, commands_under_way, fills_under_way, messages_of, messages_sent, messages_taken}
use Rattle.bk_bound.proofs.WorldHeads.{times-less, open-is, closed-is}

module _ (k : Shape) (world : World) (inv : Invariant k world) (inside : Inside k world) where
  abbrev falls : AcksFall k world
  falls = acks_fall k world inv

  -- what an action owes
  abbrev Sent : ℕ → Action → Type 0
  Sent g a = Permitted k g a world
      → messages_of k (action_after g a world) + messages_taken a ≤ messages_of k world + messages_sent a

  -- the caches that may still be sent an Inv for the transaction that there is
  holders-is : (g : ℕ) (x : Transaction) → world.transaction ≡ Some (g, x)
      → open_holders k world ≡ holders_for k world.directory (Some (g, x))
  holders-is g x e = ap (holders_for k world.directory) e

  left-is : (g : ℕ) (x : Transaction) → world.transaction ≡ Some (g, x) → x.granted ≡ false
      → open_holders k world ≡ holders k (world.directory g) x.cache (request_tag x.request)
  left-is g x e ungranted = holders-is g x e ∙ open-is x.granted _ ungranted

  -- the transaction goes on in another record
  kept : (g : ℕ) (x y : Transaction) → world.transaction ≡ Some (g, x)
      → holders_for k world.directory (Some (g, y)) ≡ holders_for k world.directory (Some (g, x))
      → holders_for k world.directory (Some (g, y)) ≤ open_holders k world
  kept g x y e i = num _ _ (i ∙ sym (holders-is g x e))
    where
      num : (a b : ℕ) → a ≡ b → a ≤ b
      num a b e = omega (arith, e)

  -- an action that leaves the requests and the fills, and sends so much
  sent : (later : World) (n : ℕ) → later.request ≡ world.request → later.fill ≡ world.fill
      → 2 * commands_under_way k later + length later.memout ≤ 2 * commands_under_way k world + length world.memout + n
      → open_holders k later ≤ open_holders k world → messages_of k later + 0 ≤ messages_of k world + n
  sent later n p q l h =
      num (commands_under_way k world) (fills_under_way k world) (length world.memout) ((2 * k.caches + 13) * waiting_requests k world)
      (open_holders k world) (commands_under_way k later) (fills_under_way k later) (length later.memout)
      ((2 * k.caches + 13) * waiting_requests k later) (open_holders k later)
      (ap (λ (f : ℕ → ℕ → List (ℕ × FillMessage)). all_between k.caches f) q)
      (ap (λ (f : ℕ → List (ℕ × Request)). (2 * k.caches + 13) * all_in k.caches f) p) l h
    where
      num : (a b c d h i j o u v : ℕ) → j ≡ b → u ≡ d → 2 * i + o ≤ 2 * a + c + n → v ≤ h
          → 2 * i + j + o + u + 2 * v + 0 ≤ 2 * a + b + c + d + 2 * h + n
      num a b c d h i j o u v p q l r = omega (arith, p, q, l, r)

  none-sent : (a c : ℕ) → 2 * a + c ≤ 2 * a + c + 0
  none-sent a c = omega arith

  one-command : (c : ℕ) (y : ℕ × ToCache)
      → 2 * all_in k.caches (put world.command c (world.command c ++ y ∷ [])) + length world.memout
      ≤ 2 * commands_under_way k world + length world.memout + 2
  one-command c y = num _ (commands_under_way k world) (length world.memout) (one-more k.caches world.command c y)
    where
      num : (a b i : ℕ) → a ≤ b + 1 → 2 * a + i ≤ 2 * b + i + 2
      num a b i l = omega (arith, l)

  one-memory : (y : ℕ × ToMemory)
      → 2 * commands_under_way k world + length (world.memout ++ y ∷ []) ≤ 2 * commands_under_way k world + length world.memout + 1
  one-memory y =
      num (commands_under_way k world) (length (world.memout ++ y ∷ [])) (length world.memout) (length-append world.memout (y ∷ []))
    where
      num : (a b i : ℕ) → b ≡ i + 1 → 2 * a + b ≤ 2 * a + i + 1
      num a b i l = omega (arith, l)

  none : (a b : ℕ) → a ≡ 0 → a ≤ b
  none a b e = omega (arith, e)

  allowed : (g : ℕ) (a : Action) → Permitted k g a world → Allowed g a world
  allowed g a p = permitted_allowed k g world inv a p

  -- TAKE: of a request's 2 * caches + 13 there are 2 for each holder, and 15 with the mask
  take-sent : (g c : ℕ) (q : Request) (rest : List (ℕ × Request)) → Sent g (Takes c q rest)
  take-sent g c q rest p =
      num (2 * commands_under_way k world + fills_under_way k world + length world.memout)
      ((2 * k.caches + 13) * waiting_requests k world) ((2 * k.caches + 13) * waiting_requests k later) (open_holders k world)
      (open_holders k later) k.caches
      (times-less (2 * k.caches + 13) (waiting_requests k world) (waiting_requests k later)
      (one-less k.caches world.request c (g, q) rest p.1 here))
      (falls.begin (world.directory g) c (request_tag q) here)
    where
      later : World
      later = action_after g (Takes c q rest) world

      here : c < k.caches
      here = (inside.request c (g, q) rest p.1).0

      num : (d a b h i c : ℕ) → a ≡ b + (2 * c + 13) → i + 0 < c → d + b + 2 * i + 15 ≤ d + a + 2 * h + 0
      num d a b h i c e l = omega (arith, e, l)

  -- INVALIDATE: 2 for each command, and a holder less
  inv-sent : (g : ℕ) (with_owner : Bool) (to : List ℕ) (x : Transaction) → Sent g (Invalidates with_owner to x)
  inv-sent g with_owner to x p =
      all (commands_under_way k world) (fills_under_way k world) (length world.memout)
      ((2 * k.caches + 13) * waiting_requests k world) (open_holders k world) (commands_under_way k later) (open_holders k later)
      (length to) (invs-more k.caches g (request_tag x.request) world.command to)
      (num (open_holders k later) (open_holders k world) _ _ _ (length (x.waiting ++ to)) (length x.waiting) (length to)
      (open-is x.granted _ p.0.ungranted)
      (ap (λ (d : ℕ → ℕ → Entry). holders k d x.cache (request_tag x.request)) (put-here world.directory g _))
      (falls.invalidate g x with_owner to p) (left-is g x p.0.is p.0.ungranted) (length-append x.waiting to))
    where
      later : World
      later = action_after g (Invalidates with_owner to x) world

      num : (a b c d e i o n : ℕ) → a ≡ c → c ≡ d → d + i ≤ e + o → b ≡ e → i ≡ o + n → a + n ≤ b
      num a b c d e i o n p q r u v = omega (arith, p, q, r, u, v)

      all : (a b c d h i j n : ℕ) → i ≤ a + n → j + n ≤ h → 2 * i + b + c + d + 2 * j + 0 ≤ 2 * a + b + c + d + 2 * h + 0
      all a b c d h i j n p q = omega (arith, p, q)

  -- FLUSH: a command, and no holder more
  flush-sent : (g o w t : ℕ) (y : Coh) (x : Transaction) → Ungranted g x world → (u : ℕ) → Holds (world.directory g o w) u
      → messages_of k (with_flush g o w t y x world) + 0 ≤ messages_of k world + 2
  flush-sent g o w t y x asks u h =
      sent later 2 refl refl (one-command o (g, StWb t y))
      (num (open_holders k later) (open_holders k world) _ _ _ (length x.waiting) (open-is x.granted _ asks.ungranted)
      (ap (λ (d : ℕ → ℕ → Entry). holders k d x.cache (request_tag x.request)) (put-here world.directory g _))
      (falls.flush g x o w u y h) (left-is g x asks.is asks.ungranted))
    where
      later : World
      later = with_flush g o w t y x world

      num : (a b c d e i : ℕ) → a ≡ c → c ≡ d → d + i ≤ e + i → b ≡ e → a ≤ b
      num a b c d e i p q r u = omega (arith, p, q, r, u)

  -- one that sends nothing, one to memory, and a grant
  quiet : (g : ℕ) (a : Action) → (action_after g a world).request ≡ world.request → (action_after g a world).fill ≡ world.fill
      → (action_after g a world).command ≡ world.command → (action_after g a world).memout ≡ world.memout
      → open_holders k (action_after g a world) ≤ open_holders k world
      → messages_of k (action_after g a world) + 0 ≤ messages_of k world + 0
  quiet g a p q r u h =
      sent (action_after g a world) 0 p q
      (num (commands_under_way k (action_after g a world)) (length (action_after g a world).memout) (commands_under_way k world)
      (length world.memout) (ap (λ (f : ℕ → List (ℕ × ToCache)). all_in k.caches f) r)
      (ap (λ (xs : List (ℕ × ToMemory)). length xs) u)) h
    where
      num : (a b c d : ℕ) → a ≡ c → b ≡ d → 2 * a + b ≤ 2 * c + d + 0
      num a b c d p q = omega (arith, p, q)

  same : (a : ℕ) → a ≤ a
  same a = omega arith

  -- EACH ACTION
  pub action-sent : (g : ℕ) (a : Action) → Sent g a
  action-sent g (Takes c q rest) p = take-sent g c q rest p
  action-sent g (Settles c t rest) p = quiet g (Settles c t rest) refl refl refl refl (same (open_holders k world))
  action-sent g (CollectsAck c t rest x) p =
      quiet g (CollectsAck c t rest x) refl refl refl refl (kept g x (record x { waiting = remove_one c x.waiting }) p.0.is refl)
  action-sent g (CollectsAnswer c t ws rest x) p =
      quiet g (CollectsAnswer c t ws rest x) refl refl refl refl
      (kept g x (record x { write_back = write_back_after t ws }) p.0.is refl)
  action-sent g (CollectsBlock t ws rest x) p =
      quiet g (CollectsBlock t ws rest x) refl refl refl refl (kept g x (record x { reading = Got ws }) p.0.is refl)
  action-sent g (Invalidates with_owner to x) p = inv-sent g with_owner to x p
  action-sent g (FlushesVictim x) p =
      let q = allowed g (FlushesVictim x) p in
      flush-sent g x.cache (request_way x.request) (world.directory g x.cache (request_way x.request)).tag I x q.ungranted
      (world.directory g x.cache (request_way x.request)).tag q.aims
  action-sent g (FlushesOwn w y x) p =
      let q = allowed g (FlushesOwn w y x) p in
      flush-sent g x.cache w (request_tag x.request) y x q.ungranted (request_tag x.request) q.aims
  action-sent g (FlushesOwner o w y x) p =
      let q = allowed g (FlushesOwner o w y x) p in
      flush-sent g o w (request_tag x.request) y x q.ungranted (request_tag x.request) q.aims
  action-sent g (WritesBack b x) p =
      sent (action_after g (WritesBack b x) world) 1 refl refl (one-memory _) (kept g x (record x { write_back = Idle }) p.0 refl)
  action-sent g (ReadsMemory x) p =
      sent (action_after g (ReadsMemory x) world) 1 refl refl (one-memory _) (kept g x (record x { reading = ReadAsked }) p.0.is refl)
  action-sent g (WritesWord t i f x) p =
      sent (action_after g (WritesWord t i f x) world) 1 refl refl (one-memory _)
      (kept g x (record x { written = true }) p.0.ungranted.is refl)
  action-sent g (GrantsByBlock ws y x) p =
      sent (action_after g (GrantsByBlock ws y x) world) 2 refl refl (one-command x.cache _) (none 0 (open_holders k world) refl)
  action-sent g (GrantsByWake t w x) p =
      sent (action_after g (GrantsByWake t w x) world) 2 refl refl (one-command x.cache _) (none 0 (open_holders k world) refl)
  action-sent g (GrantsByTransfer o w y z x) p =
      sent (action_after g (GrantsByTransfer o w y z x) world) 2 refl refl (one-command o _) (none 0 (open_holders k world) refl)
  action-sent g (AnswersWord t i ws x) p =
      sent (action_after g (AnswersWord t i ws x) world) 2 refl refl (one-command x.cache _) (none 0 (open_holders k world) refl)
  action-sent g (AnswersStore t i f x) p =
      sent (action_after g (AnswersStore t i f x) world) 2 refl refl (one-command x.cache _) (none 0 (open_holders k world) refl)
  action-sent g (AnswersEvict t w x) p =
      sent (action_after g (AnswersEvict t w x) world) 2 refl refl (one-command x.cache _) (none 0 (open_holders k world) refl)
  action-sent g (PaysRequester d x) p =
      quiet g (PaysRequester d x) refl refl refl refl (none (open_holders k (action_after g (PaysRequester d x) world))
      (open_holders k world) (closed-is x.granted _ (allowed g (PaysRequester d x) p).0.granted))
  action-sent g (PaysOwner d x) p =
      quiet g (PaysOwner d x) refl refl refl refl (none (open_holders k (action_after g (PaysOwner d x) world)) (open_holders k world)
      (closed-is x.granted _ (allowed g (PaysOwner d x) p).0.granted))
  action-sent g (Finishes x) p = quiet g (Finishes x) refl refl refl refl (none 0 (open_holders k world) refl)
  action-sent g Idles p = quiet g Idles refl refl refl refl (same (open_holders k world))
