-- What is known of the transaction's record is kept: by steps, which touch neither it nor the directory, and by each permitted action.
use Rattle.std.proofs.Common.{◌≡◌, ℕ, ◌+◌, ◌<◌, ◌≤◌, ◌≢◌, Bool, true, false, refl, arith, List, [], ◌∷◌, ◌++◌, sym, ◌∙◌, subst, ap, true≢false}
use Rattle.std.specs.Prelude.{Option, Some, None, if◌then◌else◌, ◌==◌}
use Rattle.std.proofs.lemmas.Bool.Decides.{nat_tests}
use Rattle.bk_base.specs.Places.{Shape}
use Rattle.bk_base.specs.Tables.{put}
use Rattle.bk_base.specs.declared.coh.Coh.{Coh}
use Rattle.bk_base.specs.declared.coh.Coh.TheVariants.{I, M}
use Rattle.bk_base.specs.States.{is_readable, is_owner_like}
use Rattle.bk_machine.specs.Tables.{put2}
use Rattle.bk_machine.specs.Entries.{Entry, Holds, times, with_state, wiped_in_caches}
use Rattle.bk_machine.specs.Messages.{Request, request_tag, request_way, request_suits}
use Rattle.bk_machine.specs.Transactions.{Transaction, Debt, FlushAsked, remove_one}
use Rattle.bk_machine.specs.World.{World}
use Rattle.bk_machine.specs.Steps.{MachineStep, step_after, LoadHits, StoreHits, Asks, EvictIdles, InvComes, FlushComes, TransferComes, BlockLoads, BlockStores, WakeStores, WordComes, StoreComes, EvictComes, FillLoads, FillStores, MemoryReads, MemoryWrites, MemoryWritesWord}
use Rattle.bk_machine.specs.Actions.{Action, action_after, Permitted, Takes, Settles, CollectsAck, CollectsAnswer, CollectsBlock, Invalidates, FlushesVictim, FlushesOwn, FlushesOwner, WritesBack, ReadsMemory, WritesWord, GrantsByBlock, GrantsByWake, GrantsByTransfer, AnswersWord, AnswersStore, AnswersEvict, PaysRequester, PaysOwner, Finishes, Idles, Ungranted, OwnerAt, owner_state_for, may_pair, with_flush, debt_of_requester, debt_of_owner}
use Rattle.bk_machine.specs.Invariant.{Invariant, Recorded, RecordOf, RequesterOwes, OwnerOwes}
use Rattle.bk_machine.proofs.View.{put-here}
use Rattle.bk_machine.proofs.DirectoryReads.{Readable, OwnerIs, owner-at, owner-only, recipients}
use Rattle.bk_machine.proofs.Opened.{opened, readable, record_of}
use Rattle.bk_machine.proofs.Transfer.{pair-weaker}

pub step_record : (k : Shape) (g : ℕ) (a : MachineStep) (world : World) → RecordOf k world.transaction world.directory
    → RecordOf k (step_after g a world).transaction (step_after g a world).directory
step_record k g (LoadHits c t v j) world old = old
step_record k g (StoreHits c t v j n) world old = old
step_record k g (Asks c v op) world old = old
step_record k g (EvictIdles c t) world old = old
step_record k g (InvComes c t rest) world old = old
step_record k g (FlushComes c v t x rest) world old = old
step_record k g (TransferComes c v t y peer pv x rest) world old = old
step_record k g (BlockLoads c t v j x ws rest) world old = old
step_record k g (BlockStores c t v j n x ws rest) world old = old
step_record k g (WakeStores c t v j n rest) world old = old
step_record k g (WordComes c t v j n rest) world old = old
step_record k g (StoreComes c t v j n rest) world old = old
step_record k g (EvictComes c t v rest) world old = old
step_record k g (FillLoads c o t v j x ws rest) world old = old
step_record k g (FillStores c o t v j n x ws rest) world old = old
step_record k g (MemoryReads t rest) world old = old
step_record k g (MemoryWrites t ws rest) world old = old
step_record k g (MemoryWritesWord t j n rest) world old = old

put2-other : (d : ℕ → ℕ → Entry) (c w : ℕ) (x : Entry) (i j : ℕ) → i ≢ c → put2 d c w x i j ≡ d i j
unfolding put2
put2-other d c v x i j n = grind (arith, nat_tests)

no-debt : (o : Option Debt) (debt : Debt) → o ≡ None → o ≡ Some debt → ⊥
no-debt o debt a b = absurd (cc (sym a ∙ b))

fewer : (c i : ℕ) (xs : List ℕ) → times i (remove_one c xs) ≤ times i xs
fewer c i [] = omega arith
fewer c i (x ∷ xs) = decide (c == x) (fewer c i xs)
  where
    one : (a b : ℕ) → b ≤ a + b
    one a b = omega arith

    both : (a b d : ℕ) → b ≤ d → a + b ≤ a + d
    both a b d l = omega arith

    decide : (b : Bool) → times i (remove_one c xs) ≤ times i xs
        → times i (if b then xs else x ∷ remove_one c xs) ≤ (if i == x then 1 else 0) + times i xs
    decide true l = one (if i == x then 1 else 0) (times i xs)
    decide false l = both (if i == x then 1 else 0) (times i (remove_one c xs)) (times i xs) l

fewer-times : (c i : ℕ) (xs : List ℕ) → times i (remove_one c xs) ≢ 0 → times i xs ≢ 0
fewer-times c i xs n e = n (none (times i (remove_one c xs)) (times i xs) (fewer c i xs) e)
  where
    none : (a b : ℕ) → a ≤ b → b ≡ 0 → a ≡ 0
    none a b l e = omega arith

more-times : (i : ℕ) (xs ys : List ℕ) → times i (xs ++ ys) ≡ times i xs + times i ys
more-times i [] ys = omega arith
more-times i (x ∷ xs) ys = lem (if i == x then 1 else 0) (times i (xs ++ ys)) (times i xs) (times i ys) (more-times i xs ys)
  where
    lem : (a b c d : ℕ) → b ≡ c + d → a + b ≡ a + c + d
    lem a b c d e = omega arith

suits-valid : (q : Request) (y : Coh) → request_suits q y ≡ true → is_readable y ≡ true
suits-valid q y e = grind arith

module _ (k : Shape) (group : ℕ) (world : World) (inv : Invariant k world) where
  module _ (x : Transaction) (is : world.transaction ≡ Some (group, x)) where
    old : Recorded k x (world.directory group)
    old = record_of k world inv group x is

    no-owner : x.granted ≡ false → (e : Debt) → x.owner_debt ≡ Some e → ⊥
    no-owner g e f = no-debt x.owner_debt e (opened k world inv group x is g).at.no_owner_debt f

  -- the directory of group group after a write of that group
  here : (x : Transaction) (d : ℕ → ℕ → Entry) → Recorded k x d → Recorded k x (put world.directory group d group)
  here x d r = subst (λ (e : ℕ → ℕ → Entry). Recorded k x e) (sym (put-here world.directory group d)) r

  waits : (x : Transaction) (to : List ℕ) → ((c : ℕ) → times c to ≢ 0 → c < k.caches)
      → ((c : ℕ) → times c x.waiting ≢ 0 → c < k.caches) → (c : ℕ)
      → times c (x.waiting ++ to) ≢ 0 → c < k.caches
  waits x to new old c n = decide (times c to == 0) refl
    where
      is : (times c to == 0) ≡ true → times c to ≡ 0
      is q = grind (arith, nat_tests)

      differs : (times c to == 0) ≡ false → times c to ≢ 0
      differs q = grind (arith, nat_tests)

      both : (a b d : ℕ) → d ≡ a + b → a ≡ 0 → b ≡ 0 → d ≡ 0
      both a b d e f g = omega arith

      decide : (b : Bool) → (times c to == 0) ≡ b → c < k.caches
      decide true q = old c
          (λ z. n (both (times c x.waiting) (times c to) (times c (x.waiting ++ to)) (more-times c x.waiting to) z (is q)))
      decide false q = new c (differs q)

  -- the requester's debt of a grant
  granted-by : (x : Transaction) (y : Coh) (debt : Debt) → request_suits x.request y ≡ true → debt_of_requester x y ≡ Some debt
      → RequesterOwes x.cache x.request debt
  granted-by x y debt q f = subst (λ (d : Debt). RequesterOwes x.cache x.request d) (some_is f)
      (record { at_cache = refl; at_way = refl; holds = record { is_valid = suits-valid x.request y q; is_tag = refl } })
    where
      some_is : {a b : Debt} → Some a ≡ Some b → a ≡ b
      some_is q = cc

  -- the owner's debt of a transfer
  transferred-by : (x : Transaction) (u : Ungranted group x world) (o w : ℕ) (y z : Coh) (debt : Debt)
      → OwnerAt k (world.directory group) x o w
      → may_pair (owner_state_for k (world.directory group) x) y z ≡ true → debt_of_owner o w x y ≡ Some debt
      → OwnerOwes k x.cache x.request (world.directory group) debt
  transferred-by x u o w y z debt a p f = subst (λ (d : Debt). OwnerOwes k x.cache x.request (world.directory group) d) (some_is f)
      (record {
        other = at.other;
        tag = refl;
        weaker = pair-weaker (owner_state_for k (world.directory group) x) y z p;
        range = good.range o w (request_tag x.request) at.holds;
        holds = at.holds;
        owner_like = at.owner_like;
        only = λ c i n h l. owner-only k (world.directory group) good x.cache (request_tag x.request) o w at c i h l;
      })
    where
      some_is : {a b : Debt} → Some a ≡ Some b → a ≡ b
      some_is q = cc

      good : Readable k (world.directory group)
      good = readable k world inv group x u.is u.ungranted

      at : OwnerIs k (world.directory group) good x.cache (request_tag x.request) o w
      at = owner-at k (world.directory group) good x.cache (request_tag x.request) o w a.is_owner a.is_way

  -- a write of the requester's entry leaves what the owner owes
  owner-stays : (x : Transaction) (debt e : Debt) → RequesterOwes x.cache x.request debt
      → OwnerOwes k x.cache x.request (world.directory group) e
      → OwnerOwes k x.cache x.request (put2 (world.directory group) debt.cache debt.way debt.entry) e
  owner-stays x debt e r o = record {
    other = o.other;
    tag = o.tag;
    weaker = o.weaker;
    range = o.range;
    holds = subst (λ (h : Entry). Holds h (request_tag x.request)) (sym (same e.cache e.way o.other)) o.holds;
    owner_like = ap (λ (h : Entry). is_owner_like h.state) (same e.cache e.way o.other) ∙ o.owner_like;
    only =
        λ c w n h l. o.only c w n (subst (λ (i : Entry). Holds i (request_tag x.request)) (same c w n) h)
        (ap (λ (i : Entry). is_owner_like i.state) (sym (same c w n)) ∙ l);
  }
    where
      same : (i j : ℕ) → i ≢ x.cache → put2 (world.directory group) debt.cache debt.way debt.entry i j ≡ world.directory group i j
      same i j n = put2-other (world.directory group) debt.cache debt.way debt.entry i j (λ q. n (q ∙ r.at_cache))

  -- the record of a transaction that isn't granted, over any directory: it has no debts
  no-debts : (x : Transaction) (d : ℕ → ℕ → Entry) → Ungranted group x world → Recorded k x d
  no-debts x d u =
      record {
        from = (old x u.is).from;
        unread = (old x u.is).unread;
        requester = (old x u.is).requester;
        owner = λ e f. absurd (no-owner x u.is u.ungranted e f);
      }

  flushed : (x : Transaction) (o w : ℕ) (t : ℕ) (y : Coh) → Ungranted group x world
      → RecordOf k (with_flush group o w t y x world).transaction (with_flush group o w t y x world).directory
  flushed x o w t y u =
      let d = no-debts x (put2 (world.directory group) o w (with_state (world.directory group o w) y)) u in
      here (record x { write_back = FlushAsked }) _ (record { from = d.from; unread = d.unread; requester = d.requester; owner = d.owner })

  -- Acks are to come only from caches that had an entry, only a request that reads is read for, and a grant makes the debts as
  -- they should be.
  pub action_record : (a : Action) → Permitted k group a world
      → RecordOf k (action_after group a world).transaction (action_after group a world).directory
  action_record (Takes c q rest) p =
      record { from = λ i n. absurd (n refl); unread = λ e. refl; requester = λ e f. absurd (cc f); owner = λ e f. absurd (cc f) }
  action_record (Settles c t rest) p = inv.recorded
  action_record (CollectsAck c t rest x) p =
      let o = old x p.0.is in record {
        from = λ i n. o.from i (fewer-times c i x.waiting n);
        unread = o.unread;
        requester = o.requester;
        owner = o.owner;
      }
  action_record (CollectsAnswer c t ws rest x) p = let o = old x p.0.is
      in record { from = o.from; unread = o.unread; requester = o.requester; owner = o.owner }
  action_record (CollectsBlock t ws rest x) p =
      let o = old x p.0.is in
      record { from = o.from; unread = λ e. absurd (cc (sym (o.unread e) ∙ p.2)); requester = o.requester; owner = o.owner }
  action_record (Invalidates f to x) p =
      let good = readable k world inv group x p.0.is p.0.ungranted in
      let r = recipients k (world.directory group) good x.cache (request_tag x.request) f p.2 in
      let debt = no-debts x (wiped_in_caches to (request_tag x.request) (world.directory group)) p.0 in
      here (record x { waiting = x.waiting ++ to }) _ (record {
        from = waits x to (λ c n. subst (λ (ts : List ℕ). times c ts ≢ 0
            → c < k.caches) (sym p.1) (λ m. held c (r.has c (one _ (r.once c) m))) n) debt.from;
        unread = debt.unread;
        requester = debt.requester;
        owner = debt.owner;
      })
    where
      one : (a : ℕ) → a ≤ 1 → a ≢ 0 → a ≡ 1
      one a l n = omega arith

      held : (c : ℕ) → (w : ℕ) × Holds (world.directory group c w) (request_tag x.request) → c < k.caches
      held c h = ((readable k world inv group x p.0.is p.0.ungranted).range c h.0 (request_tag x.request) h.1).cache
  action_record (FlushesVictim x) p =
      flushed x x.cache (request_way x.request) (world.directory group x.cache (request_way x.request)).tag I p.0
  action_record (FlushesOwn w y x) p = flushed x x.cache w (request_tag x.request) y p.0
  action_record (FlushesOwner o w y x) p = flushed x o w (request_tag x.request) y p.0
  action_record (WritesBack b x) p = let o = old x p.0 in record {
    from = o.from;
    unread = o.unread;
    requester = o.requester;
    owner = o.owner;
  }
  action_record (ReadsMemory x) p =
      let o = old x p.0.is in
      record { from = o.from; unread = λ e. absurd (true≢false (sym p.1 ∙ e)); requester = o.requester; owner = o.owner }
  action_record (WritesWord t i n x) p = let o = old x p.0.ungranted.is
      in record { from = o.from; unread = o.unread; requester = o.requester; owner = o.owner }
  action_record (GrantsByBlock ws y x) p =
      let o = old x p.0.ungranted.is in
      record { from = o.from; unread = o.unread; requester = λ e f. granted-by x y e p.3 f; owner = o.owner }
  action_record (GrantsByWake t w x) p =
      let o = old x p.0.ungranted.is in
      record {
        from = o.from;
        unread = o.unread;
        requester = λ e f. subst (λ (debt : Debt). RequesterOwes x.cache x.request debt) (some_is f) waking;
        owner = o.owner;
      }
    where
      some_is : {a b : Debt} → Some a ≡ Some b → a ≡ b
      some_is q = cc

      waking : RequesterOwes x.cache x.request (record { cache = x.cache; way = w; entry = record { tag = t; state = M } })
      waking = record {
        at_cache = refl;
        at_way = sym (ap request_way p.1);
        holds = record { is_valid = refl; is_tag = sym (ap request_tag p.1) };
      }
  action_record (GrantsByTransfer o w y z x) p =
      let r = old x p.0.ungranted.is in
      record {
        from = r.from;
        unread = r.unread;
        requester = λ e f. granted-by x z e p.5 f;
        owner = λ e f. transferred-by x p.0.ungranted o w y z e p.3 p.4 f;
      }
  action_record (AnswersWord t i ws x) p =
      let o = old x p.0.ungranted.is in record { from = o.from; unread = o.unread; requester = o.requester; owner = o.owner }
  action_record (AnswersStore t i n x) p =
      let o = old x p.0.ungranted.is in record { from = o.from; unread = o.unread; requester = o.requester; owner = o.owner }
  action_record (AnswersEvict t w x) p = let o = old x p.0.ungranted.is
      in record { from = o.from; unread = o.unread; requester = o.requester; owner = o.owner }
  action_record (PaysRequester debt x) p =
      let o = old x p.0 in
      here (record x { requester_debt = None }) _
      (record {
        from = o.from;
        unread = o.unread;
        requester = λ e f. absurd (cc f);
        owner = λ e f. owner-stays x debt e (o.requester debt p.1) (o.owner e f);
      })
  action_record (PaysOwner debt x) p =
      let o = old x p.0 in
      here (record x { owner_debt = None }) _ (record {
        from = o.from;
        unread = o.unread;
        requester = o.requester;
        owner = λ e f. absurd (cc f);
      })
  action_record (Finishes x) p = tt
  action_record Idles p = inv.recorded
