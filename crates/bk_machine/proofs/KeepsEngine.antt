-- The actions of the engine keep every group good.
use Rattle.std.proofs.Common.{◌≡◌, ℕ, ◌+◌, ◌≤◌, ◌≢◌, ◌⊎◌, Bool, true, false, refl, List, [], ◌∷◌, ◌++◌, sym, ◌∙◌, subst, true≢false}
use Rattle.std.specs.Prelude.{Option, Some, None, if◌then◌else◌, ◌==◌}
use Rattle.bk_base.specs.Tables.{put}
use Rattle.bk_machine.specs.Tables.{put2}
use Rattle.bk_machine.specs.Entries.{Holds, with_state, times, wiped_in_caches, is_light}
use Rattle.bk_machine.specs.Messages.{Request, Wr, UcRd, UcWr, EvictRequest, ToCache, Inv, StWb, StTr, Blk, StWake, UcBlk, UcDone, EvictDone, Response, InvAck, CohAck, Read, Write, WriteWord, MemoryBlock, request_way, asks_block, asks_read, answer_of, request_suits, request_tag}
use Rattle.bk_machine.specs.Transactions.{Idle, FlushAsked, FlushKept, NotRead, ReadAsked, Got, Debt, Transaction, remove_one, write_back_after, new_transaction, is_asked}
use Rattle.bk_machine.specs.Phases.{Phase, Settling}
use Rattle.bk_machine.proofs.Allowed.{fits, VictimLight}
use Rattle.bk_machine.specs.Actions.{may_pair, Action, NoGranted, action_after, with_flush as flushes_after}
use Rattle.bk_machine.specs.World.{GroupState, World, of_group, option_of_group, view}
use Rattle.bk_machine.specs.Invariant.{Good, NoneOrGranted, TransactionAt}
use Rattle.bk_machine.proofs.View.{of_group-push, of_group-push_other, of_group-head, option_of_group-some, option_of_group-none}
use Rattle.bk_machine.proofs.Writes.{seen, pushed, left, pushed_other, left_other, some_is, none_is, from_none, from_some, to_none, directory-here, directory-other, pending-here, pending-other, taken_count-here, taken_count-other, settled_count-here, settled_count-other, request-here, request-other, command-here, command-other, response-here, response-other, transaction-here, transaction-other, memout-here, memout-other, memin-here, memin-other, commands-here, commands-other}
use Rattle.bk_machine.proofs.Wraps.{Fine, takes, settles}
use Rattle.bk_machine.specs.Invariant.{EveryGroup}
use Rattle.bk_machine.proofs.Keeps.{step}
use Rattle.bk_machine.proofs.Heads.{settle_head}
use Rattle.bk_machine.proofs.Send.{inv_to}
use Rattle.bk_machine.proofs.WrapsEngine.{acks, backs, gets, invalidates}
use Rattle.bk_machine.proofs.WrapsQuiet.{flushes, reads_in, writes_back}
use Rattle.bk_machine.proofs.WrapsGrant.{writes_word, grants_block, grants_transfer, grants_wake, answers_word, answers_store, answers_evict}
use Rattle.bk_machine.proofs.Answer.{own_paid, owner_paid, finished_good}
use Rattle.bk_base.specs.declared.coh.Coh.{Coh}
use Rattle.bk_base.specs.declared.coh.Coh.TheVariants.{M}
use Rattle.bk_base.specs.States.{is_readable, is_owner_like}

settle-none : (g : ℕ) (transaction : Option (ℕ × Transaction)) → NoGranted transaction
    → NoneOrGranted (option_of_group g transaction)
    → option_of_group g transaction ≡ None
settle-none g None a b = refl
settle-none g (Some x) a b = at (g == x.0) b
  where
    at : (y : Bool) → NoneOrGranted (if y then Some x.1 else None) → (if y then Some x.1 else None) ≡ None
    at true b = absurd (true≢false (sym b.granted ∙ a))
    at false b = refl

-- A CohAck comes only in the phase Settling, and there no transaction is open; without it the group is free again.
settles_on : (p : Phase) (part : GroupState) (c t : ℕ) (rest : List Response) → Good p part
    → (NoneOrGranted part.transaction → part.transaction ≡ None)
    → part.response c ≡ CohAck t ∷ rest
    → Fine (record part { response = put part.response c rest; pending = false; settled_count = part.settled_count + 1 })
settles_on p part c t rest good f k =
    let head : (p ≡ Settling c t) × (rest ≡ []) = settle_head p c t rest (sym (good.responses c) ∙ k) in
    let e : part.transaction ≡ None = f (subst (λ (q : Phase). TransactionAt q part.transaction) head.0 good.transaction) in
    let fine : Fine (record part {
      response = put part.response c rest;
      transaction = None;
      pending = false;
      settled_count = part.settled_count + 1;
    }) =
    settles p part c t rest good e k in (
      fine.0,
      subst (λ (transaction : Option Transaction). Good fine.0
          (record part {
            response = put part.response c rest;
            transaction = transaction;
            pending = false;
            settled_count = part.settled_count + 1;
          })) (sym e) fine.1,
    )

sent-here : (g u : ℕ) (to : List ℕ) (t c : ℕ) (xs : List (ℕ × ToCache)) (b : Bool)
    → of_group g (if b then xs ++ (g, Inv t) ∷ [] else xs) ≡ (if b then of_group g xs ++ Inv t ∷ [] else of_group g xs)
sent-here g u to t c xs true = of_group-push g xs (Inv t)
sent-here g u to t c xs false = refl

sent-other : (u g t : ℕ) (xs : List (ℕ × ToCache)) (b : Bool) → u ≢ g
    → of_group u (if b then xs ++ (g, Inv t) ∷ [] else xs) ≡ of_group u xs
sent-other u g t xs true n = of_group-push_other u g xs (Inv t) n
sent-other u g t xs false n = refl

module _ (group : ℕ) (world : World) (all : EveryGroup world) where
  pub keeps_take : (c : ℕ) (q : Request) (rest : List (ℕ × Request)) → world.transaction ≡ None → world.pending group ≡ false
      → world.request c ≡ (group, q) ∷ rest
      → EveryGroup (action_after group (Action.Takes c q rest) world)
  keeps_take c q rest e f number =
      step group world _ (record (view group world) {
        request = put (view group world).request c (of_group group rest);
        transaction = Some (new_transaction c q);
        pending = true;
        taken_count = world.taken_count group + 1;
      }) all
      (λ p good. takes p (view group world) c q (of_group group rest) good f (option_of_group-none group world.transaction e)
      (of_group-head group (world.request c) rest q number))
      (taken_count-here group _
      (pending-here group _ (transaction-here group (some_is group _) (request-here group c (left group rest) (seen group world)))))
      (λ u n. taken_count-other u group _ n
      (pending-other u group _ n
      (transaction-other u (from_none u group _ world.transaction n e)
      (request-other u c (left_other u group (world.request c) rest q n number) (seen u world)))))

  pub keeps_settle : (c t : ℕ) (rest : List (ℕ × Response)) → NoGranted world.transaction
      → world.response c ≡ (group, CohAck t) ∷ rest
      → EveryGroup (action_after group (Action.Settles c t rest) world)
  keeps_settle c t rest f number =
      step group world _ (record (view group world) {
        response = put (view group world).response c (of_group group rest);
        pending = false;
        settled_count = world.settled_count group + 1;
      }) all
      (λ p good. settles_on p (view group world) c t (of_group group rest) good (settle-none group world.transaction f)
      (of_group-head group (world.response c) rest (CohAck t) number))
      (settled_count-here group _ (pending-here group _ (response-here group c (left group rest) (seen group world))))
      (λ u n. settled_count-other u group _ n
      (pending-other u group _ n (response-other u c (left_other u group (world.response c) rest (CohAck t) n number) (seen u world))))

module _ (group : ℕ) (world : World) (all : EveryGroup world) (x : Transaction) (is : world.transaction ≡ Some (group, x)) where
  now : (view group world).transaction ≡ Some x
  now = option_of_group-some group world.transaction x is

  pub keeps_ack : (c t : ℕ) (rest : List (ℕ × Response)) → x.granted ≡ false → world.response c ≡ (group, InvAck t) ∷ rest
      → EveryGroup (action_after group (Action.CollectsAck c t rest x) world)
  keeps_ack c t rest f number =
      step group world _ (record (view group world) {
        response = put (view group world).response c (of_group group rest);
        transaction = Some (record x { waiting = remove_one c x.waiting });
      }) all
      (λ p good. acks p (view group world) x good now f c t (of_group group rest)
      (of_group-head group (world.response c) rest (InvAck t) number))
      (transaction-here group (some_is group _) (response-here group c (left group rest) (seen group world)))
      (λ u n. transaction-other u (from_some u group _ x world.transaction n is)
      (response-other u c (left_other u group (world.response c) rest (InvAck t) n number) (seen u world)))

  pub keeps_back : (c t : ℕ) (ws : Option (ℕ → ℕ)) (rest : List (ℕ × Response)) → x.granted ≡ false
      → world.response c ≡ (group, answer_of t ws) ∷ rest
      → EveryGroup (action_after group (Action.CollectsAnswer c t ws rest x) world)
  keeps_back c t ws rest f number =
      step group world _ (record (view group world) {
        response = put (view group world).response c (of_group group rest);
        transaction = Some (record x { write_back = write_back_after t ws });
      }) all
      (λ p good. backs p (view group world) x good now f c t ws (of_group group rest)
      (of_group-head group (world.response c) rest _ number))
      (transaction-here group (some_is group _) (response-here group c (left group rest) (seen group world)))
      (λ u n. transaction-other u (from_some u group _ x world.transaction n is)
      (response-other u c (left_other u group (world.response c) rest _ n number) (seen u world)))

  pub keeps_got : (t : ℕ) (ws : ℕ → ℕ) (rest : List (ℕ × MemoryBlock)) → x.granted ≡ false → x.reading ≡ ReadAsked
      → world.memin ≡ (group, record { tag = t; words = ws }) ∷ rest
      → EveryGroup (action_after group (Action.CollectsBlock t ws rest x) world)
  keeps_got t ws rest f r number =
      step group world _ (record (view group world) { memin = of_group group rest; transaction = Some (record x { reading = Got ws }) }) all
      (λ p good. gets p (view group world) x good now f t ws (of_group group rest) (of_group-head group world.memin rest _ number) r)
      (transaction-here group (some_is group _) (memin-here group (left group rest) (seen group world)))
      (λ u n. transaction-other u (from_some u group _ x world.transaction n is)
      (memin-other u (left_other u group world.memin rest _ n number) (seen u world)))

  pub keeps_invalidate : (o : Bool) (to : List ℕ) → x.granted ≡ false → times x.cache to ≡ 0 → ((c : ℕ) → times c to ≤ 1)
      → ((c : ℕ) → times c to ≡ 1 → (w : ℕ) × Holds (world.directory group c w) (request_tag x.request))
      → ((c w : ℕ) → times c to ≡ 1 → Holds (world.directory group c w) (request_tag x.request)
      → is_light (world.directory group c w).state ≡ true) → EveryGroup (action_after group (Action.Invalidates o to x) world)
  keeps_invalidate o to f a b debt e =
      step group world _ (record (view group world) {
        directory = wiped_in_caches to (request_tag x.request) (world.directory group);
        command = inv_to to (request_tag x.request) (view group world).command;
        transaction = Some (record x { waiting = x.waiting ++ to });
      }) all
      (λ p good. invalidates p (view group world) x good now f to a b debt e)
      (transaction-here group (some_is group _)
      (commands-here group _ (inv_to to (request_tag x.request) (view group world).command)
      (λ c. sent-here group group to (request_tag x.request) c (world.command c) (times c to == 1))
      (directory-here group _ (seen group world))))
      (λ u n. transaction-other u (from_some u group _ x world.transaction n is)
      (commands-other u _ (λ c. sent-other u group (request_tag x.request) (world.command c) (times c to == 1) n)
      (directory-other u group _ n (seen u world))))

  pub keeps_flush_sent : (o ow t : ℕ) (y : Coh) → x.granted ≡ false → x.write_back ≡ Idle → Holds (world.directory group o ow) t
      → is_light y ≡ true
      → is_owner_like y ≡ false → (t ≡ request_tag x.request) ⊎ (o ≡ x.cache)
      → EveryGroup (flushes_after group o ow t y x world)
  keeps_flush_sent o ow t y f i a b debt e = step group world _
      (record (view group world) {
        directory = put2 (world.directory group) o ow (with_state (world.directory group o ow) y);
        command = put (view group world).command o ((view group world).command o ++ StWb t y ∷ []);
        transaction = Some (record x { write_back = FlushAsked });
      }) all
      (λ p good. flushes p (view group world) x good now f i o ow t y a b debt e)
      (transaction-here group (some_is group _)
      (command-here group o (pushed group (world.command o) _) (directory-here group _ (seen group world))))
      (λ u n. transaction-other u (from_some u group _ x world.transaction n is)
      (command-other u o (pushed_other u group (world.command o) _ n) (directory-other u group _ n (seen u world))))

  pub keeps_write_back : (b : MemoryBlock) → x.granted ≡ false → x.write_back ≡ FlushKept b
      → EveryGroup (action_after group (Action.WritesBack b x) world)
  keeps_write_back b f i =
      step group world _ (record (view group world) {
        memout = of_group group world.memout ++ Write b.tag b.words ∷ [];
        transaction = Some (record x { write_back = Idle });
      }) all
      (λ p good. writes_back p (view group world) x b good now f i)
      (transaction-here group (some_is group _) (memout-here group (pushed group world.memout _) (seen group world)))
      (λ u n. transaction-other u (from_some u group _ x world.transaction n is)
      (memout-other u (pushed_other u group world.memout _ n) (seen u world)))

  pub keeps_read_sent : x.granted ≡ false → x.write_back ≡ Idle → x.reading ≡ NotRead → asks_read x.request ≡ true
      → ((c w : ℕ) → Holds (world.directory group c w) (request_tag x.request)
      → is_light (world.directory group c w).state ≡ true)
      → EveryGroup (action_after group (Action.ReadsMemory x) world)
  keeps_read_sent f i a b debt =
      step group world _ (record (view group world) {
        memout = of_group group world.memout ++ Read (request_tag x.request) ∷ [];
        transaction = Some (record x { reading = ReadAsked });
      }) all
      (λ p good. reads_in p (view group world) x good now f i a b debt)
      (transaction-here group (some_is group _) (memout-here group (pushed group world.memout _) (seen group world)))
      (λ u n. transaction-other u (from_some u group _ x world.transaction n is)
      (memout-other u (pushed_other u group world.memout _ n) (seen u world)))

  pub keeps_word_sent : (t number : ℕ) (change : ℕ → ℕ) → x.granted ≡ false → x.write_back ≡ Idle → x.waiting ≡ []
      → x.request ≡ UcWr t number change
      → x.written ≡ false
      → x.reading ≡ NotRead → ((c w : ℕ) → Holds (world.directory group c w) t → ⊥)
      → EveryGroup (action_after group (Action.WritesWord t number change x) world)
  keeps_word_sent t number change f i j a b debt e = step group world _
      (record (view group world) {
        memout = of_group group world.memout ++ WriteWord t number change ∷ [];
        transaction = Some (record x { written = true });
      }) all
      (λ p good. writes_word p (view group world) x good now f i j t number change a b debt e)
      (transaction-here group (some_is group _) (memout-here group (pushed group world.memout _) (seen group world)))
      (λ u n. transaction-other u (from_some u group _ x world.transaction n is)
      (memout-other u (pushed_other u group world.memout _ n) (seen u world)))

  -- Only the group of the transaction changes, and there `grants_block` has it: what it asks of the copies the directory's own readings
  -- give.
  pub keeps_grant_block : (ws : ℕ → ℕ) (y : Coh) → x.granted ≡ false → x.write_back ≡ Idle → x.waiting ≡ []
      → x.reading ≡ Got ws
      → asks_block x.request ≡ true
      → request_suits x.request y ≡ true → is_readable y ≡ true → VictimLight x (world.directory group)
      → ((c w : ℕ) → c ≢ x.cache → Holds (world.directory group c w) (request_tag x.request)
      → fits y (world.directory group c w).state ≡ true) → EveryGroup (action_after group (Action.GrantsByBlock ws y x) world)
  keeps_grant_block ws y f i j a b su debt e g = step group world _ (record (view group world) {
    command = put (view group world).command x.cache ((view group world).command x.cache
        ++ Blk (request_tag x.request) (request_way x.request) y ws ∷ []);
    transaction =
        Some (record x {
          granted = true;
          requester_debt = Some (record {
            cache = x.cache;
            way = request_way x.request;
            entry = record { tag = request_tag x.request; state = y };
          });
        });
  }) all
      (λ p good. grants_block p (view group world) x good now f i j ws y a b su debt e g)
      (transaction-here group (some_is group _) (command-here group x.cache (pushed group (world.command x.cache) _) (seen group world)))
      (λ u n. transaction-other u (from_some u group _ x world.transaction n is)
      (command-other u x.cache (pushed_other u group (world.command x.cache) _ n) (seen u world)))

  pub keeps_grant_wake : (t w own : ℕ) → x.granted ≡ false → x.write_back ≡ Idle → x.waiting ≡ [] → x.request ≡ Wr t w
      → is_asked x.reading ≡ false
      → Holds (world.directory group x.cache own) t → ((c i : ℕ) → c ≢ x.cache → Holds (world.directory group c i) t → ⊥)
      → EveryGroup (action_after group (Action.GrantsByWake t w x) world)
  keeps_grant_wake t w own f i j a b debt e = step group world _ (record (view group world) {
    command = put (view group world).command x.cache ((view group world).command x.cache ++ StWake t w ∷ []);
    transaction = Some (record x {
      granted = true;
      requester_debt = Some (record { cache = x.cache; way = w; entry = record { tag = t; state = M } });
    });
  }) all
      (λ p good. grants_wake p (view group world) x good now f i j t w a b own debt e)
      (transaction-here group (some_is group _) (command-here group x.cache (pushed group (world.command x.cache) _) (seen group world)))
      (λ u n. transaction-other u (from_some u group _ x world.transaction n is)
      (command-other u x.cache (pushed_other u group (world.command x.cache) _ n) (seen u world)))

  -- Only the group of the transaction changes, and there `grants_transfer` has it, with the owner that the directory names.
  pub keeps_grant_transfer : (o ow : ℕ) (y z : Coh) → x.granted ≡ false → x.write_back ≡ Idle → x.waiting ≡ []
      → is_asked x.reading ≡ false
      → asks_block x.request ≡ true → request_suits x.request z ≡ true → VictimLight x (world.directory group) → o ≢ x.cache
      → Holds (world.directory group o ow) (request_tag x.request) → is_owner_like (world.directory group o ow).state ≡ true
      → may_pair (world.directory group o ow).state y z ≡ true
      → (z ≡ M → (c w : ℕ) → c ≢ x.cache → c ≢ o → Holds (world.directory group c w) (request_tag x.request) → ⊥)
      → EveryGroup (action_after group (Action.GrantsByTransfer o ow y z x) world)
  keeps_grant_transfer o ow y z f i j a b su debt e g h number l = step group world _ (record (view group world) {
    command = put (view group world).command o ((view group world).command o
        ++ StTr (request_tag x.request) y x.cache (request_way x.request) z ∷ []);
    transaction = Some (record x {
      granted = true;
      requester_debt = Some (record {
        cache = x.cache;
        way = request_way x.request;
        entry = record { tag = request_tag x.request; state = z };
      });
      owner_debt = Some (record { cache = o; way = ow; entry = record { tag = request_tag x.request; state = y } });
    });
  }) all
      (λ p good. grants_transfer p (view group world) x good now f i j o ow y z a b su debt e g h number l)
      (transaction-here group (some_is group _) (command-here group o (pushed group (world.command o) _) (seen group world)))
      (λ u n. transaction-other u (from_some u group _ x world.transaction n is)
      (command-other u o (pushed_other u group (world.command o) _ n) (seen u world)))

  pub keeps_answer : (m : ToCache)
      → ((p : Phase) → Good p (view group world)
      → Fine (record (view group world) {
        command = put (view group world).command x.cache ((view group world).command x.cache ++ m ∷ []);
        transaction = Some (record x { granted = true });
      }))
      → EveryGroup (record world {
        command = put world.command x.cache (world.command x.cache ++ (group, m) ∷ []);
        transaction = Some (group, record x { granted = true });
      })
  keeps_answer m f = step group world _
      (record (view group world) {
        command = put (view group world).command x.cache ((view group world).command x.cache ++ m ∷ []);
        transaction = Some (record x { granted = true });
      }) all f
      (transaction-here group (some_is group _) (command-here group x.cache (pushed group (world.command x.cache) _) (seen group world)))
      (λ u n. transaction-other u (from_some u group _ x world.transaction n is)
      (command-other u x.cache (pushed_other u group (world.command x.cache) _ n) (seen u world)))

  pub keeps_answer_word : (t number : ℕ) (ws : ℕ → ℕ) → x.granted ≡ false → x.write_back ≡ Idle → x.waiting ≡ []
      → x.request ≡ UcRd t number
      → x.reading ≡ Got ws
      → EveryGroup (action_after group (Action.AnswersWord t number ws x) world)
  keeps_answer_word t number ws f i j a b =
      keeps_answer (UcBlk t number (ws number)) (λ p good. answers_word p (view group world) x good now f i j t number ws a b)

  pub keeps_answer_store : (t number : ℕ) (change : ℕ → ℕ) → x.granted ≡ false → x.write_back ≡ Idle → x.waiting ≡ []
      → x.request ≡ UcWr t number change
      → x.written ≡ true
      → is_asked x.reading ≡ false → EveryGroup (action_after group (Action.AnswersStore t number change x) world)
  keeps_answer_store t number change f i j a b debt =
      keeps_answer (UcDone t number) (λ p good. answers_store p (view group world) x good now f i j t number change a b debt)

  pub keeps_answer_evict : (t w : ℕ) → x.granted ≡ false → x.write_back ≡ Idle → x.waiting ≡ []
      → x.request ≡ EvictRequest t w
      → is_asked x.reading ≡ false
      → EveryGroup (action_after group (Action.AnswersEvict t w x) world)
  keeps_answer_evict t w f i j a b = keeps_answer (EvictDone t) (λ p good. answers_evict p (view group world) x good now f i j t w a b)

  pub keeps_pay_own : (debt : Debt) → x.granted ≡ true → x.requester_debt ≡ Some debt
      → EveryGroup (action_after group (Action.PaysRequester debt x) world)
  keeps_pay_own debt f e =
      step group world _ (record (view group world) {
        directory = put2 (world.directory group) debt.cache debt.way debt.entry;
        transaction = Some (record x { requester_debt = None });
      }) all
      (λ p good. (p, own_paid p (view group world) x good now f debt e))
      (transaction-here group (some_is group _) (directory-here group _ (seen group world)))
      (λ u n. transaction-other u (from_some u group _ x world.transaction n is) (directory-other u group _ n (seen u world)))

  pub keeps_pay_owner : (debt : Debt) → x.granted ≡ true → x.owner_debt ≡ Some debt
      → EveryGroup (action_after group (Action.PaysOwner debt x) world)
  keeps_pay_owner debt f e =
      step group world _ (record (view group world) {
        directory = put2 (world.directory group) debt.cache debt.way debt.entry;
        transaction = Some (record x { owner_debt = None });
      }) all
      (λ p good. (p, owner_paid p (view group world) x good now f debt e))
      (transaction-here group (some_is group _) (directory-here group _ (seen group world)))
      (λ u n. transaction-other u (from_some u group _ x world.transaction n is) (directory-other u group _ n (seen u world)))

  pub keeps_finish : x.granted ≡ true → x.requester_debt ≡ None → x.owner_debt ≡ None
      → EveryGroup (action_after group (Action.Finishes x) world)
  keeps_finish f debt e = step group world _ (record (view group world) { transaction = None }) all
      (λ p good. (p, finished_good p (view group world) x good now f debt e))
      (transaction-here group (none_is group) (seen group world))
      (λ u n. transaction-other u (to_none u group x world.transaction n is) (seen u world))
