-- What an instruction does to the machine's state is what its action does.
use Rattle.std.proofs.Common.{◌≡◌, ℕ, ◌+◌, drop, Bool, true, false, refl, sym, ap, subst, ◌∙◌, arith, List, ◌∷◌, ◌++◌, Option, Some, None, ◌==◌}
use Rattle.std.specs.Prelude.{option_map, unwrap_or, if◌then◌else◌}
use Rattle.std.proofs.lemmas.Bool.Decides.{nat_tests}
use Rattle.std.proofs.lemmas.Option.{same_Some}
use Rattle.bk_base.specs.Places.{Shape, group_of, tag_at, word_of}
use Rattle.bk_base.specs.Tables.{put}
use Rattle.bk_base.specs.declared.coh.Coh.{Coh}
use Rattle.bk_base.specs.declared.coh.Coh.TheVariants as states
use Rattle.bk_isa.specs.declared.form.Form.{Form}
use Rattle.bk_isa.specs.declared.form.Form.TheVariants as forms
use Rattle.bk_msg.specs.declared.row.Row.{Row}
use Rattle.bk_msg.specs.declared.row.Row.TheVariants as rows
use Rattle.bk_engine.specs.declared.parts.Core.{Core}
use Rattle.bk_engine.specs.declared.parts.Held.{Held}
use Rattle.bk_engine.specs.declared.parts.DirtyBlock.{DirtyBlock}
use Rattle.bk_engine.specs.declared.parts.RequestKind.{RequestKind}
use Rattle.bk_engine.specs.declared.parts.RequestKind.TheVariants as kinds
use Rattle.bk_machine.specs.Actions.{Action, Takes, Settles, CollectsAck, CollectsAnswer, CollectsBlock, with_command_sent, with_transaction, Invalidates, FlushesVictim, FlushesOwn, FlushesOwner, WritesBack, ReadsMemory, WritesWord, GrantsByBlock, GrantsByWake, GrantsByTransfer, AnswersWord, AnswersStore, AnswersEvict, PaysRequester, PaysOwner, Finishes, Idles, action_after, invalidation_targets}
use Rattle.bk_machine.specs.Actions as actions
use Rattle.bk_machine.specs.Directory as machine
use Rattle.bk_machine.specs.Entries.{with_state}
use Rattle.bk_machine.specs.Messages.{becomes, StTr, Blk, StWake, UcBlk, UcDone, EvictDone, Read, Write, request_tag, request_way, Request, Response, MemoryBlock, InvAck, CohAck, answer_of}
use Rattle.bk_machine.specs.Products.{words_of, as_request, as_response, as_block}
use Rattle.bk_machine.specs.Transactions.{Idle, ReadAsked, Transaction, new_transaction}
use Rattle.bk_machine.specs.World.{World}
use Rattle.bk_bridge.specs.Acting.{request_by, Serves, PopsAlike, debt_at, victim_action, flush_action, kept_action, pay_action, action_of}
use Rattle.bk_bridge.specs.Effects as effects
use Rattle.bk_bridge.specs.Effects.{pops_head}

-- the tag of the request that is served
kind-tag : (k : Shape) (kind : RequestKind) (h : Held) → request_tag (request_by k kind h) ≡ tag_at k h.addr
kind-tag k kinds.Rd h = refl
kind-tag k kinds.Wr h = refl
kind-tag k kinds.UcRd h = refl
kind-tag k kinds.UcWr h = refl
kind-tag k kinds.Evict h = refl

pub serves-tag : (k : Shape) (h : Held) (x : Transaction) → Serves k h x → request_tag x.request ≡ tag_at k h.addr
serves-tag k h x serves = ap request_tag serves.request ∙ kind-tag k h.kind h

module _ (k : Shape) (core : Core) (h : Held) (x : Transaction) (world : World) (serves : Serves k h x) where
  abbrev s : ℕ
  s = group_of k h.addr

  abbrev t : ℕ
  t = tag_at k h.addr

  -- what is done, with the action's transaction
  abbrev Alike : World → Action → Type 0
  Alike done a = record done { transaction = (action_after s a world).transaction } ≡ action_after s a world

  cache : h.source ≡ x.cache
  cache = sym serves.cache

  tag : t ≡ request_tag x.request
  tag = sym (serves-tag k h x serves)

  way : h.way ≡ request_way x.request
  way = sym serves.way

  -- an action that is there
  only : (a b : Action) (done : World) → Alike done a → Some a ≡ Some b → Alike done b
  only a b done p i = let same : a ≡ b = cc in subst (Alike done) same p

  -- MESSAGES

  invalidated : (f : Bool) (to : List ℕ) → Alike (effects.invalidates s t to world) (Invalidates f to x)
  invalidated f to = λ j. with_transaction s (record x { waiting = x.waiting ++ to }) (effects.invalidates s (tag j) to world)

  transferred : (o w : ℕ) (a y : Coh) → Alike (with_command_sent s o (StTr t a h.source h.way y) world) (GrantsByTransfer o w a y x)
  transferred o w a y =
      λ j. with_transaction s (record x {
        granted = true;
        requester_debt = actions.debt_of_requester x y;
        owner_debt = actions.debt_of_owner o w x a;
      }) (with_command_sent s o (StTr (tag j) a (cache j) (way j) y) world)

  granted : (ws : ℕ → ℕ) (y : Coh) → Alike (with_command_sent s h.source (Blk t h.way y ws) world) (GrantsByBlock ws y x)
  granted ws y = λ j. with_transaction s (record x { granted = true; requester_debt = actions.debt_of_requester x y })
      (with_command_sent s (cache j) (Blk (tag j) (way j) y ws) world)

  woken : Alike (with_command_sent s h.source (StWake t h.way) world) (GrantsByWake t h.way x)
  woken = λ j. record (action_after s (GrantsByWake t h.way x) world)
      { command = (with_command_sent s (cache j) (StWake t h.way) world).command }

  answered : (i : ℕ) (ws : ℕ → ℕ) → Alike (with_command_sent s h.source (UcBlk t i (ws i)) world) (AnswersWord t i ws x)
  answered i ws = λ j. with_transaction s (record x { granted = true }) (with_command_sent s (cache j) (UcBlk t i (ws i)) world)

  stored : (i : ℕ) (f : ℕ → ℕ) → Alike (with_command_sent s h.source (UcDone t i) world) (AnswersStore t i f x)
  stored i f = λ j. with_transaction s (record x { granted = true }) (with_command_sent s (cache j) (UcDone t i) world)

  evicted : Alike (with_command_sent s h.source (EvictDone t) world) (AnswersEvict t h.way x)
  evicted = λ j. with_transaction s (record x { granted = true }) (with_command_sent s (cache j) (EvictDone t) world)

  read : Alike (effects.tells_memory s (Read t) world) (ReadsMemory x)
  read = λ j. with_transaction s (record x { reading = ReadAsked }) (effects.tells_memory s (Read (tag j)) world)

  -- FLUSHES

  own-flushed : (w : ℕ) (y : Coh) → Alike (effects.flushes s (Some (h.source, w)) t y world) (FlushesOwn w y x)
  own-flushed w y = λ j. actions.with_flush s (cache j) w (tag j) y x world

  owner-flushed : (o w : ℕ) (y : Coh) → Alike (effects.flushes s (Some (o, w)) t y world) (FlushesOwner o w y x)
  owner-flushed o w y = λ j. actions.with_flush s o w (tag j) y x world

  victim-flushed : Alike (effects.flushes s (Some (h.source, h.way)) (world.directory s h.source h.way).tag states.I world)
      (FlushesVictim x)
  victim-flushed = λ j. actions.with_flush s (cache j) (way j) (world.directory s (cache j) (way j)).tag states.I x world

  victim-case : (y : Coh) (a : Action) → victim_action y x ≡ Some a
      → Alike (effects.flushes s (Some (h.source, h.way)) (world.directory s h.source h.way).tag y world) a
  victim-case states.I a i =
      only (FlushesVictim x) a (effects.flushes s (Some (h.source, h.way)) (world.directory s h.source h.way).tag states.I world)
      victim-flushed i
  victim-case states.S a i = absurd (cc)
  victim-case states.E a i = absurd (cc)
  victim-case states.F a i = absurd (cc)
  victim-case states.M a i = absurd (cc)
  victim-case states.O a i = absurd (cc)

  own-case : (o : Option ℕ) (y : Coh) (a : Action) → option_map (λ w. FlushesOwn w y x) o ≡ Some a
      → Alike (effects.flushes s (Some (h.source, unwrap_or o 0)) t y world) a
  own-case None y a i = absurd (cc)
  own-case (Some w) y a i = only (FlushesOwn w y x) a (effects.flushes s (Some (h.source, w)) t y world) (own-flushed w y) i

  owner-case : (o : Option (ℕ × ℕ)) (y : Coh) (a : Action)
      → option_map (λ (at : ℕ × ℕ). FlushesOwner at.0 at.1 y x) o ≡ Some a
      → Alike (effects.flushes s o t y world) a
  owner-case None y a i = absurd (cc)
  owner-case (Some at) y a i = only (FlushesOwner at.0 at.1 y x) a (effects.flushes s (Some at) t y world) (owner-flushed at.0 at.1 y) i

  flush-case : (who : ℕ) (y : Coh) (a : Action) → flush_action k h who y x world ≡ Some a
      → Alike (effects.flushes s (effects.place_of k h who world) (effects.flushed_tag k h who world) y world) a
  flush-case who y a i = go (who == 0) (who == 1) i
    where
      own : Option ℕ
      own = machine.own_way k.ways (world.directory s) h.source t

      owner : Option (ℕ × ℕ)
      owner = effects.owner_place k h world

      go : (b0 b1 : Bool)
          → (if b0 then option_map (λ w. FlushesOwn w y x) own else if b1
          then option_map (λ (at : ℕ × ℕ). FlushesOwner at.0 at.1 y x) owner
          else victim_action y x) ≡ Some a
          → Alike (effects.flushes s (if b0 then Some (h.source, unwrap_or own 0) else if b1 then owner else Some (h.source, h.way))
          (if b0 then t else if b1 then t else (world.directory s h.source h.way).tag) y world) a
      go true b1 i = own-case own y a i
      go false true i = owner-case owner y a i
      go false false i = victim-case y a i

  -- DEBTS

  paid-case : (o : Option (ℕ × ℕ)) (y : Coh) (a : Action)
      → option_map (λ (at : ℕ
      × ℕ). PaysOwner (record { cache = at.0; way = at.1; entry = with_state (world.directory s at.0 at.1) y })
      x) o ≡ Some a
      → Alike (effects.writes_state s o y world) a
  paid-case None y a i = absurd (cc)
  paid-case (Some at) y a i = only (PaysOwner (record { cache = at.0; way = at.1; entry = with_state (world.directory s at.0 at.1) y }) x) a
      (effects.writes_state s (Some at) y world) refl i

  pay-case : (who : ℕ) (y : Coh) (a : Action) → pay_action k h who y x world ≡ Some a
      → Alike (effects.writes_state s (effects.place_of k h who world) y world) a
  pay-case who y a i = go (who == 0) (who == 1) i
    where
      owner : Option (ℕ × ℕ)
      owner = effects.owner_place k h world

      own : ℕ × ℕ
      own = effects.own_place k h world

      go : (b0 b1 : Bool)
          → (if b0 then Some (PaysRequester (debt_at k h own y world) x) else if b1
          then option_map (λ (at : ℕ × ℕ). PaysOwner (debt_at k h at y world) x) owner else None) ≡ Some a
          → Alike (effects.writes_state s (if b0 then Some own else if b1 then owner else Some (h.source, h.way)) y world) a
      go true b1 i = only (PaysRequester (debt_at k h own y world) x) a (effects.writes_state s (Some own) y world) refl i
      go false true i = paid-case owner y a i
      go false false i = absurd (cc)

  -- OPTIONS

  transfer-case : (o : Option (ℕ × ℕ)) (y z : Coh) (a : Action)
      → option_map (λ (at : ℕ × ℕ). GrantsByTransfer at.0 at.1 y z x) o ≡ Some a
      → Alike (effects.transfers k h o y z world) a
  transfer-case None y z a i = absurd (cc)
  transfer-case (Some at) y z a i =
      only (GrantsByTransfer at.0 at.1 y z x) a (effects.transfers k h (Some at) y z world) (transferred at.0 at.1 y z) i

  grant-case : (o : Option (List ℕ)) (y : Coh) (a : Action) → option_map (λ words. GrantsByBlock (words_of words) y x) o ≡ Some a
      → Alike (effects.grants k h y o world) a
  grant-case None y a i = absurd (cc)
  grant-case (Some words) y a i =
      only (GrantsByBlock (words_of words) y x) a (effects.grants k h y (Some words) world) (granted (words_of words) y) i

  word-case : (o : Option (List ℕ)) (a : Action) → option_map (λ words. AnswersWord t (word_of h.addr) (words_of words) x) o ≡ Some a
      → Alike (effects.answers_word k h o world) a
  word-case None a i = absurd (cc)
  word-case (Some words) a i = only (AnswersWord t (word_of h.addr) (words_of words) x) a (effects.answers_word k h (Some words) world)
      (answered (word_of h.addr) (words_of words)) i

  kept-case : (o : Option DirtyBlock) (a : Action) → kept_action k h o x ≡ Some a → Alike (effects.writes_back k o world) a
  kept-case None a i = absurd (cc)
  kept-case (Some kept) a i = go (group_of k kept.addr == s) refl i
    where
      same-group : (number n : ℕ) → (number == n) ≡ true → number ≡ n
      same-group number n h = grind (arith, nat_tests)

      done : Action
      done = WritesBack (record { tag = tag_at k kept.addr; words = words_of kept.words }) x

      written : group_of k kept.addr ≡ s → Alike (effects.writes_back k (Some kept) world) done
      written g = λ j. with_transaction s (record x { write_back = Idle })
          (effects.tells_memory (g j) (Write (tag_at k kept.addr) (words_of kept.words)) world)

      go : (b : Bool) → (group_of k kept.addr == s) ≡ b → (if b then Some done else None) ≡ Some a
          → Alike (effects.writes_back k (Some kept) world) a
      go true g i = only done a (effects.writes_back k (Some kept) world) (written (same-group (group_of k kept.addr) s g)) i
      go false g i = absurd (cc)

  -- THE TABLE

  -- For each instruction with an action, the action changes the same parts of the state; only the transaction differs, and it is set
  -- aside.
  for-action : (f : Form) (a : Action) → action_of k core h x world f ≡ Some a → effects.is_pop f ≡ false
      → (f ≡ forms.Memwb → ⊥)
      → Alike (effects.done_for k core h f world) a
  for-action (forms.Inv b) a i p number =
      only (Invalidates (b == 1)
      (invalidation_targets (b == 1) (machine.owner k.caches k.ways (world.directory s) h.source t)
      (machine.others k.caches k.ways (world.directory s) h.source t)) x) a (effects.done_for k core h (forms.Inv b) world)
      (invalidated (b == 1) _) i
  for-action (forms.Stwb who y) a i p number = flush-case who y a i
  for-action (forms.Tr y z) a i p number = transfer-case (effects.owner_place k h world) y z a i
  for-action (forms.Blk y) a i p number = grant-case core.got y a i
  for-action forms.Wake a i p number = only (GrantsByWake t h.way x) a (effects.done_for k core h forms.Wake world) woken i
  for-action forms.Ucblk a i p number = word-case core.got a i
  for-action forms.Ucdone a i p number =
      only (AnswersStore t (word_of h.addr) (becomes h.value) x) a (effects.done_for k core h forms.Ucdone world)
      (stored (word_of h.addr) (becomes h.value)) i
  for-action forms.Done a i p number = only (AnswersEvict t h.way x) a (effects.done_for k core h forms.Done world) evicted i
  for-action forms.Memrd a i p number = only (ReadsMemory x) a (effects.done_for k core h forms.Memrd world) read i
  for-action forms.Memww a i p number =
      only (WritesWord t (word_of h.addr) (becomes h.value) x) a (effects.done_for k core h forms.Memww world) refl i
  for-action forms.Memwb a i p number = absurd (number refl)
  for-action (forms.Wde y) a i p number =
      only (PaysRequester (record { cache = h.source; way = h.way; entry = record { tag = t; state = y } }) x) a
      (effects.done_for k core h (forms.Wde y) world) refl i
  for-action (forms.Wds who y) a i p number = pay-case who y a i
  for-action forms.Fin a i p number = only (Finishes x) a (effects.done_for k core h forms.Fin world) refl i
  for-action (forms.Popq wp) a i p number = absurd (cc)
  for-action f a i p number = only Idles a (effects.done_for k core h f world) refl i

pub actions-alike : (k : Shape) (core : Core) (h : Held) (x : Transaction) (world : World) (f : Form) (a : Action)
    → Serves k h x → core.held ≡ Some h → action_of k core h x world f ≡ Some a
    → record (effects.done_by k core f world) { transaction = (action_after (group_of k h.addr) a world).transaction }
    ≡ action_after (group_of k h.addr) a world
actions-alike k core h x world forms.Memwb a serves held i = kept-case k core h x world serves core.dirty a i
actions-alike k core h x world (forms.Popq wp) a serves held i = absurd (cc)
actions-alike k core h x world f a serves held i =
    ap (λ (o : Option Held).
    record (effects.done_held k core o f world) { transaction = (action_after (group_of k h.addr) a world).transaction }) held
    ∙ for-action k core h x world serves f a i refl (λ m. absurd (cc))

-- POPQ

-- the group and the message of a message
part-0 : {X : Type 0} (p q : ℕ × X) → Some p ≡ Some q → p.0 ≡ q.0
part-0 {X} p q e = ap (λ (r : ℕ × X). r.0) (same_Some p q e)

part-1 : {X : Type 0} (p q : ℕ × X) → Some p ≡ Some q → p.1 ≡ q.1
part-1 {X} p q e = ap (λ (r : ℕ × X). r.1) (same_Some p q e)

module _ (k : Shape) (c : ℕ) (world : World) where
  taken : (g group : ℕ) (q : Request) (rest : List (ℕ × Request)) → g ≡ group → world.request c ≡ (group, q) ∷ rest
      → record (effects.takes true g c world) { transaction = Some (group, new_transaction c q) }
      ≡ action_after group (Takes c q rest) world
  taken g group q rest e f =
      let left : drop 1 (world.request c) ≡ rest = ap (drop 1) f in
      λ j. record world {
        request = put world.request c (left j);
        transaction = Some (group, new_transaction c q);
        pending = put world.pending (e j) true;
        taken_count = put world.taken_count (e j) (world.taken_count (e j) + 1);
      }

  take-of : (m : Row) (group : ℕ) (q : Request) (rest : List (ℕ × Request)) → as_request k m ≡ Some (group, q)
      → world.request c ≡ (group, q) ∷ rest
      → record (pops_head k true c m world) { transaction = Some (group, new_transaction c q) }
      ≡ action_after group (Takes c q rest) world
  take-of (rows.Rd _ _ _ addr) group q rest e f = let g : group_of k addr ≡ group = part-0 _ _ e
      in taken (group_of k addr) group q rest g f
  take-of (rows.Wr _ _ _ addr) group q rest e f = let g : group_of k addr ≡ group = part-0 _ _ e
      in taken (group_of k addr) group q rest g f
  take-of (rows.UcRd _ _ addr) group q rest e f = let g : group_of k addr ≡ group = part-0 _ _ e
      in taken (group_of k addr) group q rest g f
  take-of (rows.UcWr _ _ addr _) group q rest e f = let g : group_of k addr ≡ group = part-0 _ _ e
      in taken (group_of k addr) group q rest g f
  take-of (rows.Evict _ _ _ addr) group q rest e f = let g : group_of k addr ≡ group = part-0 _ _ e
      in taken (group_of k addr) group q rest g f
  take-of m group q rest e f = absurd (cc)

  settled : (g group t : ℕ) (rest : List (ℕ × Response)) → g ≡ group → world.response c ≡ (group, CohAck t) ∷ rest
      → effects.settles true g c world ≡ action_after group (Settles c t rest) world
  settled g group t rest e f =
      let left : drop 1 (world.response c) ≡ rest = ap (drop 1) f in
      λ j. record world {
        response = put world.response c (left j);
        pending = put world.pending (e j) false;
        settled_count = put world.settled_count (e j) (world.settled_count (e j) + 1);
      }

  settle-of : (m : Row) (group t : ℕ) (rest : List (ℕ × Response)) → as_response k m ≡ Some (group, CohAck t)
      → world.response c ≡ (group, CohAck t) ∷ rest
      → pops_head k true c m world ≡ action_after group (Settles c t rest) world
  settle-of (rows.CohAck _ _ addr) group t rest e f = let g : group_of k addr ≡ group = part-0 _ _ e
      in settled (group_of k addr) group t rest g f
  settle-of (rows.InvAck _ _ addr) group t rest e f = absurd (let r = part-1 _ _ e in cc)
  settle-of (rows.Wb _ _ addr words) group t rest e f = absurd (let r = part-1 _ _ e in cc)
  settle-of (rows.NullWb _ _ addr) group t rest e f = absurd (let r = part-1 _ _ e in cc)
  settle-of m group t rest e f = absurd (cc)

  -- an answer of a cache, without `wp`
  collected : (g group : ℕ) (r : Response) (rest : List (ℕ × Response)) (x : Transaction) → world.response c ≡ (group, r) ∷ rest
      → record (effects.collects false g c world) { transaction = Some (group, x) }
      ≡ with_transaction group x (record world { response = put world.response c rest })
  collected g group r rest x f =
      let left : drop 1 (world.response c) ≡ rest = ap (drop 1) f in
      λ j. record world { response = put world.response c (left j); transaction = Some (group, x) }

  ack-of : (m : Row) (group t : ℕ) (rest : List (ℕ × Response)) (x : Transaction) → as_response k m ≡ Some (group, InvAck t)
      → world.response c ≡ (group, InvAck t) ∷ rest
      → record (pops_head k false c m world) { transaction = (action_after group (CollectsAck c t rest x) world).transaction }
      ≡ action_after group (CollectsAck c t rest x) world
  ack-of (rows.InvAck _ _ addr) group t rest x e f = collected (group_of k addr) group (InvAck t) rest _ f
  ack-of (rows.CohAck _ _ addr) group t rest x e f = absurd (let r = part-1 _ _ e in cc)
  ack-of (rows.Wb _ _ addr words) group t rest x e f = absurd (let r = part-1 _ _ e in cc)
  ack-of (rows.NullWb _ _ addr) group t rest x e f = absurd (let r = part-1 _ _ e in cc)
  ack-of m group t rest x e f = absurd (cc)

  answer-of : (m : Row) (group t : ℕ) (ws : Option (ℕ → ℕ)) (rest : List (ℕ × Response)) (x : Transaction)
      → as_response k m ≡ Some (group, answer_of t ws)
      → world.response c ≡ (group, answer_of t ws) ∷ rest
      → record (pops_head k false c m world) { transaction = (action_after group (CollectsAnswer c t ws rest x) world).transaction }
      ≡ action_after group (CollectsAnswer c t ws rest x) world
  answer-of (rows.Wb _ _ addr words) group t ws rest x e f = collected (group_of k addr) group (answer_of t ws) rest _ f
  answer-of (rows.NullWb _ _ addr) group t ws rest x e f = collected (group_of k addr) group (answer_of t ws) rest _ f
  answer-of (rows.InvAck _ _ addr) group t None rest x e f = absurd (let r = part-1 _ _ e in cc)
  answer-of (rows.InvAck _ _ addr) group t (Some ws) rest x e f = absurd (let r = part-1 _ _ e in cc)
  answer-of (rows.CohAck _ _ addr) group t None rest x e f = absurd (let r = part-1 _ _ e in cc)
  answer-of (rows.CohAck _ _ addr) group t (Some ws) rest x e f = absurd (let r = part-1 _ _ e in cc)
  answer-of m group t ws rest x e f = absurd (cc)

  block-of : (wp : Bool) (m : Row) (group : ℕ) (b : MemoryBlock) (rest : List (ℕ × MemoryBlock)) (x : Transaction)
      → as_block k m ≡ Some (group, b) → world.memin ≡ (group, b) ∷ rest
      → record (pops_head k wp c m world) { transaction = (action_after group (CollectsBlock b.tag b.words rest x) world).transaction }
      ≡ action_after group (CollectsBlock b.tag b.words rest x) world
  block-of wp (rows.Block _ _ addr words) group b rest x e f =
      let left : drop 1 world.memin ≡ rest = ap (drop 1) f in
      λ j. record (action_after group (CollectsBlock b.tag b.words rest x) world) { memin = left j }
  block-of wp m group b rest x e f = absurd (cc)

pub heads-alike : (k : Shape) (c : ℕ) (m : Row) (world : World) → PopsAlike k c m world
heads-alike k c m world = record {
  take = take-of k c world m;
  settle = settle-of k c world m;
  ack = ack-of k c world m;
  answer = answer-of k c world m;
  block = λ wp. block-of k c world wp m;
}
