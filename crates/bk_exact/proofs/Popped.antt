-- The head that `popq` takes off: it is taken, settled or collected, and what is told after it agrees with the engine.
use Rattle.std.proofs.Common.{◌≡◌, ℕ, ◌+◌, ◌-◌, ◌==◌, Bool, true, false, refl, sym, ap, ◌∙◌, subst, arith, List, drop, length, Option, Some, None}
use Rattle.std.specs.Prelude.{option_map}
use Rattle.std.proofs.lemmas.Bool.{and_parts}
use Rattle.std.proofs.lemmas.Bool.Decides.{nat_tests}
use Rattle.bk_base.specs.Places.{Shape, group_of, tag_at}
use Rattle.bk_isa.specs.declared.form.Form.TheVariants as forms
use Rattle.bk_know.specs.declared.sets.Sets.{Sets}
use Rattle.bk_know.specs.Sets.{only}
use Rattle.bk_isa.specs.declared.operand.TheConstants.{PLAIN}
use Rattle.bk_know.specs.declared.values.TheConstants.{GP_FREE, STAGE_IDLE}
use Rattle.bk_order.proofs.Meets.{Met}
use Rattle.bk_msg.specs.declared.row.Row.{Row}
use Rattle.bk_msg.specs.declared.row.Row.TheVariants as rows
use Rattle.bk_msg.specs.declared.row.Network.TheVariants as networks
use Rattle.bk_msg.specs.Networks.{network_of}
use Rattle.bk_engine.specs.declared.parts.Choice.{Choice}
use Rattle.bk_engine.specs.declared.parts.Core.{Core}
use Rattle.bk_engine.specs.declared.parts.Head.{Head}
use Rattle.bk_engine.specs.declared.parts.Held.{Held}
use Rattle.bk_engine.specs.declared.parts.RequestKind.TheVariants as kinds
use Rattle.bk_engine.specs.Heads.{head_value}
use Rattle.bk_engine.specs.Reads.{number_of}
use Rattle.bk_engine.specs.Changes.{core_after, after_pop, next_place}
use Rattle.bk_system.specs.State.{State}
use Rattle.bk_system.specs.Events.{offered_head}
use Rattle.bk_machine.specs.Actions.{Action, Permitted, Takes, Settles, CollectsAck, CollectsAnswer, CollectsBlock, action_after}
use Rattle.bk_machine.specs.Messages.{Request, InvAck, CohAck, MemoryBlock, answer_of, request_way}
use Rattle.bk_machine.specs.Products.{words_of, as_request}
use Rattle.bk_machine.specs.Transactions.{Idle, FlushKept, Reading, NotRead, ReadAsked, Got, Transaction, new_transaction, remove_one}
use Rattle.bk_machine.specs.World.{World}
use Rattle.bk_machine.proofs.Fall.{acks_fall}
use Rattle.bk_bridge.specs.Acting.{request_for}
use Rattle.bk_bridge.specs.Effects.{pops_head}
use Rattle.bk_bridge.proofs.Acting.{heads-alike}
use Rattle.bk_exact.specs.Told.{Told}
use Rattle.bk_exact.specs.Exact.{exact, gp_of}
use Rattle.bk_exact.specs.Agrees.{ServesHeld, ServesTold, AgreesWith, LeavesDeferred, KeptAlike, GotAlike}
use Rattle.bk_exact.specs.After.{action_at, pop_action, head_action, transaction_after, deferred_after, deferred_by_head, told_after}
use Rattle.bk_exact.specs.Runs.{Acts}
use Rattle.bk_exact.specs.Ties.{Tied, told_world}
use Rattle.bk_exact.proofs.Blocks.{asked-none, none-idle}
use Rattle.bk_exact.proofs.Fronts.{by-class, request-front, response-front, block-front, ack-of, wb-of, null_wb-of, block-of}
use Rattle.bk_exact.proofs.Idles.{serves-open}
use Rattle.bk_exact.proofs.Moves.{serves-as, told-serves, no-deferred, none-left}
use Rattle.bk_exact.proofs.Parts.{clash, some-times}
use Rattle.bk_exact.proofs.Serving.{served, unserved}
use Rattle.bk_exact.proofs.Values as values

gp-free : (b : Bool) → (only (number_of b) == GP_FREE) ≡ true → b ≡ false
gp-free b e = grind arith

plain : (wp : ℕ) → (wp == PLAIN) ≡ true → (wp == 1) ≡ false
plain wp e = grind (arith, nat_tests)

not-both : (r : Reading) → r ≡ NotRead → r ≡ ReadAsked → ⊥
not-both r i j = grind arith

-- `popq` is an action of the machine, and engine and deferred request agree with what is told after it
pub record Pops (k : Shape) (s : State) (told : Told) (wp : ℕ) (head : Head) : Type 0 where
  pub acts : Acts k s told (forms.Popq wp)
  pub alike : record (pops_head k (wp == 1) head.choice.source head.message (told_world k s told)) {
    transaction = (action_after acts.group acts.action (told_world k s told)).transaction;
  } ≡ action_after acts.group acts.action (told_world k s told)
  pub agrees : (choice : Choice) (message : Option Row)
      → AgreesWith k (core_after k s.engine (forms.Popq wp) choice message)
      (told_after k s.engine.core (told_world k s told) (forms.Popq wp) told)
  pub left : LeavesDeferred (action_after acts.group acts.action (told_world k s told))
      (deferred_after k s.engine.core (forms.Popq wp) told.deferred)

module _ (k : Shape) (later : State) (told : Told) (tied : Tied k later told) (wp : ℕ) (choice : Choice) where
  abbrev e : Core
  e = later.engine.core

  abbrev w : World
  w = told_world k later told

  abbrev c : ℕ
  c = choice.source

  abbrev at : Row → Head
  at m = record { choice = choice; message = m }

  -- the exact mask with this head
  abbrev mask : Row → Sets
  mask m = record (exact k later.engine told) { head = only (head_value (Some (at m))); gp = gp_of later.engine.directory k (Some (at m)) }

  -- the obligations of the mask with this head
  met-at : (m : Row) → e.head ≡ Some (at m) → Met (forms.Popq wp) (exact k later.engine told) → Met (forms.Popq wp) (mask m)
  met-at m i o =
      subst
      (λ (q : Option Head). Met (forms.Popq wp) (record (exact k later.engine told) {
        head = only (head_value q);
        gp = gp_of later.engine.directory k q;
      })) i o

  -- the action of a head, and what is told after it
  pops : (m : Row) → e.head ≡ Some (at m) → (group : ℕ) (a : Action) → pop_action k told.transaction c m w ≡ Some (group, a)
      → Permitted k group a w
      → record (pops_head k (wp == 1) c m w) { transaction = (action_after group a w).transaction } ≡ action_after group a w
      → (held : Option Held) (tx : Option (ℕ × Transaction)) → (action_after group a w).transaction ≡ tx
      → (after_pop e (Some (at m))).held ≡ held
      → ((p : ℕ) → ServesTold k (record (after_pop e (Some (at m))) { place = p }) held tx)
      → LeavesDeferred (action_after group a w) (deferred_by_head (Some (at m)) told.deferred) → Pops k later told wp (at m)
  pops m i group a j p alike held tx g h serves left =
      let is : action_at k e w (forms.Popq wp) ≡ Some (group, a) =
      ap (λ (o : Option Head). head_action k told.transaction o w) i ∙ j in
      record {
        acts = record { group = group; action = a; is = is; permitted = p };
        alike = alike;
        agrees = λ d r.
            subst (λ (o : Option Head). ServesTold k (record (after_pop e o) { place = next_place k later.engine (forms.Popq wp) })
            (after_pop e o).held
            (transaction_after w (action_at k e w (forms.Popq wp)))) (sym i)
            (told-serves k (record (after_pop e (Some (at m))) { place = next_place k later.engine (forms.Popq wp) })
            (after_pop e (Some (at m))).held held
            (transaction_after w (action_at k e w (forms.Popq wp))) tx h (ap (transaction_after w) is ∙ g)
            (serves (next_place k later.engine (forms.Popq wp))));
        left = subst (λ (o : Option Head). LeavesDeferred (action_after group a w) (deferred_by_head o told.deferred)) (sym i) left;
      }

  -- A REQUEST is taken where none is held and its group isn't pending

  -- O8 has the stage Idle and the group free, so there is no transaction and nothing is deferred, which is what a take needs. An engine
  -- that serves nothing has no acks and keeps no block, as the new transaction begins; `wp`, by O9, makes the group pending in both.
  take : (m : Row) (q : Request) (h : Held) → e.head ≡ Some (at m) → offered_head later choice ≡ Some m
      → network_of m ≡ networks.Request
      → as_request k m ≡ Some (group_of k h.addr, q)
      → pop_action k told.transaction c m w ≡ Some (group_of k h.addr, Takes c q (drop 1 (w.request c)))
      → after_pop e (Some (at m)) ≡ record e { head = None; held = Some h }
      → deferred_by_head (Some (at m)) told.deferred ≡ told.deferred
      → h.source ≡ c → q ≡ request_for k h → request_way q ≡ h.way
      → (((exact k later.engine told).stage == STAGE_IDLE) ≡ true)
      × ((only (number_of (later.engine.directory.pending (group_of k h.addr))) == GP_FREE) ≡ true)
      → (wp == 1) ≡ true → Pops k later told wp (at m)
  take m q h i f net said j pop stays src req way idle mark =
      let group : ℕ = group_of k h.addr in
      let act : Action = Takes c q (drop 1 (w.request c)) in
      let none = values.stage-idle told.transaction told.deferred idle.0 in
      let was = unserved k e e.held told.transaction tied.agrees none.0 in
      let front = request-front k later told tied choice m f (group, q) net said in
      pops m i group act j (none.0, front, gp-free (later.engine.directory.pending group) idle.1)
      (subst (λ (b : Bool). record (pops_head k b c m w) { transaction = Some (group, new_transaction c q) }
      ≡ action_after group act w) (sym mark)
      ((heads-alike k c m w).take group q (drop 1 (w.request c)) said front))
      (Some h) (Some (group, new_transaction c q)) refl (ap (λ (core : Core). core.held) pop)
      (λ p. subst (λ (core : Core). ServesHeld k (record core { place = p }) h group (new_transaction c q)) (sym pop) (record {
        group = refl;
        serves = record { cache = sym src; request = req; way = way };
        acks = was.0.acks;
        kept = none-idle k group e.dirty was.0.kept;
        got = subst (λ (o : Option (List ℕ)). GotAlike o NotRead) (sym was.0.got) tt;
        written = λ z. absurd (cc);
        closed = λ z. absurd (cc);
      }))
      (none-left _ (deferred_by_head (Some (at m)) told.deferred) (stays ∙ none.1))

  -- AN ANSWER is collected by the transaction, which waits for it

  collect : (m : Row) → e.head ≡ Some (at m) → (group : ℕ) (other : Transaction) → told.transaction ≡ Some (group, other)
      → other.granted ≡ false
      → (a : Action) → pop_action k told.transaction c m w ≡ Some (group, a) → Permitted k group a w
      → record (pops_head k (wp == 1) c m w) { transaction = (action_after group a w).transaction } ≡ action_after group a w
      → (x : Transaction) → (action_after group a w).transaction ≡ Some (group, x) → x.cache ≡ other.cache
      → x.request ≡ other.request
      → x.granted ≡ other.granted
      → (after_pop e (Some (at m))).held ≡ e.held → deferred_by_head (Some (at m)) told.deferred ≡ told.deferred
      → ((h : Held) → ServesHeld k e h group other → (after_pop e (Some (at m))).acks ≡ length x.waiting)
      → ((h : Held) → ServesHeld k e h group other → KeptAlike k group (after_pop e (Some (at m))).dirty x.write_back)
      → ((h : Held) → ServesHeld k e h group other → GotAlike (after_pop e (Some (at m))).got x.reading)
      → ((h : Held) → ServesHeld k e h group other → x.written ≡ true → x.reading ≡ NotRead) → Pops k later told wp (at m)
  collect m i group other is g a j p alike x tx ca re gr he stays acks kept got written =
      let was = served k e e.held told.transaction (group, other) tied.agrees is in
      pops m i group a j p alike (Some was.0) (Some (group, x)) tx (he ∙ was.1)
      (λ p.
      serves-as k e (record (after_pop e (Some (at m))) { place = p }) was.0 group other x was.2 ca re (acks was.0 was.2) (kept was.0 was.2)
      (got was.0 was.2)
      (written was.0 was.2) (λ q. clash q (gr ∙ g)))
      (none-left _ (deferred_by_head (Some (at m)) told.deferred) (stays ∙ no-deferred w told.deferred (group, other) tied.left is))

  -- BY THE HEAD
  module _ (o : Met (forms.Popq wp) (exact k later.engine told)) where
    pub pop : (m : Row) → e.head ≡ Some (at m) → offered_head later choice ≡ Some m → Pops k later told wp (at m)
    pop (rows.Rd from to v addr) i f =
        let met = met-at (rows.Rd from to v addr) i o in
        take (rows.Rd from to v addr) _ (record { kind = kinds.Rd; source = c; way = v; addr = addr; value = 0 })
        i f refl refl refl refl refl refl refl refl (and_parts _ _ met.o8) met.o9
    pop (rows.Wr from to v addr) i f =
        let met = met-at (rows.Wr from to v addr) i o in
        take (rows.Wr from to v addr) _ (record { kind = kinds.Wr; source = c; way = v; addr = addr; value = 0 })
        i f refl refl refl refl refl refl refl refl (and_parts _ _ met.o8) met.o9
    pop (rows.UcRd from to addr) i f =
        let met = met-at (rows.UcRd from to addr) i o in
        take (rows.UcRd from to addr) _ (record { kind = kinds.UcRd; source = c; way = 0; addr = addr; value = 0 })
        i f refl refl refl refl refl refl refl refl (and_parts _ _ met.o8) met.o9
    pop (rows.UcWr from to addr word) i f =
        let met = met-at (rows.UcWr from to addr word) i o in
        take (rows.UcWr from to addr word) _ (record { kind = kinds.UcWr; source = c; way = 0; addr = addr; value = word })
        i f refl refl refl refl refl refl refl refl (and_parts _ _ met.o8) met.o9
    pop (rows.Evict from to v addr) i f =
        let met = met-at (rows.Evict from to v addr) i o in
        take (rows.Evict from to v addr) _ (record { kind = kinds.Evict; source = c; way = v; addr = addr; value = 0 })
        i f refl refl refl refl refl refl refl refl (and_parts _ _ met.o8) met.o9
    pop (rows.InvAck from to addr) i f =
        let m = rows.InvAck from to addr in
        let group = group_of k addr in
        let t = tag_at k addr in
        let rest = drop 1 (w.response c) in
        let front = response-front k later told tied choice m f (group, InvAck t) refl refl in
        let other = ack-of k later told tied choice from to addr f in
        let x = other.transaction in
        let next : Transaction = record x { waiting = remove_one c x.waiting } in
        let may : Permitted k group (CollectsAck c t rest x) w = (
          record { is = other.is; ungranted = other.ungranted },
          front,
          some-times c x.waiting other.so,
        ) in
        collect m i group x other.is other.ungranted (CollectsAck c t rest x)
        (ap (option_map (λ z. (group, CollectsAck c t rest z.1))) other.is) may
        (subst (λ (b : Bool). record (pops_head k b c m w) { transaction = Some (group, next) }
        ≡ action_after group (CollectsAck c t rest x) w)
        (sym (plain wp (met-at m i o).o10)) ((heads-alike k c m w).ack group t rest x refl front))
        next refl refl refl refl refl refl
        (λ h sv. less e.acks (length x.waiting) (length next.waiting) sv.acks
        ((acks_fall k w tied.invariant).collect group x c t rest may))
        (λ h sv. sv.kept) (λ h sv. sv.got) (λ h sv. sv.written)
      where
        less : (a b r : ℕ) → a ≡ b → r + 1 ≡ b → a - 1 ≡ r
        less a b r i j = omega (arith, i, j)
    pop (rows.CohAck from to addr) i f =
        let m = rows.CohAck from to addr in
        let met = met-at m i o in
        let group = group_of k addr in
        let t = tag_at k addr in
        let rest = drop 1 (w.response c) in
        let front = response-front k later told tied choice m f (group, CohAck t) refl refl in
        let open-stage = values.stage-not_closing told.transaction told.deferred met.o23 in
        pops m i group (Settles c t rest) refl (open-stage, front)
        (subst (λ (b : Bool). record (pops_head k b c m w) { transaction = told.transaction } ≡ action_after group (Settles c t rest) w)
        (sym met.o9) ((heads-alike k c m w).settle group t rest refl front))
        e.held told.transaction refl refl
        (λ p. serves-open k e _ e.held told.transaction (record { held = refl; acks = refl; dirty = refl; got = refl }) open-stage
        (λ z. refl) tied.agrees)
        tt
    pop (rows.Wb from to addr words) i f =
        let m = rows.Wb from to addr words in
        let group = group_of k addr in
        let t = tag_at k addr in
        let ws : Option (ℕ → ℕ) = Some (words_of words) in
        let rest = drop 1 (w.response c) in
        let front = response-front k later told tied choice m f (group, answer_of t ws) refl refl in
        let other = wb-of k later told tied choice from to addr words f in
        let x = other.transaction in
        let next : Transaction = record x { write_back = FlushKept (record { tag = t; words = words_of words }) } in
        collect m i group x other.is other.ungranted (CollectsAnswer c t ws rest x)
        (ap (option_map (λ z. (group, CollectsAnswer c t ws rest z.1))) other.is)
        (record { is = other.is; ungranted = other.ungranted }, front, other.so)
        (subst (λ (b : Bool). record (pops_head k b c m w) { transaction = Some (group, next) }
        ≡ action_after group (CollectsAnswer c t ws rest x) w)
        (sym (plain wp (met-at m i o).o10)) ((heads-alike k c m w).answer group t ws rest x refl front))
        next refl refl refl refl refl refl (λ h sv. sv.acks) (λ h sv. (refl, refl)) (λ h sv. sv.got) (λ h sv. sv.written)
    pop (rows.NullWb from to addr) i f =
        let m = rows.NullWb from to addr in
        let group = group_of k addr in
        let t = tag_at k addr in
        let rest = drop 1 (w.response c) in
        let front = response-front k later told tied choice m f (group, answer_of t None) refl refl in
        let other = null_wb-of k later told tied choice from to addr f in
        let x = other.transaction in
        let next : Transaction = record x { write_back = Idle } in
        collect m i group x other.is other.ungranted (CollectsAnswer c t None rest x)
        (ap (option_map (λ z. (group, CollectsAnswer c t None rest z.1))) other.is)
        (record { is = other.is; ungranted = other.ungranted }, front, other.so)
        (subst (λ (b : Bool). record (pops_head k b c m w) { transaction = Some (group, next) }
        ≡ action_after group (CollectsAnswer c t None rest x) w)
        (sym (plain wp (met-at m i o).o10)) ((heads-alike k c m w).answer group t None rest x refl front))
        next refl refl refl refl refl refl (λ h sv. sv.acks)
        (λ h sv. none-idle k group e.dirty (asked-none k group e.dirty x.write_back other.so sv.kept)) (λ h sv. sv.got)
        (λ h sv. sv.written)
    pop (rows.Block from to addr words) i f =
        let m = rows.Block from to addr words in
        let group = group_of k addr in
        let t = tag_at k addr in
        let rest = drop 1 w.memin in
        let b : MemoryBlock = record { tag = t; words = words_of words } in
        let front = block-front k later told tied choice m f (group, b) refl refl in
        let other = block-of k later told tied choice from to addr words f in
        let x = other.transaction in
        collect m i group x other.is other.ungranted (CollectsBlock t (words_of words) rest x)
        (ap (option_map (λ z. (group, CollectsBlock t (words_of words) rest z.1))) other.is)
        (record { is = other.is; ungranted = other.ungranted }, front, other.so)
        ((heads-alike k c m w).block (wp == 1) group b rest x refl front)
        (record x { reading = Got (words_of words) }) refl refl refl refl refl refl
        (λ h sv. sv.acks) (λ h sv. sv.kept) (λ h sv. refl) (λ h sv z. absurd (not-both x.reading (sv.written z) other.so))
    pop m i f = absurd (by-class k later choice m ⊥ tied.formed f (λ l e z. cc) (λ l e z. cc) (λ l e z. cc))
