-- Each action of the engine on a way group, from its transaction record.
use Rattle.std.proofs.Common.{◌≡◌, ℕ, ◌≤◌, true, false, refl, arith, List, [], ◌∷◌, ◌++◌, sym, ◌∙◌, subst, ap}
use Rattle.std.specs.Prelude.{Option, Some, None}
use Rattle.std.proofs.lemmas.Bool.Decides.{nat_tests}
use Rattle.bk_base.specs.Tables.{put}
use Rattle.bk_machine.specs.Entries.{Holds, times, wiped_in_caches, is_light}
use Rattle.bk_machine.specs.Messages.{Response, InvAck, Wb, NullWb, MemoryBlock, op_tag, answer_of, request_tag}
use Rattle.bk_machine.specs.Transactions.{InProgress, WriteBack, Idle, Reading, ReadAsked, Got, Transaction, open_transaction, remove_one, write_back_after}
use Rattle.bk_machine.specs.Phases.{Flush, NoFlush, FlushSent, FlushDone, Ack, NoInv, InvAcked, Phase, Open, flush_response, inv_response}
use Rattle.bk_machine.specs.World.{GroupState}
use Rattle.bk_machine.specs.Invariant.{Good, flush_state}
use Rattle.bk_machine.proofs.Heads.{ack_head}
use Rattle.bk_machine.proofs.Collect.{ack_good, back_good, got_good}
use Rattle.bk_machine.proofs.Send.{invalidate_good, inv_to, sent_to, request-tag}
use Rattle.bk_machine.proofs.Wraps.{Fine, Opened, opened}

back_head : (c t : ℕ) (words : Option (ℕ → ℕ)) (rest : List Response) (fl : Flush) (u : ℕ) (a : Ack)
    → flush_response fl c ++ inv_response u a ≡ answer_of t words ∷ rest
    → (fl ≡ FlushDone c t words) × (rest ≡ inv_response u a)
back_head c t None rest fl u a e = lem fl u a e
  where
    lem : (fl : Flush) (u : ℕ) (a : Ack) → flush_response fl c ++ inv_response u a ≡ NullWb t ∷ rest
        → (fl ≡ FlushDone c t None) × (rest ≡ inv_response u a)
    lem fl u a e = grind (arith, nat_tests)
back_head c t (Some ws) rest fl u a e = lem fl u a e
  where
    lem : (fl : Flush) (u : ℕ) (a : Ack) → flush_response fl c ++ inv_response u a ≡ Wb t ws ∷ rest
        → (fl ≡ FlushDone c t (Some ws)) × (rest ≡ inv_response u a)
    lem fl u a e = grind (arith, nat_tests)

idle_flush : (fl : Flush) → flush_state fl Idle → fl ≡ NoFlush
idle_flush NoFlush s = refl
idle_flush (FlushSent o w t x) s = absurd s
idle_flush (FlushDone o t ws) s = absurd s

module _ (p : Phase) (part : GroupState) (x : Transaction) (good : Good p part) (is : part.transaction ≡ Some x) (ungranted : x.granted
    ≡ false) where
  pub acks : (c t : ℕ) (rest : List Response) → part.response c ≡ InvAck t ∷ rest
      → Fine (record part { response = put part.response c rest; transaction = Some (record x { waiting = remove_one c x.waiting }) })
  acks c t rest e =
      let o : Opened part x = opened p part x good is ungranted in
      let head : (o.inv c ≡ InvAcked) × (flush_response o.fl c ≡ []) × (rest ≡ []) =
      ack_head _ c t rest (sym (o.good.responses c) ∙ e) x.cache o.busy o.fl o.inv refl in (
        _,
        subst (λ (other : Transaction). Good (Open x.cache o.busy o.fl (put o.inv c NoInv))
            (record part { response = put part.response c rest; transaction = Some (record other { waiting = remove_one c x.waiting }) }))
            (sym o.shape)
            (ack_good part x.cache c o.busy x.write_back x.reading x.written x.waiting o.fl o.inv rest o.good head.0 head.1 head.2),
      )

  -- The answer comes while the flush is under way, so the phase moves on to what the answer brought: the block's words, or that there
  -- were none.
  pub backs : (c t : ℕ) (words : Option (ℕ → ℕ)) (rest : List Response) → part.response c ≡ answer_of t words ∷ rest
      → Fine (record part {
        response = put part.response c rest;
        transaction = Some (record x { write_back = write_back_after t words });
      })
  backs c t words rest e =
      let o : Opened part x = opened p part x good is ungranted in
      let head : (o.fl ≡ FlushDone c t words) × (rest ≡ inv_response (op_tag o.busy.op) (o.inv c)) =
      back_head c t words rest o.fl (op_tag o.busy.op) (o.inv c) (sym (o.good.responses c) ∙ e) in (
        _,
        subst (λ (other : Transaction). Good (Open x.cache o.busy NoFlush o.inv)
            (record part {
              response = put part.response c rest;
              transaction = Some (record other { write_back = write_back_after t words });
            })) (sym o.shape)
            (back_good part x.cache c t o.busy x.write_back x.reading x.written x.waiting words o.inv rest
            (subst (λ (f : Flush).
            Good (Open x.cache o.busy f o.inv)
            (record part { transaction = Some (open_transaction x.cache o.busy x.write_back x.reading x.written x.waiting) })) head.0
            o.good) head.1),
      )

  pub gets : (t : ℕ) (xs : ℕ → ℕ) (rest : List MemoryBlock) → part.memin ≡ record { tag = t; words = xs } ∷ rest
      → x.reading ≡ ReadAsked
      → Fine (record part { memin = rest; transaction = Some (record x { reading = Got xs }) })
  gets t xs rest e f =
      let o : Opened part x = opened p part x good is ungranted in (
        _,
        subst (λ (other : Transaction). Good (Open x.cache o.busy o.fl o.inv)
            (record part { memin = rest; transaction = Some (record other { reading = Got xs }) })) (sym o.shape)
            (got_good part x.cache t o.busy x.write_back x.written x.waiting xs o.fl o.inv rest
            (subst (λ (bs : List MemoryBlock). Good (Open x.cache o.busy o.fl o.inv)
            (record part {
              memin = bs;
              transaction = Some (open_transaction x.cache o.busy x.write_back ReadAsked x.written x.waiting);
            })) e
            (subst (λ (r : Reading). Good (Open x.cache o.busy o.fl o.inv)
            (record part { transaction = Some (open_transaction x.cache o.busy x.write_back r x.written x.waiting) })) f o.good))),
      )

  -- Each cache that is sent an Inv has a light copy and no other command of the group under way, so each gets one Inv and owes one ack.
  pub invalidates : (to : List ℕ) → times x.cache to ≡ 0 → ((c : ℕ) → times c to ≤ 1)
      → ((c : ℕ) → times c to ≡ 1 → (w : ℕ) × Holds (part.directory c w) (request_tag x.request))
      → ((c w : ℕ) → times c to ≡ 1 → Holds (part.directory c w) (request_tag x.request)
      → is_light (part.directory c w).state ≡ true)
      → Fine (record part {
        directory = wiped_in_caches to (request_tag x.request) part.directory;
        command = inv_to to (request_tag x.request) part.command;
        transaction = Some (record x { waiting = x.waiting ++ to });
      })
  invalidates to a b c d =
      let o : Opened part x = opened p part x good is ungranted in
      let e : request_tag x.request ≡ op_tag o.busy.op = ap (λ (other : Transaction). request_tag other.request) o.shape
      ∙ request-tag o.busy.op o.busy.way in (
        _,
        subst (λ (t : ℕ). Good (Open x.cache o.busy o.fl (sent_to to o.inv))
            (record part {
              directory = wiped_in_caches to t part.directory;
              command = inv_to to t part.command;
              transaction = Some (record x { waiting = x.waiting ++ to });
            })) (sym e)
            (subst (λ (other : Transaction). Good (Open x.cache o.busy o.fl (sent_to to o.inv))
            (record part {
              directory = wiped_in_caches to (op_tag o.busy.op) part.directory;
              command = inv_to to (op_tag o.busy.op) part.command;
              transaction = Some (record other { waiting = x.waiting ++ to });
            }))
            (sym o.shape)
            (invalidate_good part x.cache o.busy x.write_back x.reading x.written x.waiting o.fl o.inv to o.good a b
            (λ i n. subst (λ (t : ℕ). (w : ℕ) × Holds (part.directory i w) t) e (c i n))
            (λ i w n k. d i w n (subst (λ (t : ℕ). Holds (part.directory i w) t) (sym e) k)))),
      )

-- an ungranted transaction with no flush under way
pub record OpenedIdle (part : GroupState) (x : Transaction) : Type 0 where
  pub busy : InProgress
  pub inv : ℕ → Ack
  pub shape : x ≡ open_transaction x.cache busy Idle x.reading x.written x.waiting
  pub good : Good (Open x.cache busy NoFlush inv)
      (record part { transaction = Some (open_transaction x.cache busy Idle x.reading x.written x.waiting) })

pub opened_idle : (p : Phase) (part : GroupState) (x : Transaction) → Good p part → part.transaction ≡ Some x → x.granted ≡ false
    → x.write_back ≡ Idle → OpenedIdle part x
opened_idle p part x good is ungranted idle =
    let o : Opened part x = opened p part x good is ungranted in
    let good2 : Good (Open x.cache o.busy o.fl o.inv)
    (record part { transaction = Some (open_transaction x.cache o.busy Idle x.reading x.written x.waiting) }) =
    subst (λ (wb : WriteBack). Good (Open x.cache o.busy o.fl o.inv)
    (record part { transaction = Some (open_transaction x.cache o.busy wb x.reading x.written x.waiting) })) idle o.good in
    record {
      busy = o.busy;
      inv = o.inv;
      shape = subst (λ (wb : WriteBack). x ≡ open_transaction x.cache o.busy wb x.reading x.written x.waiting) idle o.shape;
      good =
          subst (λ (f : Flush).
          Good (Open x.cache o.busy f o.inv)
          (record part { transaction = Some (open_transaction x.cache o.busy Idle x.reading x.written x.waiting) }))
          (idle_flush o.fl good2.transaction.flush) good2;
    }
