-- The actions that want no flush under way: memory is read, a word is written, a request is granted or answered.
use Rattle.std.proofs.Common.{◌≡◌, ℕ, ◌≢◌, Bool, true, false, refl, [], ◌∷◌, ◌++◌, sym, ◌∙◌, subst, ap}
use Rattle.std.specs.Prelude.{Some}
use Rattle.bk_base.specs.Tables.{put}
use Rattle.bk_machine.specs.Entries.{Holds, is_light}
use Rattle.bk_machine.specs.Messages.{Request, Op, Spot, Load, Store, UcLoad, UcStore, Evict, Wr, UcRd, UcWr, EvictRequest, StTr, Blk, StWake, UcBlk, UcDone, EvictDone, WriteWord, op_tag, request_of, request_way, asks_block, request_suits, request_tag}
use Rattle.bk_machine.specs.Transactions.{InProgress, Idle, Reading, NotRead, Got, Transaction, open_transaction, is_asked}
use Rattle.bk_machine.specs.Phases.{NoFlush, Ack, ByBlock, ByWake, ByTransfer, ByWord, ByDone, Phase, Open, Flying}
use Rattle.bk_machine.proofs.Allowed.{fits}
use Rattle.bk_machine.specs.Actions.{may_pair}
use Rattle.bk_machine.specs.World.{GroupState}
use Rattle.bk_machine.specs.Invariant.{op_suits, Good}
use Rattle.bk_machine.proofs.Engine.{word_good}
use Rattle.bk_machine.proofs.Grant.{wants_block, block_good, wake_good}
use Rattle.bk_machine.proofs.Transfer.{transfer_good}
use Rattle.bk_machine.proofs.Answer.{stored_good, evicted_good}
use Rattle.bk_machine.proofs.Wraps.{Fine}
use Rattle.bk_base.specs.declared.coh.Coh.{Coh}
use Rattle.bk_base.specs.declared.coh.Coh.TheVariants.{M}
use Rattle.bk_base.specs.States.{is_readable, is_owner_like}
use Rattle.bk_machine.proofs.Answer
use Rattle.bk_machine.proofs.WrapsQuiet.{request-way, asks-wants, request-suits, shape-tag, OpenedQuiet, opened_quiet}

module _ (p : Phase) (part : GroupState) (x : Transaction) (good : Good p part) (is : part.transaction ≡ Some x) (ungranted : x.granted
    ≡ false) (idle : x.write_back ≡ Idle) (none : x.waiting ≡ []) where
  q : OpenedQuiet part x
  q = opened_quiet p part x good is ungranted idle none

  abbrev t : ℕ
  t = request_tag x.request

  tag : request_tag x.request ≡ op_tag q.busy.op
  tag = shape-tag x q.busy _ q.shape refl

  request : request_of q.busy.op q.busy.way ≡ x.request
  request = ap (λ (other : Transaction). other.request) (sym q.shape)

  way : asks_block x.request ≡ true → request_way x.request ≡ q.busy.way
  way e = ap request_way (sym request) ∙ request-way q.busy.op q.busy.way (ap asks_block request ∙ e)

  kind : asks_block x.request ≡ true → wants_block q.busy.op ≡ true
  kind e = asks-wants q.busy.op q.busy.way (ap asks_block request ∙ e)

  suit : (y : Coh) → request_suits x.request y ≡ true → op_suits q.busy.op y ≡ true
  suit y e = sym (request-suits q.busy.op q.busy.way y) ∙ ap (λ (r : Request). request_suits r y) request ∙ e

  -- what the record and the directory say, in the words of the operation in progress
  at_tag : (c w : ℕ) → Holds (part.directory c w) (op_tag q.busy.op) → Holds (part.directory c w) (request_tag x.request)
  at_tag c w l = subst (λ (u : ℕ). Holds (part.directory c w) u) (sym tag) l

  victim_is : asks_block x.request ≡ true
      → (is_readable (part.directory x.cache (request_way x.request)).state ≡ true
      → (part.directory x.cache (request_way x.request)).tag ≢ request_tag x.request
      → is_light (part.directory x.cache (request_way x.request)).state ≡ true)
      → is_readable (part.directory x.cache q.busy.way).state ≡ true → (part.directory x.cache q.busy.way).tag ≢ op_tag q.busy.op
      → is_light (part.directory x.cache q.busy.way).state ≡ true
  victim_is e f = subst (λ (w : ℕ). is_readable (part.directory x.cache w).state ≡ true
      → (part.directory x.cache w).tag ≢ op_tag q.busy.op
      → is_light (part.directory x.cache w).state ≡ true) (way e)
      (subst (λ (u : ℕ). is_readable (part.directory x.cache (request_way x.request)).state ≡ true
      → (part.directory x.cache (request_way x.request)).tag ≢ u → is_light (part.directory x.cache (request_way x.request)).state
      ≡ true) tag f)

  -- The words came from memory and no copy forbids the state; the phase goes from open to flying by a block, which leaves the rest as it
  -- was.
  pub grants_block : (ws : ℕ → ℕ) (y : Coh) → x.reading ≡ Got ws → asks_block x.request ≡ true
      → request_suits x.request y ≡ true
      → is_readable y ≡ true
      → (is_readable (part.directory x.cache (request_way x.request)).state ≡ true
      → (part.directory x.cache (request_way x.request)).tag ≢ request_tag x.request
      → is_light (part.directory x.cache (request_way x.request)).state ≡ true)
      → ((c w : ℕ) → c ≢ x.cache → Holds (part.directory c w) (request_tag x.request)
      → fits y (part.directory c w).state ≡ true)
      → Fine (record part {
        command = put part.command x.cache (part.command x.cache ++ Blk (request_tag x.request) (request_way x.request) y ws ∷ []);
        transaction =
            Some (record x {
              granted = true;
              requester_debt = Some (record {
                cache = x.cache;
                way = request_way x.request;
                entry = record { tag = request_tag x.request; state = y };
              });
            });
      })
  grants_block ws y got e sui v victim fit =
      let good2 : Good (Open x.cache q.busy NoFlush q.inv)
      (record part { transaction = Some (open_transaction x.cache q.busy Idle (Got ws) x.written []) }) =
      subst (λ (r : Reading). Good (Open x.cache q.busy NoFlush q.inv)
      (record part { transaction = Some (open_transaction x.cache q.busy Idle r x.written []) })) got q.good in
      let s : x ≡ open_transaction x.cache q.busy Idle (Got ws) x.written [] =
      subst (λ (r : Reading). x ≡ open_transaction x.cache q.busy Idle r x.written []) got q.shape in (
        Flying x.cache q.busy (ByBlock y ws),
        rw (tag, way e) (subst (λ (other : Transaction). Good (Flying x.cache q.busy (ByBlock y ws)) (record part {
          command = put part.command x.cache (part.command x.cache ++ Blk (op_tag q.busy.op) q.busy.way y ws ∷ []);
          transaction =
              Some (record other {
                granted = true;
                requester_debt = Some (record {
                  cache = x.cache;
                  way = q.busy.way;
                  entry = record { tag = op_tag q.busy.op; state = y };
                });
              });
        })) (sym s)
            (block_good part x.cache q.busy ws x.written q.inv y good2 (kind e) (suit y sui) v (victim_is e victim)
            (λ c w n l. fit c w n (at_tag c w l)))),
      )

  -- The lemma of the open phase, of the transaction as it is recorded.
  pub grants_transfer : (o ow : ℕ) (y z : Coh) → is_asked x.reading ≡ false → asks_block x.request ≡ true
      → request_suits x.request z ≡ true
      → (is_readable (part.directory x.cache (request_way x.request)).state ≡ true
      → (part.directory x.cache (request_way x.request)).tag ≢ request_tag x.request
      → is_light (part.directory x.cache (request_way x.request)).state ≡ true)
      → o ≢ x.cache → Holds (part.directory o ow) (request_tag x.request) → is_owner_like (part.directory o ow).state ≡ true
      → may_pair (part.directory o ow).state y z ≡ true
      → (z ≡ M → (c w : ℕ) → c ≢ x.cache → c ≢ o → Holds (part.directory c w) (request_tag x.request) → ⊥)
      → Fine (record part {
        command = put part.command o (part.command o ++ StTr (request_tag x.request) y x.cache (request_way x.request) z ∷ []);
        transaction = Some (record x {
          granted = true;
          requester_debt = Some (record {
            cache = x.cache;
            way = request_way x.request;
            entry = record { tag = request_tag x.request; state = z };
          });
          owner_debt = Some (record { cache = o; way = ow; entry = record { tag = request_tag x.request; state = y } });
        });
      })
  grants_transfer o ow y z asked e sui victim other has owns pair alone = (
    Flying x.cache q.busy (ByTransfer o ow y z),
    rw (tag, way e) (subst (λ (v : Transaction). Good (Flying x.cache q.busy (ByTransfer o ow y z)) (record part {
      command = put part.command o (part.command o ++ StTr (op_tag q.busy.op) y x.cache q.busy.way z ∷ []);
      transaction = Some (record v {
        granted = true;
        requester_debt = Some (record { cache = x.cache; way = q.busy.way; entry = record { tag = op_tag q.busy.op; state = z } });
        owner_debt = Some (record { cache = o; way = ow; entry = record { tag = op_tag q.busy.op; state = y } });
      });
    })) (sym q.shape)
        (transfer_good part x.cache o ow q.busy x.reading x.written q.inv y z q.good (kind e) (suit z sui) asked (victim_is e victim) other
        (subst (λ (u : ℕ). Holds (part.directory o ow) u) tag has) owns pair
        (λ count c w n d l. alone count c w n d (at_tag c w l)))),
  )

  -- Only a Store makes a Wr. Then as the lemma of the open phase says, of the transaction as it is recorded.
  pub grants_wake : (u w : ℕ) → x.request ≡ Wr u w → is_asked x.reading ≡ false → (v : ℕ)
      → Holds (part.directory x.cache v) u
      → ((c v : ℕ) → c ≢ x.cache → Holds (part.directory c v) u → ⊥)
      → Fine (record part {
        command = put part.command x.cache (part.command x.cache ++ StWake u w ∷ []);
        transaction = Some (record x {
          granted = true;
          requester_debt = Some (record { cache = x.cache; way = w; entry = record { tag = u; state = M } });
        });
      })
  grants_wake u w e asked v has others = at q.busy.op q.busy.way q.inv q.shape q.good (request ∙ e)
    where
      Woken : Type 0
      Woken = Fine (record part {
        command = put part.command x.cache (part.command x.cache ++ StWake u w ∷ []);
        transaction = Some (record x {
          granted = true;
          requester_debt = Some (record { cache = x.cache; way = w; entry = record { tag = u; state = M } });
        });
      })

      wake : (t number : ℕ) (change : ℕ → ℕ) (y : ℕ) (inv : ℕ → Ack)
          → x ≡ open_transaction x.cache (record { op = Store t number change; way = y }) Idle x.reading x.written []
          → Good (Open x.cache (record { op = Store t number change; way = y }) NoFlush inv)
          (record part {
            transaction = Some
                (open_transaction x.cache (record { op = Store t number change; way = y }) Idle x.reading x.written []);
          }) → t ≡ u → y ≡ w → Woken
      wake t number change y inv s h a b = (
        Flying x.cache (record { op = Store t number change; way = y }) ByWake,
        rw (← a, ← b) (subst
            (λ (other : Transaction). Good (Flying x.cache (record { op = Store t number change; way = y }) ByWake) (record part {
              command = put part.command x.cache (part.command x.cache ++ StWake t y ∷ []);
              transaction = Some (record other {
                granted = true;
                requester_debt = Some (record { cache = x.cache; way = y; entry = record { tag = t; state = M } });
              });
            })) (sym s)
            (wake_good part x.cache y t number change x.reading x.written inv h asked (
              v,
              subst (λ (i : ℕ). Holds (part.directory x.cache v) i) (sym a) has,
            )
            (λ c i d l. others c i d (subst (λ (j : ℕ). Holds (part.directory c i) j) a l)))),
      )

      at : (op : Op) (y : ℕ) (inv : ℕ → Ack)
          → x ≡ open_transaction x.cache (record { op = op; way = y }) Idle x.reading x.written []
          → Good (Open x.cache (record { op = op; way = y }) NoFlush inv)
          (record part { transaction = Some (open_transaction x.cache (record { op = op; way = y }) Idle x.reading x.written []) })
          → request_of op y ≡ Wr u w → Woken
      at (Load t spot) y inv s h f = absurd (cc f)
      at (Store t number change) y inv s h f = wake t number change y inv s h (cc f) (cc f)
      at (UcLoad t spot) y inv s h f = absurd (cc f)
      at (UcStore t number change) y inv s h f = absurd (cc f)
      at (Evict t) y inv s h f = absurd (cc f)

  -- Only a UcLoad makes a UcRd. Then as the lemma of the open phase says.
  pub answers_word : (u number : ℕ) (ws : ℕ → ℕ) → x.request ≡ UcRd u number → x.reading ≡ Got ws
      → Fine (record part {
        command = put part.command x.cache (part.command x.cache ++ UcBlk u number (ws number) ∷ []);
        transaction = Some (record x { granted = true });
      })
  answers_word u number ws e got = at q.busy.op q.busy.way q.inv q.shape q.good (request ∙ e)
    where
      Answered : Type 0
      Answered =
          Fine (record part {
            command = put part.command x.cache (part.command x.cache ++ UcBlk u number (ws number) ∷ []);
            transaction = Some (record x { granted = true });
          })

      answer : (t : ℕ) (spot : Spot) (y : ℕ) (inv : ℕ → Ack)
          → x ≡ open_transaction x.cache (record { op = UcLoad t spot; way = y }) Idle x.reading x.written []
          → Good (Open x.cache (record { op = UcLoad t spot; way = y }) NoFlush inv)
          (record part {
            transaction = Some (open_transaction x.cache (record { op = UcLoad t spot; way = y }) Idle x.reading x.written []);
          }) → t ≡ u → spot.word ≡ number → Answered
      answer t spot y inv s h a b = (
        Flying x.cache (record { op = UcLoad t spot; way = y }) (ByWord (ws spot.word)),
        rw (← a, ← b) (subst
            (λ (other : Transaction). Good (Flying x.cache (record { op = UcLoad t spot; way = y }) (ByWord (ws spot.word))) (record part {
              command = put part.command x.cache (part.command x.cache ++ UcBlk t spot.word (ws spot.word) ∷ []);
              transaction = Some (record other { granted = true });
            })) (sym (subst (λ (r : Reading). x
            ≡ open_transaction x.cache (record { op = UcLoad t spot; way = y }) Idle r x.written []) got s))
            (Answer.word_good part x.cache y t spot ws x.written inv
            (subst (λ (r : Reading). Good (Open x.cache (record { op = UcLoad t spot; way = y }) NoFlush inv)
            (record part {
              transaction = Some (open_transaction x.cache (record { op = UcLoad t spot; way = y }) Idle r x.written []);
            })) got h))),
      )

      at : (op : Op) (y : ℕ) (inv : ℕ → Ack)
          → x ≡ open_transaction x.cache (record { op = op; way = y }) Idle x.reading x.written []
          → Good (Open x.cache (record { op = op; way = y }) NoFlush inv)
          (record part { transaction = Some (open_transaction x.cache (record { op = op; way = y }) Idle x.reading x.written []) })
          → request_of op y ≡ UcRd u number → Answered
      at (Load t spot) y inv s h f = absurd (cc f)
      at (Store t number change) y inv s h f = absurd (cc f)
      at (UcLoad t spot) y inv s h f = answer t spot y inv s h (cc f) (cc f)
      at (UcStore t number change) y inv s h f = absurd (cc f)
      at (Evict t) y inv s h f = absurd (cc f)

  -- Only a UcStore makes a UcWr. Then as the lemma of the open phase says.
  pub answers_store : (u number : ℕ) (f : ℕ → ℕ) → x.request ≡ UcWr u number f → x.written ≡ true → is_asked x.reading ≡ false
      → Fine (record part {
        command = put part.command x.cache (part.command x.cache ++ UcDone u number ∷ []);
        transaction = Some (record x { granted = true });
      })
  answers_store u number f e wrote asked = at q.busy.op q.busy.way q.inv q.shape q.good (request ∙ e)
    where
      Answered : Type 0
      Answered = Fine (record part {
        command = put part.command x.cache (part.command x.cache ++ UcDone u number ∷ []);
        transaction = Some (record x { granted = true });
      })

      answer : (t j : ℕ) (change : ℕ → ℕ) (y : ℕ) (inv : ℕ → Ack)
          → x ≡ open_transaction x.cache (record { op = UcStore t j change; way = y }) Idle x.reading x.written []
          → Good (Open x.cache (record { op = UcStore t j change; way = y }) NoFlush inv)
          (record part {
            transaction = Some
                (open_transaction x.cache (record { op = UcStore t j change; way = y }) Idle x.reading x.written []);
          }) → t ≡ u
          → j ≡ number → Answered
      answer t j change y inv s h a b = (
        Flying x.cache (record { op = UcStore t j change; way = y }) ByDone,
        rw (← a, ← b) (subst
            (λ (z : Transaction). Good (Flying x.cache (record { op = UcStore t j change; way = y }) ByDone) (record part {
              command = put part.command x.cache (part.command x.cache ++ UcDone t j ∷ []);
              transaction = Some (record z { granted = true });
            })) (sym (subst (λ (z : Bool). x
            ≡ open_transaction x.cache (record { op = UcStore t j change; way = y }) Idle x.reading z []) wrote s))
            (stored_good part x.cache y t j change x.reading inv
            (subst (λ (z : Bool). Good (Open x.cache (record { op = UcStore t j change; way = y }) NoFlush inv)
            (record part {
              transaction = Some (open_transaction x.cache (record { op = UcStore t j change; way = y }) Idle x.reading z []);
            })) wrote h) asked)),
      )

      at : (op : Op) (y : ℕ) (inv : ℕ → Ack)
          → x ≡ open_transaction x.cache (record { op = op; way = y }) Idle x.reading x.written []
          → Good (Open x.cache (record { op = op; way = y }) NoFlush inv)
          (record part { transaction = Some (open_transaction x.cache (record { op = op; way = y }) Idle x.reading x.written []) })
          → request_of op y ≡ UcWr u number f → Answered
      at (Load t spot) y inv s h f = absurd (cc f)
      at (Store t number change) y inv s h f = absurd (cc f)
      at (UcLoad t spot) y inv s h f = absurd (cc f)
      at (UcStore t j change) y inv s h f = answer t j change y inv s h (cc f) (cc f)
      at (Evict t) y inv s h f = absurd (cc f)

  -- Only an Evict makes an EvictRequest. Then as the lemma of the open phase says.
  pub answers_evict : (u w : ℕ) → x.request ≡ EvictRequest u w → is_asked x.reading ≡ false
      → Fine (record part {
        command = put part.command x.cache (part.command x.cache ++ EvictDone u ∷ []);
        transaction = Some (record x { granted = true });
      })
  answers_evict u w e asked = at q.busy.op q.busy.way q.inv q.shape q.good (request ∙ e)
    where
      Answered : Type 0
      Answered = Fine (record part {
        command = put part.command x.cache (part.command x.cache ++ EvictDone u ∷ []);
        transaction = Some (record x { granted = true });
      })

      answer : (t y : ℕ) (inv : ℕ → Ack)
          → x ≡ open_transaction x.cache (record { op = Evict t; way = y }) Idle x.reading x.written []
          → Good (Open x.cache (record { op = Evict t; way = y }) NoFlush inv)
          (record part { transaction = Some (open_transaction x.cache (record { op = Evict t; way = y }) Idle x.reading x.written []) })
          → t ≡ u → Answered
      answer t y inv s h a = (
        Flying x.cache (record { op = Evict t; way = y }) ByDone,
        rw (← a) (subst (λ (other : Transaction). Good (Flying x.cache (record { op = Evict t; way = y }) ByDone) (record part {
          command = put part.command x.cache (part.command x.cache ++ EvictDone t ∷ []);
          transaction = Some (record other { granted = true });
        })) (sym s) (evicted_good part x.cache y t x.reading x.written inv h asked)),
      )

      at : (op : Op) (y : ℕ) (inv : ℕ → Ack)
          → x ≡ open_transaction x.cache (record { op = op; way = y }) Idle x.reading x.written []
          → Good (Open x.cache (record { op = op; way = y }) NoFlush inv)
          (record part { transaction = Some (open_transaction x.cache (record { op = op; way = y }) Idle x.reading x.written []) })
          → request_of op y ≡ EvictRequest u w → Answered
      at (Load t spot) y inv s h f = absurd (cc f)
      at (Store t number change) y inv s h f = absurd (cc f)
      at (UcLoad t spot) y inv s h f = absurd (cc f)
      at (UcStore t j change) y inv s h f = absurd (cc f)
      at (Evict t) y inv s h f = answer t y inv s h (cc f)

  -- Only a UcStore makes a UcWr. Then as the lemma of the open phase says.
  pub writes_word : (u number : ℕ) (f : ℕ → ℕ) → x.request ≡ UcWr u number f → x.written ≡ false → x.reading ≡ NotRead
      → ((c w : ℕ) → Holds (part.directory c w) u → ⊥)
      → Fine (record part { memout = part.memout ++ WriteWord u number f ∷ []; transaction = Some (record x { written = true }) })
  writes_word u number f e wrote unread nobody = at q.busy.op q.busy.way q.inv q.shape q.good (request ∙ e)
    where
      Answered : Type 0
      Answered = Fine (record part {
        memout = part.memout ++ WriteWord u number f ∷ [];
        transaction = Some (record x { written = true });
      })

      Shape : InProgress → Type 0
      Shape b = x ≡ open_transaction x.cache b Idle x.reading x.written []

      answer : (t j : ℕ) (change : ℕ → ℕ) (y : ℕ) (inv : ℕ → Ack)
          → x ≡ open_transaction x.cache (record { op = UcStore t j change; way = y }) Idle x.reading x.written []
          → Good (Open x.cache (record { op = UcStore t j change; way = y }) NoFlush inv)
          (record part {
            transaction = Some
                (open_transaction x.cache (record { op = UcStore t j change; way = y }) Idle x.reading x.written []);
          }) → t ≡ u → j ≡ number
          → change ≡ f → Answered
      answer t j change y inv s h a b d =
          let h1 : Good (Open x.cache (record { op = UcStore t j change; way = y }) NoFlush inv)
          (record part {
            transaction = Some
                (open_transaction x.cache (record { op = UcStore t j change; way = y }) Idle x.reading false []);
          }) =
          subst (λ (z : Bool). Good (Open x.cache (record { op = UcStore t j change; way = y }) NoFlush inv)
          (record part {
            transaction = Some (open_transaction x.cache (record { op = UcStore t j change; way = y }) Idle x.reading z []);
          })) wrote h in
          let h2 : Good (Open x.cache (record { op = UcStore t j change; way = y }) NoFlush inv)
          (record part {
            transaction = Some
                (open_transaction x.cache (record { op = UcStore t j change; way = y }) Idle NotRead false []);
          }) =
          subst (λ (z : Reading). Good (Open x.cache (record { op = UcStore t j change; way = y }) NoFlush inv)
          (record part {
            transaction = Some (open_transaction x.cache (record { op = UcStore t j change; way = y }) Idle z false []);
          })) unread h1 in
          let s2 : x ≡ open_transaction x.cache (record { op = UcStore t j change; way = y }) Idle NotRead x.written [] = subst
          (λ (z : Reading). x ≡ open_transaction x.cache (record { op = UcStore t j change; way = y }) Idle z x.written []) unread s in (
            Open x.cache (record { op = UcStore t j change; way = y }) NoFlush inv,
            rw (← a, ← b, ← d) (subst
                (λ (z : Transaction). Good (Open x.cache (record { op = UcStore t j change; way = y }) NoFlush inv) (record part {
                  memout = part.memout ++ WriteWord t j change ∷ [];
                  transaction = Some (record z { written = true });
                })) (sym s2)
                (word_good part x.cache y t j change inv h2
                (λ c w l. nobody c w (subst (λ (z : ℕ). Holds (part.directory c w) z) a l)))),
          )

      at : (op : Op) (y : ℕ) (inv : ℕ → Ack)
          → x ≡ open_transaction x.cache (record { op = op; way = y }) Idle x.reading x.written []
          → Good (Open x.cache (record { op = op; way = y }) NoFlush inv)
          (record part { transaction = Some (open_transaction x.cache (record { op = op; way = y }) Idle x.reading x.written []) })
          → request_of op y ≡ UcWr u number f → Answered
      at (Load t spot) y inv s h f = absurd (cc f)
      at (Store t number change) y inv s h f = absurd (cc f)
      at (UcLoad t spot) y inv s h f = absurd (cc f)
      at (UcStore t j change) y inv s h f = answer t j change y inv s h (cc f) (cc f) (cc f)
      at (Evict t) y inv s h f = absurd (cc f)
