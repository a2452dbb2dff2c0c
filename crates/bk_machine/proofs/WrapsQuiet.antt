-- What the actions that want no flush under way need of the request that they serve, and those that ask memory.
use Rattle.std.proofs.Common.{◌≡◌, ℕ, ◌⊎◌, true, false, refl, arith, List, [], ◌∷◌, ◌++◌, sym, ◌∙◌, subst, ap, inl, inr}
use Rattle.std.specs.Prelude.{Some}
use Rattle.bk_base.specs.Tables.{put}
use Rattle.bk_machine.specs.Tables.{put2}
use Rattle.bk_machine.specs.Entries.{Holds, with_state, is_light}
use Rattle.bk_machine.specs.Messages.{Op, Load, Store, UcLoad, UcStore, Evict, StWb, Read, Write, MemoryBlock, op_tag, request_of, request_way, asks_block, asks_read, request_suits, request_tag}
use Rattle.bk_machine.specs.Transactions.{InProgress, WriteBack, Idle, FlushAsked, FlushKept, Reading, NotRead, ReadAsked, Transaction, open_transaction}
use Rattle.bk_machine.specs.Phases.{NoFlush, FlushSent, Ack, Phase, Open}
use Rattle.bk_machine.specs.World.{GroupState}
use Rattle.bk_machine.specs.Invariant.{op_suits, Good}
use Rattle.bk_machine.proofs.Send.{request-tag}
use Rattle.bk_machine.proofs.Flush.{flush_good}
use Rattle.bk_machine.proofs.Engine.{write_back_good, read_good, reads_memory}
use Rattle.bk_machine.proofs.Grant.{wants_block}
use Rattle.bk_machine.proofs.Wraps.{Fine, Opened, opened}
use Rattle.bk_machine.proofs.WrapsEngine.{OpenedIdle, opened_idle}
use Rattle.bk_base.specs.declared.coh.Coh.{Coh}
use Rattle.bk_base.specs.States.{is_owner_like}

pub request-way : (op : Op) (w : ℕ) → asks_block (request_of op w) ≡ true → request_way (request_of op w) ≡ w
request-way (Load t spot) w e = refl
request-way (Store t k change) w e = refl
request-way (UcLoad t spot) w e = absurd (cc e)
request-way (UcStore t k change) w e = absurd (cc e)
request-way (Evict t) w e = absurd (cc e)

pub asks-wants : (op : Op) (w : ℕ) → asks_block (request_of op w) ≡ true → wants_block op ≡ true
asks-wants op w e = grind arith

pub request-suits : (op : Op) (w : ℕ) (state : Coh) → request_suits (request_of op w) state ≡ op_suits op state
request-suits (Load t spot) w state = refl
request-suits (Store t k change) w state = refl
request-suits (UcLoad t spot) w state = refl
request-suits (UcStore t k change) w state = refl
request-suits (Evict t) w state = refl

asks-reads : (op : Op) (w : ℕ) → asks_read (request_of op w) ≡ true → reads_memory op ≡ true
asks-reads op w e = grind arith

-- nothing at all is under way
pub record OpenedQuiet (part : GroupState) (x : Transaction) : Type 0 where
  pub busy : InProgress
  pub inv : ℕ → Ack
  pub shape : x ≡ open_transaction x.cache busy Idle x.reading x.written []
  pub good : Good (Open x.cache busy NoFlush inv)
      (record part { transaction = Some (open_transaction x.cache busy Idle x.reading x.written []) })

pub opened_quiet : (p : Phase) (part : GroupState) (x : Transaction) → Good p part → part.transaction ≡ Some x → x.granted ≡ false
    → x.write_back ≡ Idle → x.waiting ≡ []
    → OpenedQuiet part x
opened_quiet p part x good is ungranted idle none =
    let o : OpenedIdle part x = opened_idle p part x good is ungranted idle in
    record {
      busy = o.busy;
      inv = o.inv;
      shape = subst (λ (ws : List ℕ). x ≡ open_transaction x.cache o.busy Idle x.reading x.written ws) none o.shape;
      good =
          subst (λ (ws : List ℕ). Good (Open x.cache o.busy NoFlush o.inv)
          (record part { transaction = Some (open_transaction x.cache o.busy Idle x.reading x.written ws) })) none o.good;
    }

pub shape-tag : (x : Transaction) (b : InProgress) (other : Transaction) → x ≡ other → other.request ≡ request_of b.op b.way
    → request_tag x.request ≡ op_tag b.op
shape-tag x b other e f = ap (λ (z : Transaction). request_tag z.request) e ∙ ap request_tag f ∙ request-tag b.op b.way

module _ (p : Phase) (part : GroupState) (x : Transaction) (good : Good p part) (is : part.transaction ≡ Some x) (ungranted : x.granted
    ≡ false) (idle : x.write_back ≡ Idle) where
  pub flushes : (o ow u : ℕ) (y : Coh) → Holds (part.directory o ow) u → is_light y ≡ true → is_owner_like y ≡ false
      → (u ≡ request_tag x.request) ⊎ (o ≡ x.cache)
      → Fine (record part {
        directory = put2 part.directory o ow (with_state (part.directory o ow) y);
        command = put part.command o (part.command o ++ StWb u y ∷ []);
        transaction = Some (record x { write_back = FlushAsked });
      })
  flushes o ow u y has light owner whose =
      let q : OpenedIdle part x = opened_idle p part x good is ungranted idle in (
        _,
        subst (λ (other : Transaction). Good (Open x.cache q.busy (FlushSent o ow u y) q.inv)
            (record part {
              directory = put2 part.directory o ow (with_state (part.directory o ow) y);
              command = put part.command o (part.command o ++ StWb u y ∷ []);
              transaction = Some (record other { write_back = FlushAsked });
            }))
            (sym q.shape)
            (flush_good part x.cache o ow u y q.busy x.reading x.written x.waiting q.inv q.good has light owner
            (whose_is q.busy q.shape whose)),
      )
    where
      whose_is : (b : InProgress) → x ≡ open_transaction x.cache b Idle x.reading x.written x.waiting
          → (u ≡ request_tag x.request) ⊎ (o ≡ x.cache)
          → (u ≡ op_tag b.op) ⊎ (o ≡ x.cache)
      whose_is b e (inl s) = inl (s ∙ shape-tag x b _ e refl)
      whose_is b e (inr s) = inr s

  -- All copies are light, so memory has their words: what it is asked for now is the latest of each word when it answers.
  pub reads_in : x.reading ≡ NotRead → asks_read x.request ≡ true
      → ((c w : ℕ) → Holds (part.directory c w) (request_tag x.request) → is_light (part.directory c w).state ≡ true)
      → Fine (record part {
        memout = part.memout ++ Read (request_tag x.request) ∷ [];
        transaction = Some (record x { reading = ReadAsked });
      })
  reads_in none kind light =
      let q : OpenedIdle part x = opened_idle p part x good is ungranted idle in
      let e : request_tag x.request ≡ op_tag q.busy.op = shape-tag x q.busy _ q.shape refl in
      let k : asks_read (request_of q.busy.op q.busy.way) ≡ true =
      ap (λ (other : Transaction). asks_read other.request) (sym q.shape) ∙ kind in (
        _,
        subst (λ (other : Transaction). Good (Open x.cache q.busy NoFlush q.inv)
            (record part {
              memout = part.memout ++ Read (request_tag other.request) ∷ [];
              transaction = Some (record other { reading = ReadAsked });
            })) (sym q.shape)
            (read_good part x.cache q.busy x.written x.waiting q.inv
            (subst (λ (r : Reading). Good (Open x.cache q.busy NoFlush q.inv)
            (record part { transaction = Some (open_transaction x.cache q.busy Idle r x.written x.waiting) })) none q.good)
            (asks-reads q.busy.op q.busy.way k) (λ c w l. light c w (subst (λ (t : ℕ). Holds (part.directory c w) t) (sym e) l))),
      )

-- a kept block is written back
pub writes_back : (p : Phase) (part : GroupState) (x : Transaction) (block : MemoryBlock) → Good p part → part.transaction ≡ Some x
    → x.granted ≡ false → x.write_back ≡ FlushKept block
    → Fine (record part {
      memout = part.memout ++ Write block.tag block.words ∷ [];
      transaction = Some (record x { write_back = Idle });
    })
writes_back p part x block good is ungranted kept =
    let o : Opened part x = opened p part x good is ungranted in (
      _,
      subst (λ (other : Transaction). Good (Open x.cache o.busy o.fl o.inv)
          (record part {
            memout = part.memout ++ Write block.tag block.words ∷ [];
            transaction = Some (record other { write_back = Idle });
          }))
          (sym o.shape)
          (write_back_good part x.cache o.busy block x.reading x.written x.waiting o.fl o.inv
          (subst (λ (wb : WriteBack). Good (Open x.cache o.busy o.fl o.inv)
          (record part { transaction = Some (open_transaction x.cache o.busy wb x.reading x.written x.waiting) })) kept o.good)),
    )
