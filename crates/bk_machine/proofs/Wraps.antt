-- Each event of a way group, from what its channels and its transaction show.
use Rattle.std.proofs.Common.{◌≡◌, ℕ, ◌+◌, true, false, List, [], ◌∷◌, sym, ◌∙◌, subst, ap}
use Rattle.std.specs.Prelude.{Option, Some, None}
use Rattle.bk_base.specs.Tables.{put}
use Rattle.bk_base.specs.declared.coh.Coh.{Coh}
use Rattle.bk_base.specs.States.{is_writable}
use Rattle.bk_machine.specs.Messages.{Spot, Load, Store, UcLoad, UcStore, Evict, Request, ToCache, Blk, StWake, UcBlk, UcDone, EvictDone, FillMessage, Response, CohAck, request_of}
use Rattle.bk_machine.specs.Transactions.{InProgress, Transaction, open_transaction, new_transaction}
use Rattle.bk_machine.specs.Phases.{Flush, NoFlush, Ack, NoInv, ByBlock, ByWake, ByFill, ByWord, ByDone, Phase, Free, Open, Flying, Settling}
use Rattle.bk_machine.specs.World.{GroupState}
use Rattle.bk_machine.specs.Invariant.{Good, OpenTransaction}
use Rattle.bk_machine.proofs.Heads.{blk_head, wake_head, word_head, uc_done_head, done_head, fill_head, settle_head}
use Rattle.bk_machine.proofs.Arrive.{loaded, stored}
use Rattle.bk_machine.proofs.BlockComes.{take_command, take_fill, block_loaded, block_stored, wake_stored, fill_loaded, fill_stored}
use Rattle.bk_machine.proofs.Uncached.{finished, word_comes, store_comes, evict_comes}
use Rattle.bk_machine.proofs.Take.{take_good, settle_good, take_head}

-- some phase at which the group is good
abbrev pub Fine : GroupState → Type 0
Fine part = (p : Phase) × Good p part

-- the group, with a field put as a known value
abbrev with_transaction : GroupState → Option Transaction → GroupState
with_transaction part transaction = record part { transaction = transaction }

pub with_transaction-is : (part : GroupState) (transaction : Option Transaction) → part.transaction ≡ transaction
    → part ≡ record part { transaction = transaction }
with_transaction-is part transaction e = ap (λ (y : Option Transaction). record part { transaction = y }) e

-- ARRIVALS

module _ (part : GroupState) (c t w : ℕ) (p : Phase) (good : Good p part) where
  pub block_loads : (spot : Spot) (state : Coh) (ws : ℕ → ℕ) (rest : List ToCache) → part.command c ≡ Blk t w state ws ∷ rest
      → part.busy c ≡ Some (record { op = Load t spot; way = w })
      → Fine (take_command (loaded part c t w state ws spot) c rest)
  block_loads spot state ws rest e f =
      let head : (p ≡ Flying c (record { op = Load t spot; way = w }) (ByBlock state ws)) × (rest ≡ []) =
      blk_head p part.busy c t w state ws rest _ (sym (good.commands c) ∙ e) good.taker f in
      (_, block_loaded part c t w spot state ws rest (subst (λ (p : Phase). Good p part) head.0 good) head.1)

  pub block_stores : (j : ℕ) (change : ℕ → ℕ) (state : Coh) (ws : ℕ → ℕ) (rest : List ToCache) → part.command c ≡ Blk t w state ws ∷ rest
      → part.busy c ≡ Some (record { op = Store t j change; way = w }) → is_writable state ≡ true
      → Fine (take_command (stored part c t w ws j change) c rest)
  block_stores j change state ws rest e f writes =
      let head : (p ≡ Flying c (record { op = Store t j change; way = w }) (ByBlock state ws)) × (rest ≡ []) =
      blk_head p part.busy c t w state ws rest _ (sym (good.commands c) ∙ e) good.taker f in
      (_, block_stored part c t w j change state ws rest (subst (λ (p : Phase). Good p part) head.0 good) writes head.1)

  pub wake_stores : (j : ℕ) (change : ℕ → ℕ) (rest : List ToCache) → part.command c ≡ StWake t w ∷ rest
      → part.busy c ≡ Some (record { op = Store t j change; way = w })
      → Fine (take_command (stored part c t w (part.words c w) j change) c rest)
  wake_stores j change rest e f =
      let head : (p ≡ Flying c (record { op = Store t j change; way = w }) ByWake) × (rest ≡ []) =
      wake_head p part.busy c t w rest _ (sym (good.commands c) ∙ e) good.taker f in
      (_, wake_stored part c t w j change rest (subst (λ (p : Phase). Good p part) head.0 good) head.1)

  pub fill_loads : (spot : Spot) (o : ℕ) (state : Coh) (ws : ℕ → ℕ) (rest : List FillMessage)
      → part.fill c o ≡ record { tag = t; way = w; state = state; words = ws } ∷ rest
      → part.busy c ≡ Some (record { op = Load t spot; way = w })
      → Fine (take_fill (loaded part c t w state ws spot) c o rest)
  fill_loads spot o state ws rest e f =
      let head : (p ≡ Flying c (record { op = Load t spot; way = w }) (ByFill o state ws)) × (rest ≡ []) =
      fill_head p part.busy c o (record { tag = t; way = w; state = state; words = ws }) rest _ (sym (good.fills c o) ∙ e) good.taker f in
      (_, fill_loaded part c o t w spot state ws rest (subst (λ (p : Phase). Good p part) head.0 good) head.1)

  pub fill_stores : (j : ℕ) (change : ℕ → ℕ) (o : ℕ) (state : Coh) (ws : ℕ → ℕ) (rest : List FillMessage)
      → part.fill c o ≡ record { tag = t; way = w; state = state; words = ws } ∷ rest
      → part.busy c ≡ Some (record { op = Store t j change; way = w }) → is_writable state ≡ true
      → Fine (take_fill (stored part c t w ws j change) c o rest)
  fill_stores j change o state ws rest e f writes =
      let head : (p ≡ Flying c (record { op = Store t j change; way = w }) (ByFill o state ws)) × (rest ≡ []) =
      fill_head p part.busy c o (record { tag = t; way = w; state = state; words = ws }) rest _ (sym (good.fills c o) ∙ e) good.taker f in
      (_, fill_stored part c o t w j change state ws rest (subst (λ (p : Phase). Good p part) head.0 good) writes head.1)

  pub word_arrives : (spot : Spot) (n : ℕ) (rest : List ToCache) → part.command c ≡ UcBlk t spot.word n ∷ rest
      → part.busy c ≡ Some (record { op = UcLoad t spot; way = w })
      → Fine (finished part c t (UcLoad t spot) (spot.of n) rest)
  word_arrives spot n rest e f =
      let head : (p ≡ Flying c (record { op = UcLoad t spot; way = w }) (ByWord n)) × (rest ≡ []) =
      word_head p part.busy c t spot.word n rest _ (sym (good.commands c) ∙ e) good.taker f in
      (_, word_comes part c t w spot n rest (subst (λ (p : Phase). Good p part) head.0 good) head.1)

  pub store_arrives : (j : ℕ) (change : ℕ → ℕ) (rest : List ToCache) → part.command c ≡ UcDone t j ∷ rest
      → part.busy c ≡ Some (record { op = UcStore t j change; way = w })
      → Fine (finished part c t (UcStore t j change) 0 rest)
  store_arrives j change rest e f =
      let head : (p ≡ Flying c (record { op = UcStore t j change; way = w }) ByDone) × (rest ≡ []) =
      uc_done_head p part.busy c t j rest _ (sym (good.commands c) ∙ e) good.taker f in
      (_, store_comes part c t w j change rest (subst (λ (p : Phase). Good p part) head.0 good) head.1)

  pub evict_arrives : (rest : List ToCache) → part.command c ≡ EvictDone t ∷ rest
      → part.busy c ≡ Some (record { op = Evict t; way = w })
      → Fine (finished part c t (Evict t) 0 rest)
  evict_arrives rest e f =
      let head : (p ≡ Flying c (record { op = Evict t; way = w }) ByDone) × (rest ≡ []) =
      done_head p part.busy c t rest _ (sym (good.commands c) ∙ e) good.taker f in
      (_, evict_comes part c t w rest (subst (λ (p : Phase). Good p part) head.0 good) head.1)

-- THE ENGINE

-- Without a pending bit the group's phase is free, so no command or fill of it is under way, and the request opens a transaction of its
-- own.
pub takes : (p : Phase) (part : GroupState) (c : ℕ) (q : Request) (rest : List Request) → Good p part → part.pending ≡ false
    → part.transaction ≡ None → part.request c ≡ q ∷ rest
    → Fine (record part {
      request = put part.request c rest;
      transaction = Some (new_transaction c q);
      pending = true;
      taken_count = part.taken_count + 1;
    })
takes p part c q rest good e f k =
    let head : (p ≡ Free) × (rest ≡ []) × ((b : InProgress) × (part.busy c ≡ Some b) × (q ≡ request_of b.op b.way)) =
    take_head p part c q rest good e k in
    let good2 : Good Free (record part { transaction = None }) = subst (λ (second : GroupState). Good Free second)
    (with_transaction-is part None f) (subst (λ (p : Phase). Good p part) head.0 good) in (
      _,
      subst (λ (r : Request). Good (Open c head.2.0 NoFlush (λ i. NoInv))
          (record part {
            request = put part.request c rest;
            transaction = Some (new_transaction c r);
            pending = true;
            taken_count = part.taken_count + 1;
          })) (sym head.2.2)
          (take_good part c head.2.0 rest good2 head.2.1 head.1),
    )

pub settles : (p : Phase) (part : GroupState) (c t : ℕ) (rest : List Response) → Good p part → part.transaction ≡ None
    → part.response c ≡ CohAck t ∷ rest
    → Fine (record part {
      response = put part.response c rest;
      transaction = None;
      pending = false;
      settled_count = part.settled_count + 1;
    })
settles p part c t rest good f k =
    let head : (p ≡ Settling c t) × (rest ≡ []) = settle_head p c t rest (sym (good.responses c) ∙ k) in (
      _,
      settle_good part c t rest
          (subst (λ (second : GroupState). Good (Settling c t) second) (with_transaction-is part None f)
          (subst (λ (p : Phase). Good p part) head.0 good)) head.1,
    )

-- an ungranted transaction is at an open phase
pub record Opened (part : GroupState) (x : Transaction) : Type 0 where
  pub busy : InProgress
  pub fl : Flush
  pub inv : ℕ → Ack
  pub shape : x ≡ open_transaction x.cache busy x.write_back x.reading x.written x.waiting
  pub good : Good (Open x.cache busy fl inv)
      (record part { transaction = Some (open_transaction x.cache busy x.write_back x.reading x.written x.waiting) })

-- Only an open phase has an ungranted transaction, and it says what stands in the record.
pub opened : (p : Phase) (part : GroupState) (x : Transaction) → Good p part → part.transaction ≡ Some x → x.granted ≡ false
    → Opened part x
opened p part x good e f = at p (subst (λ (second : GroupState). Good p second) (with_transaction-is part (Some x) e) good)
  where
    shape : (r : ℕ) (b : InProgress) (fl : Flush) (inv : ℕ → Ack) → OpenTransaction r b fl inv x
        → x ≡ open_transaction r b x.write_back x.reading x.written x.waiting
    shape r b fl inv o = λ i. record {
      cache = o.is_cache i;
      request = o.is_request i;
      granted = o.ungranted i;
      write_back = x.write_back;
      reading = x.reading;
      written = x.written;
      waiting = x.waiting;
      requester_debt = o.no_requester_debt i;
      owner_debt = o.no_owner_debt i;
    }

    at : (p : Phase) → Good p (record part { transaction = Some x }) → Opened part x
    at Free q = absurd (cc (f, q.transaction.granted))
    at (Open r b fl inv) q =
        let q2 : Good (Open x.cache b fl inv) (record part { transaction = Some x }) =
        subst (λ (r : ℕ). Good (Open r b fl inv) (record part { transaction = Some x })) (sym q.transaction.is_cache) q in
        let s : x ≡ open_transaction x.cache b x.write_back x.reading x.written x.waiting = shape x.cache b fl inv q2.transaction in
        record {
          busy = b;
          fl = fl;
          inv = inv;
          shape = s;
          good = subst (λ (other : Transaction). Good (Open x.cache b fl inv) (record part { transaction = Some other })) s q2;
        }
    at (Flying r b f2) q = absurd (cc (f, q.transaction.granted))
    at (Settling r t) q = absurd (cc (f, q.transaction.granted))
