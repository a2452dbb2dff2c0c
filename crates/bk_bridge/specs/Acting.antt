-- An action of the machine for each instruction, where there is one, for the transaction that the engine serves.
use Rattle.std.specs.Prelude.{◌≡◌, ℕ, ◌==◌, Bool, true, false, List, ◌∷◌, Option, Some, None, option_map, if◌then◌else◌}
use Rattle.bk_base.specs.Places.{Shape, group_of, tag_at, word_of}
use Rattle.bk_base.specs.declared.coh.Coh.{Coh}
use Rattle.bk_base.specs.declared.coh.Coh.TheVariants as states
use Rattle.bk_isa.specs.declared.operand.TheConstants.{WHOSE_OWN, WHOSE_OWNER, WITH_OWNER}
use Rattle.bk_isa.specs.declared.form.Form.{Form}
use Rattle.bk_isa.specs.declared.form.Form.TheVariants as forms
use Rattle.bk_msg.specs.declared.row.Row.{Row}
use Rattle.bk_engine.specs.declared.parts.Core.{Core}
use Rattle.bk_engine.specs.declared.parts.Held.{Held}
use Rattle.bk_engine.specs.declared.parts.DirtyBlock.{DirtyBlock}
use Rattle.bk_engine.specs.declared.parts.RequestKind.{RequestKind}
use Rattle.bk_engine.specs.declared.parts.RequestKind.TheVariants as kinds
use Rattle.bk_machine.specs.Actions.{Action, Takes, Settles, CollectsAck, CollectsAnswer, CollectsBlock, Invalidates, FlushesVictim, FlushesOwn, FlushesOwner, WritesBack, ReadsMemory, WritesWord, GrantsByBlock, GrantsByWake, GrantsByTransfer, AnswersWord, AnswersStore, AnswersEvict, PaysRequester, PaysOwner, Finishes, Idles, action_after, invalidation_targets}
use Rattle.bk_machine.specs.Directory as machine
use Rattle.bk_machine.specs.Entries.{with_state}
use Rattle.bk_machine.specs.Messages.{becomes, Request, Rd, Wr, UcRd, UcWr, EvictRequest, Response, InvAck, CohAck, MemoryBlock, answer_of, request_way}
use Rattle.bk_machine.specs.Products.{words_of, as_request, as_response, as_block}
use Rattle.bk_machine.specs.Transactions.{Debt, Transaction, new_transaction}
use Rattle.bk_machine.specs.World.{World}
use Rattle.bk_bridge.specs.Effects.{own_place, owner_place, done_by, pops_head}

-- THE REQUEST

-- the machine's request of a request that the engine holds
abbrev pub request_by : Shape → RequestKind → Held → Request
request_by k kinds.Rd h = Rd (tag_at k h.addr) h.way
request_by k kinds.Wr h = Wr (tag_at k h.addr) h.way
request_by k kinds.UcRd h = UcRd (tag_at k h.addr) (word_of h.addr)
request_by k kinds.UcWr h = UcWr (tag_at k h.addr) (word_of h.addr) (becomes h.value)
request_by k kinds.Evict h = EvictRequest (tag_at k h.addr) h.way

abbrev pub request_for : Shape → Held → Request
request_for k h = request_by k h.kind h

-- The transaction is for the request that the engine holds. (An uncached request names no way, so the way is a fact of its own: 0.)
pub record Serves (k : Shape) (h : Held) (x : Transaction) : Type 0 where
  pub cache : x.cache ≡ h.source
  pub request : x.request ≡ request_for k h
  pub way : request_way x.request ≡ h.way

-- FLUSHES, GRANTS AND ANSWERS: what each needs, if it is there

abbrev pub victim_action : Coh → Transaction → Option Action
victim_action states.I x = Some (FlushesVictim x)
victim_action state x = None

abbrev pub flush_action : Shape → Held → ℕ → Coh → Transaction → World → Option Action
flush_action k h who state x world =
    if who == WHOSE_OWN then option_map (λ v. FlushesOwn v state x)
    (machine.own_way k.ways (world.directory (group_of k h.addr)) h.source (tag_at k h.addr))
    else if who == WHOSE_OWNER then option_map (λ at. FlushesOwner at.0 at.1 state x) (owner_place k h world)
    else victim_action state x

abbrev pub kept_action : Shape → Held → Option DirtyBlock → Transaction → Option Action
kept_action k h None x = None
kept_action k h (Some kept) x =
    if group_of k kept.addr == group_of k h.addr
    then Some (WritesBack (record { tag = tag_at k kept.addr; words = words_of kept.words }) x) else None

-- a state that is written to an entry of the directory is a debt that is paid
abbrev pub debt_at : Shape → Held → ℕ × ℕ → Coh → World → Debt
debt_at k h at state world = record { cache = at.0; way = at.1; entry = with_state (world.directory (group_of k h.addr) at.0 at.1) state }

abbrev pub pay_action : Shape → Held → ℕ → Coh → Transaction → World → Option Action
pay_action k h who state x world =
    if who == WHOSE_OWN then Some (PaysRequester (debt_at k h (own_place k h world) state world) x)
    else if who == WHOSE_OWNER then option_map (λ at. PaysOwner (debt_at k h at state world) x) (owner_place k h world)
    else None

-- THE TABLE: the action of an instruction for the request that is held
abbrev pub action_of : Shape → Core → Held → Transaction → World → Form → Option Action
action_of k core h x world (forms.Inv a) =
    Some (Invalidates (a == WITH_OWNER)
    (invalidation_targets (a == WITH_OWNER)
    (machine.owner k.caches k.ways (world.directory (group_of k h.addr)) h.source (tag_at k h.addr))
    (machine.others k.caches k.ways (world.directory (group_of k h.addr)) h.source (tag_at k h.addr))) x)
action_of k core h x world (forms.Stwb who state) = flush_action k h who state x world
action_of k core h x world (forms.Tr owner_state state) =
    option_map (λ at. GrantsByTransfer at.0 at.1 owner_state state x) (owner_place k h world)
action_of k core h x world (forms.Blk state) = option_map (λ words. GrantsByBlock (words_of words) state x) core.got
action_of k core h x world forms.Wake = Some (GrantsByWake (tag_at k h.addr) h.way x)
action_of k core h x world forms.Ucblk = option_map (λ words. AnswersWord (tag_at k h.addr) (word_of h.addr) (words_of words) x) core.got
action_of k core h x world forms.Ucdone = Some (AnswersStore (tag_at k h.addr) (word_of h.addr) (becomes h.value) x)
action_of k core h x world forms.Done = Some (AnswersEvict (tag_at k h.addr) h.way x)
action_of k core h x world forms.Memrd = Some (ReadsMemory x)
action_of k core h x world forms.Memww = Some (WritesWord (tag_at k h.addr) (word_of h.addr) (becomes h.value) x)
action_of k core h x world forms.Memwb = kept_action k h core.dirty x
action_of k core h x world (forms.Wde state) =
    Some (PaysRequester (record { cache = h.source; way = h.way; entry = record { tag = tag_at k h.addr; state = state } }) x)
action_of k core h x world (forms.Wds who state) = pay_action k h who state x world
action_of k core h x world forms.Fin = Some (Finishes x)
action_of k core h x world (forms.Popq wp) = None
action_of k core h x world f = Some Idles

-- THE STATEMENTS

-- What the instruction does to the machine's state is what the action does, the transaction aside: it is taken over from the action.
abbrev pub ActionsAlike : Type 0
ActionsAlike = (k : Shape) (core : Core) (h : Held) (x : Transaction) (world : World) (f : Form) (a : Action)
    → Serves k h x → core.held ≡ Some h → action_of k core h x world f ≡ Some a
    → record (done_by k core f world) { transaction = (action_after (group_of k h.addr) a world).transaction }
    ≡ action_after (group_of k h.addr) a world

-- `popq` takes a request or settles one with `wp`, and collects an answer without it.
pub record PopsAlike (k : Shape) (c : ℕ) (m : Row) (world : World) : Type 0 where
  pub take : (g : ℕ) (q : Request) (rest : List (ℕ × Request)) → as_request k m ≡ Some (g, q)
      → world.request c ≡ (g, q) ∷ rest
      → record (pops_head k true c m world) { transaction = Some (g, new_transaction c q) } ≡ action_after g (Takes c q rest) world
  pub settle : (g t : ℕ) (rest : List (ℕ × Response)) → as_response k m ≡ Some (g, CohAck t)
      → world.response c ≡ (g, CohAck t) ∷ rest
      → pops_head k true c m world ≡ action_after g (Settles c t rest) world
  pub ack : (g t : ℕ) (rest : List (ℕ × Response)) (x : Transaction) → as_response k m ≡ Some (g, InvAck t)
      → world.response c ≡ (g, InvAck t) ∷ rest
      → record (pops_head k false c m world) { transaction = (action_after g (CollectsAck c t rest x) world).transaction }
      ≡ action_after g (CollectsAck c t rest x) world
  pub answer : (g t : ℕ) (words : Option (ℕ → ℕ)) (rest : List (ℕ × Response)) (x : Transaction)
      → as_response k m ≡ Some (g, answer_of t words)
      → world.response c ≡ (g, answer_of t words) ∷ rest
      → record (pops_head k false c m world) { transaction = (action_after g (CollectsAnswer c t words rest x) world).transaction }
      ≡ action_after g (CollectsAnswer c t words rest x) world
  pub block : (wp : Bool) (g : ℕ) (b : MemoryBlock) (rest : List (ℕ × MemoryBlock)) (x : Transaction) → as_block k m ≡ Some (g, b)
      → world.memin ≡ (g, b) ∷ rest
      → record (pops_head k wp c m world) { transaction = (action_after g (CollectsBlock b.tag b.words rest x) world).transaction }
      ≡ action_after g (CollectsBlock b.tag b.words rest x) world

abbrev pub HeadsAlike : Type 0
HeadsAlike = (k : Shape) (c : ℕ) (m : Row) (world : World) → PopsAlike k c m world
