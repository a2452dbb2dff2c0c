-- The permitted actions of the engine: what it may do with its transaction, when, and what that changes.
use Rattle.std.specs.Prelude.{ℕ, ◌≡◌, ◌≢◌, ◌<◌, ◌⊎◌, ◌+◌, Bool, true, false, List, [], ◌∷◌, ◌++◌, Option, Some, None, length, if◌then◌else◌, ◌==◌}
use Rattle.bk_base.specs.Places.{Shape}
use Rattle.bk_base.specs.Tables.{put}
use Rattle.bk_base.specs.declared.coh.Coh.{Coh}
use Rattle.bk_base.specs.declared.coh.Coh.TheVariants.{I, S, E, F, M, O}
use Rattle.bk_machine.specs.Tables.{put2}
use Rattle.bk_machine.specs.Entries.{Entry, with_state, wiped_in_caches, times, is_light}
use Rattle.bk_machine.specs.Messages.{Request, Wr, UcRd, UcWr, EvictRequest, ToCache, Inv, StWb, StTr, Blk, StWake, UcBlk, UcDone, EvictDone, Response, InvAck, CohAck, Read, Write, WriteWord, MemoryBlock, answer_of, request_tag, request_way, request_suits, asks_block, asks_read}
use Rattle.bk_machine.specs.Transactions.{Idle, FlushAsked, FlushKept, NotRead, ReadAsked, Got, Debt, Transaction, new_transaction, remove_one, write_back_after, is_asked}
use Rattle.bk_machine.specs.Directory.{own, own_way, owner, owner_way, owner_state, others, victim}
use Rattle.bk_machine.specs.World.{World}

-- An action, with what it acts on: the transaction, the head that it takes (`rest` is what is left of its channel), the ways
-- that the directory tells. The condition says what these must be.
pub data Action : Type 0 where
  Takes : (cache : ℕ) → Request → (rest : List (ℕ × Request)) → Action
  Settles : (cache tag : ℕ) → (rest : List (ℕ × Response)) → Action
  CollectsAck : (cache tag : ℕ) → (rest : List (ℕ × Response)) → Transaction → Action
  CollectsAnswer : (cache tag : ℕ) → (words : Option (ℕ → ℕ)) → (rest : List (ℕ × Response)) → Transaction → Action
  CollectsBlock : (tag : ℕ) → (words : ℕ → ℕ) → (rest : List (ℕ × MemoryBlock)) → Transaction → Action
  Invalidates : (with_owner : Bool) → (to : List ℕ) → Transaction → Action
  FlushesVictim : Transaction → Action
  FlushesOwn : (way : ℕ) → (to : Coh) → Transaction → Action
  FlushesOwner : (owner way : ℕ) → (to : Coh) → Transaction → Action
  WritesBack : MemoryBlock → Transaction → Action
  ReadsMemory : Transaction → Action
  WritesWord : (tag word : ℕ) → (change : ℕ → ℕ) → Transaction → Action
  GrantsByBlock : (words : ℕ → ℕ) → (state : Coh) → Transaction → Action
  GrantsByWake : (tag way : ℕ) → Transaction → Action
  GrantsByTransfer : (owner way : ℕ) → (owner_state state : Coh) → Transaction → Action
  AnswersWord : (tag word : ℕ) → (words : ℕ → ℕ) → Transaction → Action
  AnswersStore : (tag word : ℕ) → (change : ℕ → ℕ) → Transaction → Action
  AnswersEvict : (tag way : ℕ) → Transaction → Action
  PaysRequester : Debt → Transaction → Action
  PaysOwner : Debt → Transaction → Action
  Finishes : Transaction → Action
  Idles : Action

-- THE WORDS OF THE CONDITIONS

-- no transaction, or one that isn't granted
abbrev pub NoGranted : Option (ℕ × Transaction) → Type 0
NoGranted None = Unit {0}
NoGranted (Some x) = x.1.granted ≡ false

-- x is the transaction, of group g, and isn't granted
pub record Ungranted (g : ℕ) (x : Transaction) (world : World) : Type 0 where
  pub is : world.transaction ≡ Some (g, x)
  pub ungranted : x.granted ≡ false

-- and no flush is under way or kept, and all acks have come: what each grant and answer waits for
pub record Ready (g : ℕ) (x : Transaction) (world : World) : Type 0 where
  pub ungranted : Ungranted g x world
  pub idle : x.write_back ≡ Idle
  pub acked : x.waiting ≡ []

-- x is the transaction, of group g, and is granted
pub record Granted (g : ℕ) (x : Transaction) (world : World) : Type 0 where
  pub is : world.transaction ≡ Some (g, x)
  pub granted : x.granted ≡ true

-- own, owner, others and victim for a transaction, in the directory of its group as it is at the moment
abbrev pub own_for : Shape → (ℕ → ℕ → Entry) → Transaction → Coh
own_for k d x = own k.ways d x.cache (request_tag x.request)

abbrev pub own_way_for : Shape → (ℕ → ℕ → Entry) → Transaction → Option ℕ
own_way_for k d x = own_way k.ways d x.cache (request_tag x.request)

abbrev pub owner_for : Shape → (ℕ → ℕ → Entry) → Transaction → Option ℕ
owner_for k d x = owner k.caches k.ways d x.cache (request_tag x.request)

abbrev pub owner_state_for : Shape → (ℕ → ℕ → Entry) → Transaction → Coh
owner_state_for k d x = owner_state k.caches k.ways d x.cache (request_tag x.request)

abbrev pub others_for : Shape → (ℕ → ℕ → Entry) → Transaction → List ℕ
others_for k d x = others k.caches k.ways d x.cache (request_tag x.request)

abbrev pub victim_for : (ℕ → ℕ → Entry) → Transaction → Coh
victim_for d x = victim (asks_block x.request) d x.cache (request_tag x.request) (request_way x.request)

-- the owner is cache o, with its entry at way w
pub record OwnerAt (k : Shape) (d : ℕ → ℕ → Entry) (x : Transaction) (o w : ℕ) : Type 0 where
  pub is_owner : owner_for k d x ≡ Some o
  pub is_way : owner_way k.ways d (request_tag x.request) o ≡ Some w

-- whom an invalidation goes to: others, and by choice the owner too where it isn't among them
abbrev pub targets_with_owner : Option ℕ → List ℕ → List ℕ
targets_with_owner None os = os
targets_with_owner (Some c) os = if times c os == 0 then c ∷ os else os

abbrev pub invalidation_targets : Bool → Option ℕ → List ℕ → List ℕ
invalidation_targets false o os = os
invalidation_targets true o os = targets_with_owner o os

-- owner none, or in F
abbrev pub NoneOrForward : Coh → Type 0
NoneOrForward state = (state ≡ I) ⊎ (state ≡ F)

-- the states that a flush may leave
abbrev pub FlushState : Coh → Type 0
FlushState state = (state ≡ I) ⊎ (state ≡ S)

-- The state that a block may be granted in, by owner (I for none) and others: E and M where no other cache has an entry,
-- F where there is no owner, S where there is none or one in F.
abbrev pub BlockSuits : Coh → Coh → List ℕ → Type 0
BlockSuits I o os = ⊥
BlockSuits S o os = NoneOrForward o
BlockSuits E o os = (o ≡ I) × os ≡ []
BlockSuits F o os = o ≡ I
BlockSuits M o os = (o ≡ I) × os ≡ []
BlockSuits O o os = ⊥

-- the pairs (the owner's new state, the requester's) that a transfer may give, by the owner's state
abbrev pub may_pair : Coh → Coh → Coh → Bool
may_pair z O S = true
may_pair z S O = true
may_pair z I O = true
may_pair z I M = true
may_pair F F S = true
may_pair F S F = true
may_pair F I F = true
may_pair _ _ _ = false

-- THE TABLE: when an action of group s may happen

abbrev pub Permitted : Shape → ℕ → Action → World → Type 0
-- take: no transaction; the group of a request channel's head isn't pending
Permitted k g (Takes c q rest) world = (world.transaction ≡ None) × (world.request c ≡ (g, q) ∷ rest) × (world.pending g ≡ false)
-- settle: no granted transaction; a response head is CohAck
Permitted k g (Settles c t rest) world = NoGranted world.transaction × world.response c ≡ (g, CohAck t) ∷ rest
-- collect: ungranted; InvAck with acks above 0, or Wb or NullWb with a flush asked, or Block with a read asked
Permitted k g (CollectsAck c t rest x) world = Ungranted g x world × (world.response c ≡ (g, InvAck t) ∷ rest)
    × (0 < length x.waiting)
Permitted k g (CollectsAnswer c t ws rest x) world = Ungranted g x world × (world.response c ≡ (g, answer_of t ws) ∷ rest)
    × (x.write_back ≡ FlushAsked)
Permitted k g (CollectsBlock t ws rest x) world = Ungranted g x world × (world.memin ≡ (g, record { tag = t; words = ws }) ∷ rest)
    × (x.reading ≡ ReadAsked)
-- invalidate: ungranted; to others, and by choice to an owner in F
Permitted k g (Invalidates f to x) world =
    Ungranted g x world × (to ≡ invalidation_targets f (owner_for k (world.directory g) x) (others_for k (world.directory g) x))
    × (f ≡ true → NoneOrForward (owner_state_for k (world.directory g) x))
-- flush victim: ungranted, no flush, victim heavy
Permitted k g (FlushesVictim x) world = Ungranted g x world × (x.write_back ≡ Idle)
    × (is_light (victim_for (world.directory g) x) ≡ false)
-- flush own: ungranted, no flush, own valid, and not S where the new state is S
Permitted k g (FlushesOwn v y x) world =
    Ungranted g x world × (x.write_back ≡ Idle) × (own_way_for k (world.directory g) x ≡ Some v) × FlushState y
    × (y ≡ S → own_for k (world.directory g) x ≢ S)
-- flush owner: ungranted, no flush, there is an owner
Permitted k g (FlushesOwner o v y x) world = Ungranted g x world × (x.write_back ≡ Idle) × OwnerAt k (world.directory g) x o v
    × FlushState y
-- write back: a block is kept
Permitted k g (WritesBack b x) world = (world.transaction ≡ Some (g, x)) × (x.write_back ≡ FlushKept b)
-- read memory: ungranted Rd, Wr or UcRd; not read, no flush; owner none or F; own I, S or F
Permitted k g (ReadsMemory x) world =
    Ungranted g x world × (asks_read x.request ≡ true)
    × (x.reading ≡ NotRead) × (x.write_back ≡ Idle) × NoneOrForward (owner_state_for k (world.directory g) x)
    × (is_light (own_for k (world.directory g) x) ≡ true)
-- write word: ungranted UcWr, word not written; own I, owner none, others empty, acks 0, no flush, not read
Permitted k g (WritesWord t i f x) world =
    Ready g x world × (x.request ≡ UcWr t i f)
    × (x.written ≡ false) × (own_for k (world.directory g) x ≡ I) × (owner_for k (world.directory g) x ≡ None)
    × (others_for k (world.directory g) x ≡ []) × (x.reading ≡ NotRead)
-- grant by block: ungranted, acks 0, no flush, block got, victim light; the kind, the state granted, owner and others agree
Permitted k g (GrantsByBlock ws y x) world =
    Ready g x world × (x.reading ≡ Got ws) × (is_light (victim_for (world.directory g) x) ≡ true)
    × (request_suits x.request y ≡ true)
    × BlockSuits y (owner_state_for k (world.directory g) x) (others_for k (world.directory g) x)
-- grant by wake: ungranted Wr, acks 0, no flush, no read asked; own S, F or O; owner none, others empty
Permitted k g (GrantsByWake t v x) world =
    Ready g x world × (x.request ≡ Wr t v) × (is_asked x.reading ≡ false)
    × ((own_for k (world.directory g) x ≡ S) ⊎ ((own_for k (world.directory g) x ≡ F) ⊎ (own_for k (world.directory g) x ≡ O)))
    × (owner_for k (world.directory g) x ≡ None) × (others_for k (world.directory g) x ≡ [])
-- grant by transfer: ungranted, acks 0, no flush, no read asked, victim light; there is an owner; the pair is allowed and suits
-- the kind; others empty for M
Permitted k g (GrantsByTransfer o v y z x) world =
    Ready g x world × (is_asked x.reading ≡ false) × (is_light (victim_for (world.directory g) x) ≡ true)
    × OwnerAt k (world.directory g) x o v
    × (may_pair (owner_state_for k (world.directory g) x) y z ≡ true) × (request_suits x.request z ≡ true)
    × (z ≡ M → others_for k (world.directory g) x ≡ [])
-- answer: ungranted, acks 0, no flush; UcRd with the block got, or UcWr with the word written, or Evict with own I
Permitted k g (AnswersWord t i ws x) world = Ready g x world × (x.request ≡ UcRd t i) × (x.reading ≡ Got ws)
Permitted k g (AnswersStore t i f x) world = Ready g x world × (x.request ≡ UcWr t i f) × (x.written ≡ true)
Permitted k g (AnswersEvict t v x) world = Ready g x world × (x.request ≡ EvictRequest t v) × (own_for k (world.directory g) x ≡ I)
-- pay: a debt is unpaid
Permitted k g (PaysRequester d x) world = (world.transaction ≡ Some (g, x)) × (x.requester_debt ≡ Some d)
Permitted k g (PaysOwner d x) world = (world.transaction ≡ Some (g, x)) × (x.owner_debt ≡ Some d)
-- finish: granted, both debts paid
Permitted k g (Finishes x) world = Granted g x world × (x.requester_debt ≡ None) × (x.owner_debt ≡ None)
-- idle: always
Permitted k g Idles world = Unit {0}

-- THE TABLE: what an action changes

abbrev pub with_transaction : ℕ → Transaction → World → World
with_transaction g x world = record world { transaction = Some (g, x) }

-- a command goes to the end of its channel
abbrev pub with_command_sent : ℕ → ℕ → ToCache → World → World
with_command_sent g c m world = record world { command = put world.command c (world.command c ++ (g, m) ∷ []) }

-- StWb to an entry's cache, for its block: the entry takes the state, and the flush is asked
abbrev pub with_flush : ℕ → ℕ → ℕ → ℕ → Coh → Transaction → World → World
with_flush g o w t y x world =
    with_transaction g (record x { write_back = FlushAsked })
    (with_command_sent g o (StWb t y)
    (record world { directory = put world.directory g (put2 (world.directory g) o w (with_state (world.directory g o w) y)) }))

-- the requester's entry has still to become the block in the state granted
abbrev pub debt_of_requester : Transaction → Coh → Option Debt
debt_of_requester x y =
    Some (record { cache = x.cache; way = request_way x.request; entry = record { tag = request_tag x.request; state = y } })

-- the owner's entry has still to take the state
abbrev pub debt_of_owner : ℕ → ℕ → Transaction → Coh → Option Debt
debt_of_owner o w x y = Some (record { cache = o; way = w; entry = record { tag = request_tag x.request; state = y } })

abbrev pub action_after : ℕ → Action → World → World
-- take: the head removed, a transaction begun, the group pending, taken grows
action_after g (Takes c q rest) world =
    record world {
      request = put world.request c rest;
      transaction = Some (g, new_transaction c q);
      pending = put world.pending g true;
      taken_count = put world.taken_count g (world.taken_count g + 1);
    }
-- settle: the head removed, its group not pending, settled grows
action_after g (Settles c t rest) world =
    record world {
      response = put world.response c rest;
      pending = put world.pending g false;
      settled_count = put world.settled_count g (world.settled_count g + 1);
    }
-- collect: the head removed; acks less one, or the block kept, or no flush, or the block got
action_after g (CollectsAck c t rest x) world =
    with_transaction g (record x { waiting = remove_one c x.waiting }) (record world { response = put world.response c rest })
action_after g (CollectsAnswer c t ws rest x) world =
    with_transaction g (record x { write_back = write_back_after t ws }) (record world { response = put world.response c rest })
action_after g (CollectsBlock t ws rest x) world = with_transaction g (record x { reading = Got ws }) (record world { memin = rest })
-- invalidate: an Inv to each, their entries I, acks more by their number
action_after g (Invalidates f to x) world = with_transaction g (record x { waiting = x.waiting ++ to }) (record world {
  directory = put world.directory g (wiped_in_caches to (request_tag x.request) (world.directory g));
  command = λ c. if times c to == 1 then world.command c ++ (g, Inv (request_tag x.request)) ∷ [] else world.command c;
})
-- flush: StWb to I, or to I or S
action_after g (FlushesVictim x) world =
    with_flush g x.cache (request_way x.request) (world.directory g x.cache (request_way x.request)).tag I x world
action_after g (FlushesOwn v y x) world = with_flush g x.cache v (request_tag x.request) y x world
action_after g (FlushesOwner o v y x) world = with_flush g o v (request_tag x.request) y x world
-- write back: Write, no flush
action_after g (WritesBack b x) world =
    with_transaction g (record x { write_back = Idle }) (record world { memout = world.memout ++ (g, Write b.tag b.words) ∷ [] })
-- read memory: Read, the read asked
action_after g (ReadsMemory x) world =
    with_transaction g (record x { reading = ReadAsked })
    (record world { memout = world.memout ++ (g, Read (request_tag x.request)) ∷ [] })
-- write word: WriteWord, the word written
action_after g (WritesWord t i f x) world =
    with_transaction g (record x { written = true }) (record world { memout = world.memout ++ (g, WriteWord t i f) ∷ [] })
-- grant by block: Blk, granted, the requester's debt
action_after g (GrantsByBlock ws y x) world =
    with_transaction g (record x { granted = true; requester_debt = debt_of_requester x y })
    (with_command_sent g x.cache (Blk (request_tag x.request) (request_way x.request) y ws) world)
-- grant by wake: StWake, granted, the requester's debt of M
action_after g (GrantsByWake t v x) world =
    with_transaction g (record x {
      granted = true;
      requester_debt = Some (record { cache = x.cache; way = v; entry = record { tag = t; state = M } });
    })
    (with_command_sent g x.cache (StWake t v) world)
-- grant by transfer: StTr to the owner, granted, the debts of both
action_after g (GrantsByTransfer o v y z x) world =
    with_transaction g (record x { granted = true; requester_debt = debt_of_requester x z; owner_debt = debt_of_owner o v x y })
    (with_command_sent g o (StTr (request_tag x.request) y x.cache (request_way x.request) z) world)
-- answer: UcBlk with the word, UcDone or Done; granted
action_after g (AnswersWord t i ws x) world =
    with_transaction g (record x { granted = true }) (with_command_sent g x.cache (UcBlk t i (ws i)) world)
action_after g (AnswersStore t i f x) world =
    with_transaction g (record x { granted = true }) (with_command_sent g x.cache (UcDone t i) world)
action_after g (AnswersEvict t v x) world =
    with_transaction g (record x { granted = true }) (with_command_sent g x.cache (EvictDone t) world)
-- pay: the entry becomes what is owed, and the debt is paid
action_after g (PaysRequester d x) world =
    with_transaction g (record x { requester_debt = None })
    (record world { directory = put world.directory g (put2 (world.directory g) d.cache d.way d.entry) })
action_after g (PaysOwner d x) world =
    with_transaction g (record x { owner_debt = None })
    (record world { directory = put world.directory g (put2 (world.directory g) d.cache d.way d.entry) })
-- finish: no transaction
action_after g (Finishes x) world = record world { transaction = None }
-- idle: nothing
action_after g Idles world = world
