-- What the law needs of a step and of an action. For a step this is what its row says; for an action it is wider than the
-- table of permitted actions: it speaks of all entries of the directory in place of the least finds.
use Rattle.std.specs.Prelude.{ℕ, ◌≡◌, ◌≢◌, ◌≤◌, ◌⊎◌, Bool, true, false, ◌∷◌, Some, None}
use Rattle.bk_base.specs.Places.{Shape}
use Rattle.bk_base.specs.declared.coh.Coh.{Coh}
use Rattle.bk_base.specs.declared.coh.Coh.TheVariants.{I, S, F, M, O}
use Rattle.bk_base.specs.States.{is_readable, is_writable, is_owner_like}
use Rattle.bk_machine.specs.Entries.{Entry, Holds, times, is_light}
use Rattle.bk_machine.specs.Messages.{Op, Load, Store, UcLoad, UcStore, Evict, Wr, UcRd, UcWr, EvictRequest, Inv, StWb, StTr, Blk, StWake, UcBlk, UcDone, EvictDone, InvAck, CohAck, Read, Write, WriteWord, answer_of, request_tag, request_way, request_suits, asks_block, asks_read}
use Rattle.bk_machine.specs.Transactions.{Idle, FlushKept, NotRead, ReadAsked, Got, Transaction, is_asked}
use Rattle.bk_machine.specs.World.{World}
use Rattle.bk_machine.specs.Invariant.{WayInRange}
use Rattle.bk_machine.specs.Steps.{MachineStep, LoadHits, StoreHits, Asks, EvictIdles, InvComes, FlushComes, TransferComes, BlockLoads, BlockStores, WakeStores, WordComes, StoreComes, EvictComes, FillLoads, FillStores, MemoryReads, MemoryWrites, MemoryWritesWord}
use Rattle.bk_machine.specs.Actions.{Action, Takes, Settles, CollectsAck, CollectsAnswer, CollectsBlock, Invalidates, FlushesVictim, FlushesOwn, FlushesOwner, WritesBack, ReadsMemory, WritesWord, GrantsByBlock, GrantsByWake, GrantsByTransfer, AnswersWord, AnswersStore, AnswersEvict, PaysRequester, PaysOwner, Finishes, Idles, NoGranted, Ungranted, Ready, Granted, may_pair}

-- the states that a granted state leaves to other caches
abbrev pub fits : Coh → Coh → Bool
fits S S = true
fits S F = true
fits S O = true
fits F S = true
fits O S = true
fits _ _ = false

-- an operation that a cache can't answer by itself, with its way
abbrev pub AskFits : Op → ℕ → (ℕ → Entry) → Type 0
AskFits (Load t spot) w h = (v : ℕ) → Holds (h v) t → ⊥
AskFits (Store t k f) w h = (Holds (h w) t × is_writable (h w).state ≡ false) ⊎ ((v : ℕ) → Holds (h v) t → ⊥)
AskFits (UcLoad t spot) w h = w ≡ 0
AskFits (UcStore t k f) w h = w ≡ 0
AskFits (Evict t) w h = Holds (h w) t

-- the entry that a block would take the place of may be dropped
abbrev pub VictimLight : Transaction → (ℕ → ℕ → Entry) → Type 0
VictimLight x d = is_readable (d x.cache (request_way x.request)).state ≡ true
    → (d x.cache (request_way x.request)).tag ≢ request_tag x.request
    → is_light (d x.cache (request_way x.request)).state ≡ true

-- what holds where a step of the group g is taken
abbrev pub StepFits : Shape → ℕ → MachineStep → World → Type 0
StepFits shape g (LoadHits c t w spot) world = (world.busy c ≡ None) × Holds (world.entries g c w) t
StepFits shape g (StoreHits c t w k f) world = (world.busy c ≡ None) × (Holds (world.entries g c w) t)
    × is_writable (world.entries g c w).state ≡ true
StepFits shape g (Asks c w op) world = (world.busy c ≡ None) × (AskFits op w (world.entries g c)) × WayInRange shape c w
StepFits shape g (EvictIdles c t) world = (world.busy c ≡ None) × ((w : ℕ) → Holds (world.entries g c w) t → ⊥)
StepFits shape g (InvComes c t rest) world = world.command c ≡ (g, Inv t) ∷ rest
StepFits shape g (FlushComes c w t x rest) world = (world.command c ≡ (g, StWb t x) ∷ rest) × Holds (world.entries g c w) t
StepFits shape g (TransferComes c w t y peer pv x rest) world = (world.command c ≡ (g, StTr t y peer pv x) ∷ rest)
    × Holds (world.entries g c w) t
StepFits shape g (BlockLoads c t w spot x ws rest) world = (world.command c ≡ (g, Blk t w x ws) ∷ rest)
    × world.busy c ≡ Some (g, record { op = Load t spot; way = w })
StepFits shape g (BlockStores c t w k f x ws rest) world =
    (world.command c ≡ (g, Blk t w x ws) ∷ rest) × (world.busy c ≡ Some (g, record { op = Store t k f; way = w }))
    × is_writable x ≡ true
StepFits shape g (WakeStores c t w k f rest) world =
    (world.command c ≡ (g, StWake t w) ∷ rest) × (world.busy c ≡ Some (g, record { op = Store t k f; way = w }))
    × Holds (world.entries g c w) t
StepFits shape g (WordComes c t w spot n rest) world = (world.command c ≡ (g, UcBlk t spot.word n) ∷ rest)
    × world.busy c ≡ Some (g, record { op = UcLoad t spot; way = w })
StepFits shape g (StoreComes c t w k f rest) world = (world.command c ≡ (g, UcDone t k) ∷ rest)
    × world.busy c ≡ Some (g, record { op = UcStore t k f; way = w })
StepFits shape g (EvictComes c t w rest) world = (world.command c ≡ (g, EvictDone t) ∷ rest)
    × world.busy c ≡ Some (g, record { op = Evict t; way = w })
StepFits shape g (FillLoads c o t w spot x ws rest) world =
    (world.fill c o ≡ (g, record { tag = t; way = w; state = x; words = ws }) ∷ rest)
    × world.busy c ≡ Some (g, record { op = Load t spot; way = w })
StepFits shape g (FillStores c o t w k f x ws rest) world =
    (world.fill c o ≡ (g, record { tag = t; way = w; state = x; words = ws }) ∷ rest)
    × (world.busy c ≡ Some (g, record { op = Store t k f; way = w })) × is_writable x ≡ true
StepFits shape g (MemoryReads t rest) world = world.memout ≡ (g, Read t) ∷ rest
StepFits shape g (MemoryWrites t ws rest) world = world.memout ≡ (g, Write t ws) ∷ rest
StepFits shape g (MemoryWritesWord t k f rest) world = world.memout ≡ (g, WriteWord t k f) ∷ rest

-- a flush of the entry (o, w), which holds the tag u
pub record FlushAllowed (g o w u : ℕ) (y : Coh) (x : Transaction) (world : World) : Type 0 where
  pub ungranted : Ungranted g x world
  pub idle : x.write_back ≡ Idle
  pub aims : Holds (world.directory g o w) u
  pub light : is_light y ≡ true
  pub weaker : is_owner_like y ≡ false
  pub own : (u ≡ request_tag x.request) ⊎ (o ≡ x.cache)

-- when the law holds of an action of the group g
abbrev pub Allowed : ℕ → Action → World → Type 0
Allowed g (Takes c q rest) world = (world.transaction ≡ None) × (world.pending g ≡ false) × world.request c ≡ (g, q) ∷ rest
Allowed g (Settles c t rest) world = NoGranted world.transaction × world.response c ≡ (g, CohAck t) ∷ rest
Allowed g (CollectsAck c t rest x) world = Ungranted g x world × world.response c ≡ (g, InvAck t) ∷ rest
Allowed g (CollectsAnswer c t ws rest x) world = Ungranted g x world × world.response c ≡ (g, answer_of t ws) ∷ rest
Allowed g (CollectsBlock t ws rest x) world = Ungranted g x world × (x.reading ≡ ReadAsked)
    × world.memin ≡ (g, record { tag = t; words = ws }) ∷ rest
Allowed g (Invalidates f to x) world =
    Ungranted g x world × (times x.cache to ≡ 0) × ((c : ℕ) → times c to ≤ 1)
    × ((c : ℕ) → times c to ≡ 1 → (w : ℕ) × Holds (world.directory g c w) (request_tag x.request))
    × ((c w : ℕ) → times c to ≡ 1 → Holds (world.directory g c w) (request_tag x.request)
    → is_light (world.directory g c w).state ≡ true)
Allowed g (FlushesVictim x) world =
    FlushAllowed g x.cache (request_way x.request) (world.directory g x.cache (request_way x.request)).tag I x world
Allowed g (FlushesOwn w y x) world = FlushAllowed g x.cache w (request_tag x.request) y x world
Allowed g (FlushesOwner o w y x) world = FlushAllowed g o w (request_tag x.request) y x world
Allowed g (WritesBack b x) world = Ungranted g x world × x.write_back ≡ FlushKept b
Allowed g (ReadsMemory x) world =
    Ungranted g x world × (x.write_back ≡ Idle) × (x.reading ≡ NotRead) × (asks_read x.request ≡ true)
    × ((c w : ℕ) → Holds (world.directory g c w) (request_tag x.request) → is_light (world.directory g c w).state ≡ true)
Allowed g (WritesWord t k f x) world =
    Ready g x world × (x.request ≡ UcWr t k f) × (x.written ≡ false) × (x.reading ≡ NotRead)
    × ((c w : ℕ) → Holds (world.directory g c w) t → ⊥)
Allowed g (GrantsByBlock ws y x) world =
    Ready g x world × (x.reading ≡ Got ws) × (asks_block x.request ≡ true) × (request_suits x.request y ≡ true)
    × (is_readable y ≡ true)
    × VictimLight x (world.directory g)
    × ((c w : ℕ) → c ≢ x.cache → Holds (world.directory g c w) (request_tag x.request)
    → fits y (world.directory g c w).state ≡ true)
Allowed g (GrantsByWake t w x) world =
    Ready g x world × (x.request ≡ Wr t w) × (is_asked x.reading ≡ false) × ((own : ℕ) × Holds (world.directory g x.cache own) t)
    × ((c i : ℕ) → c ≢ x.cache → Holds (world.directory g c i) t → ⊥)
Allowed g (GrantsByTransfer o ow y z x) world =
    Ready g x world × (is_asked x.reading ≡ false) × (asks_block x.request ≡ true) × (request_suits x.request z ≡ true)
    × VictimLight x (world.directory g)
    × (o ≢ x.cache) × (Holds (world.directory g o ow) (request_tag x.request))
    × (is_owner_like (world.directory g o ow).state ≡ true)
    × (may_pair (world.directory g o ow).state y z ≡ true)
    × (z ≡ M → (c w : ℕ) → c ≢ x.cache → c ≢ o → Holds (world.directory g c w) (request_tag x.request) → ⊥)
Allowed g (AnswersWord t k ws x) world = Ready g x world × (x.request ≡ UcRd t k) × x.reading ≡ Got ws
Allowed g (AnswersStore t k f x) world = Ready g x world × (x.request ≡ UcWr t k f) × (x.written ≡ true)
    × is_asked x.reading ≡ false
Allowed g (AnswersEvict t w x) world = Ready g x world × (x.request ≡ EvictRequest t w) × is_asked x.reading ≡ false
Allowed g (PaysRequester d x) world = Granted g x world × x.requester_debt ≡ Some d
Allowed g (PaysOwner d x) world = Granted g x world × x.owner_debt ≡ Some d
Allowed g (Finishes x) world = Granted g x world × (x.requester_debt ≡ None) × x.owner_debt ≡ None
Allowed g Idles world = Unit {0}
