-- The entries of the caches and of the directory at each phase: which of them stand for which, and what a message on its way may find.
use Rattle.std.specs.Prelude.{ℕ, ◌≡◌, ◌≢◌, true, false, [], ◌||◌}
use Rattle.bk_base.specs.declared.coh.Coh.{Coh}
use Rattle.bk_base.specs.States.{is_readable, is_writable, is_dirty, is_owner_like, covers}
use Rattle.bk_machine.specs.Entries.{Entry, Holds, is_light}
use Rattle.bk_machine.specs.Messages.{op_tag}
use Rattle.bk_machine.specs.Transactions.{InProgress}
use Rattle.bk_machine.specs.Phases.{Flush, NoFlush, FlushSent, FlushDone, Ack, NoInv, InvSent, InvAcked, Flight, ByBlock, ByWake, ByTransfer, ByFill, ByWord, ByDone, Phase, Free, Open, Flying, Settling, expected_entry, flush_effect, flush_command}

-- a directory's entry d stands for a cache's entry h: it covers its state, and where it is valid it has its tag
pub record Matches (d h : Entry) : Type 0 where
  pub covered : covers d.state h.state ≡ true
  pub same_tag : is_readable d.state ≡ true → d.tag ≡ h.tag

-- a block is in one way of a cache
abbrev pub OneWay : (ℕ → ℕ → Entry) → Type 0
OneWay h = (t c w v : ℕ) → Holds (h c w) t → Holds (h c v) t → w ≡ v

-- a cache that may write a block is the only one that has it
abbrev pub Alone : (ℕ → ℕ → Entry) → Type 0
Alone h = (t c w o v : ℕ) → Holds (h c w) t → Holds (h o v) t → c ≢ o → is_writable (h c w).state ≡ false

-- one cache at most answers for a block
abbrev pub OneOwner : (ℕ → ℕ → Entry) → Type 0
OneOwner h = (t c w o v : ℕ) → Holds (h c w) t → Holds (h o v) t → c ≢ o → is_owner_like (h c w).state ≡ true
    → is_owner_like (h o v).state ≡ false

-- the entry that a flush on its way names holds the tag
abbrev pub FlushAims : Flush → (ℕ → ℕ → Entry) → Type 0
FlushAims NoFlush h = Unit {0}
FlushAims (FlushSent o w t x) h = (Holds (h o w) t) × (is_light x ≡ true)
FlushAims (FlushDone o t ws) h = Unit {0}

-- what a block on its way replaces is clean
pub record Landing (r : ℕ) (b : InProgress) (state : Coh) (h : ℕ → ℕ → Entry) : Type 0 where
  pub light : is_light (h r b.way).state ≡ true
  pub is_valid : is_readable state ≡ true

-- a transfer on its way: what it replaces is clean, its owner has the block, and what is dirty stays so on one side
pub record Transferring (r o ow : ℕ) (b : InProgress) (y state : Coh) (h : ℕ → ℕ → Entry) : Type 0 where
  pub light : is_light (h r b.way).state ≡ true
  pub is_valid : is_readable state ≡ true
  pub has : Holds (h o ow) (op_tag b.op)
  pub other : r ≢ o
  pub weaker : is_writable y ≡ false
  pub stays_dirty : (is_dirty y || is_dirty state) ≡ false → is_light (h o ow).state ≡ true

-- what a grant on its way finds: a block (from memory or from a cache) lands, a wake's copy is there, a transfer as above
abbrev pub FlightAims : Flight → ℕ → InProgress → (ℕ → ℕ → Entry) → Type 0
FlightAims (ByBlock x ws) r b h = Landing r b x h
FlightAims ByWake r b h = Holds (h r b.way) (op_tag b.op)
FlightAims (ByTransfer o ow y x) r b h = Transferring r o ow b y x h
FlightAims (ByFill o x ws) r b h = Landing r b x h
FlightAims (ByWord v) r b h = Unit {0}
FlightAims ByDone r b h = Unit {0}

-- what an open transaction's invalidations mean for the directory d and the caches h
pub record Invalidating (r t : ℕ) (fl : Flush) (inv : ℕ → Ack) (d h : ℕ → ℕ → Entry) : Type 0 where
  pub not_own : inv r ≡ NoInv
  pub gone : (c w : ℕ) → inv c ≢ NoInv → Holds (d c w) t → ⊥
  pub clean : (c w : ℕ) → inv c ≡ InvSent → Holds (h c w) t → is_light (flush_effect fl c w (h c w)).state ≡ true
  pub behind : (c : ℕ) → inv c ≡ InvAcked → flush_command fl c ≡ []

-- the same by phase: a flush and the invalidations of an open transaction, or its grant
abbrev pub Standing : Phase → (ℕ → ℕ → Entry) → (ℕ → ℕ → Entry) → Type 0
Standing Free d h = Unit {0}
Standing (Open r b fl inv) d h = FlushAims fl h × Invalidating r (op_tag b.op) fl inv d h
Standing (Flying r b f) d h = FlightAims f r b h
Standing (Settling r t) d h = Unit {0}

-- the directory with its debts paid, d, and the caches' entries, h, at a phase
pub record Copies (p : Phase) (d h : ℕ → ℕ → Entry) : Type 0 where
  pub matches : (c w : ℕ) → Matches (d c w) (expected_entry p c w (h c w))
  pub one_way : OneWay d
  pub alone : Alone d
  pub one_owner : OneOwner d
  pub real_way : OneWay h
  pub real_alone : Alone h
  pub standing : Standing p d h
