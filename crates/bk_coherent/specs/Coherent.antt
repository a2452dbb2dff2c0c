-- What it means that a state of the system is coherent.
use Rattle.std.specs.Prelude.{◌≡◌, ℕ, ◌+◌, ◌<◌, true, List, [], ◌∷◌, ◌++◌, Option, None, Some, unwrap_or, ◌==◌, if◌then◌else◌}
use Rattle.std.specs.List.{count_by}
use Rattle.bk_base.specs.Counting.{or_else}
use Rattle.bk_base.specs.Places.{Shape, set_of, tag_of}
use Rattle.bk_base.specs.States.{is_writable}
use Rattle.bk_base.specs.declared.op.Op.{Op}
use Rattle.bk_base.specs.declared.op.Op.TheVariants.{Load, Store, UcLoad, UcStore}
use Rattle.bk_base.specs.declared.op.Done.{Done}
use Rattle.bk_lce.specs.CacheState.{holds}
use Rattle.bk_lce.specs.declared.line.Line.{Line}
use Rattle.bk_isa.specs.declared.form.Form.{Form}
use Rattle.bk_system.specs.declared.event.Event.{Event}
use Rattle.bk_system.specs.declared.event.Origin.{Origin}
use Rattle.bk_system.specs.State.{State}
use Rattle.bk_system.specs.Runs.{run}

-- SINGLE WRITER OR MANY READERS

-- the line at a way of a block's set
abbrev pub line_for : Shape → State → ℕ → ℕ → ℕ → Line
line_for k s c block way = (s.caches c).lines (set_of k block) way

-- a cache has a block at a way: the line there has the block's tag, in a state other than I
pub record HasCopy (k : Shape) (s : State) (c block way : ℕ) : Type 0 where
  pub cache : c < k.caches
  pub at : way < k.ways
  pub valid : holds (line_for k s c block way) (tag_of k block) ≡ true

-- and it may write it there: the state is E or M
pub record MayWrite (k : Shape) (s : State) (c block way : ℕ) : Type 0 where
  pub copy : HasCopy k s c block way
  pub writable : is_writable (line_for k s c block way).state ≡ true

pub record SingleWriter (k : Shape) (s : State) : Type 0 where
  -- a copy that may be written is the only copy of its block
  pub sole : (block c v o w : ℕ) → MayWrite k s c block v → HasCopy k s o block w → (c ≡ o) × (v ≡ w)
  -- no cache has a block at two ways
  pub once : (block c v w : ℕ) → HasCopy k s c block v → HasCopy k s c block w → v ≡ w

-- LATEST VALUE

-- the value that an operation stores into the word at an address, if it does
abbrev pub stored_at : ℕ → Op → Option ℕ
stored_at a (Store addr value) = if a == addr then Some value else None
stored_at a (UcStore addr value) = if a == addr then Some value else None
stored_at a op = None

-- the value of a word's latest store in a list, the oldest entry first: that of the later entries, where they have one
abbrev pub latest_store : List Done → ℕ → Option ℕ
latest_store [] a = None
latest_store (done ∷ later) a = or_else (latest_store later a) (stored_at a done.op)

-- what an operation should answer after a history: a load the latest value of its word, 0 where there is none, and any other 0
abbrev pub right_answer : List Done → Op → ℕ
right_answer before (Load addr) = unwrap_or (latest_store before addr) 0
right_answer before (UcLoad addr) = unwrap_or (latest_store before addr) 0
right_answer before op = 0

-- each operation of the history has answered what it should after those before it
abbrev pub AnswersLatest : State → Type 0
AnswersLatest s = (before : List Done) (done : Done) (later : List Done) → s.history ≡ before ++ done ∷ later
    → done.answer ≡ right_answer before done.op

-- PENDING GROUPS

-- how many entries of a list are of a way group
abbrev pub count_in : List Origin → ℕ → ℕ
count_in groups set = count_by (λ g. g.group == set) groups

-- a way group's pending bit is set while one request of it that was taken isn't settled, and else all are settled
abbrev pub PendingAgrees : Shape → State → Type 0
PendingAgrees k s = (set : ℕ) → set < k.sets
    → count_in s.taken set ≡ (if s.engine.directory.pending set then count_in s.settled set + 1 else count_in s.settled set)

-- THE THREE CLAIMS

pub record Coherent (k : Shape) (s : State) : Type 0 where
  pub single_writer : SingleWriter k s
  pub latest_value : AnswersLatest s
  pub pending : PendingAgrees k s

-- they hold at the opening and after each event of a list
abbrev pub StaysCoherent : Shape → List Form → List Event → Type 0
StaysCoherent k program events = (before after : List Event) → events ≡ before ++ after → Coherent k (run k program before)
