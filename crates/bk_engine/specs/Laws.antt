-- What the instructions mean for the directory and the caches.
use Rattle.std.specs.Prelude.{◌≡◌, ◌≢◌, ℕ, ◌<◌, Bool, true, false, ◌==◌, ◌&&◌, List, Option, Some, All, count_by}
use Rattle.bk_base.specs.Places.{Shape, block_start, group_of, tag_at}
use Rattle.bk_isa.specs.declared.form.Form.{Form}
use Rattle.bk_isa.specs.declared.form.Form.TheVariants.{Popq, Wde, Wds, Inv, Stwb}
use Rattle.bk_isa.specs.declared.operand.TheConstants.{WITH_MARK, WITH_OWNER}
use Rattle.bk_msg.specs.declared.row.Row.{Row}
use Rattle.bk_msg.specs.declared.row.Row.TheVariants as rows
use Rattle.bk_msg.specs.declared.row.TheConstants.{ENGINE}
use Rattle.bk_msg.specs.declared.row.Network.TheVariants as networks
use Rattle.bk_msg.specs.Networks.{network_of, address_of, receiver_of}
use Rattle.bk_dir.specs.Laws.{Holds}
use Rattle.bk_dir.specs.Summaries.{is_other}
use Rattle.bk_engine.specs.declared.parts.Choice.{Choice}
use Rattle.bk_engine.specs.declared.parts.Head.{Head}
use Rattle.bk_engine.specs.declared.parts.Held.{Held}
use Rattle.bk_engine.specs.declared.stop.Halt.{Halt}
use Rattle.bk_engine.specs.declared.stop.Stop.TheVariants.{Halts}
use Rattle.bk_engine.specs.Engine.{EngineState}
use Rattle.bk_engine.specs.Reads.{query_of, summary_for}
use Rattle.bk_engine.specs.Changes.{directory_after}
use Rattle.bk_engine.specs.Sends.{is_owner, sends}
use Rattle.bk_engine.specs.Stops.{stop_of}

-- PENDING BITS

-- `popq wp`
abbrev pub is_marking : Form → Bool
is_marking (Popq wp) = wp == WITH_MARK
is_marking f = false

-- only `popq wp` changes pending bits
abbrev pub OnlyPopMarks : Type 0
OnlyPopMarks = (k : Shape) (engine : EngineState) (f : Form) → is_marking f ≡ false
    → (directory_after k engine f).pending ≡ engine.directory.pending

-- after `popq wp` the group of the head that was popped has this bit, and each other group has the one that it had
pub record IsMarked (k : Shape) (engine : EngineState) (head : Head) (bit : Bool) : Type 0 where
  pub own : (directory_after k engine (Popq WITH_MARK)).pending (group_of k (address_of head.message)) ≡ bit
  pub others : (g : ℕ) → g ≢ group_of k (address_of head.message)
      → (directory_after k engine (Popq WITH_MARK)).pending g ≡ engine.directory.pending g

-- a request that is popped makes its group pending
abbrev pub RequestMarks : Type 0
RequestMarks = (k : Shape) (engine : EngineState) (head : Head) → engine.core.head ≡ Some head
    → network_of head.message ≡ networks.Request
    → IsMarked k engine head true

-- a response that is popped, InvAck, CohAck, Wb or NullWb, ends that
abbrev pub ResponseMarks : Type 0
ResponseMarks = (k : Shape) (engine : EngineState) (head : Head) → engine.core.head ≡ Some head
    → network_of head.message ≡ networks.Response → IsMarked k engine head false

-- a Block that is popped changes no pending bit
abbrev pub BlockMarksNone : Type 0
BlockMarksNone = (k : Shape) (engine : EngineState) (head : Head) → engine.core.head ≡ Some head
    → network_of head.message ≡ networks.Memin
    → (directory_after k engine (Popq WITH_MARK)).pending ≡ engine.directory.pending

-- ENTRIES

abbrev pub writes_entries : Form → Bool
writes_entries (Wde _) = true
writes_entries (Wds _ _) = true
writes_entries (Inv _) = true
writes_entries (Stwb _ _) = true
writes_entries f = false

-- only `wde`, `wds`, `inv` and `stwb` change entries
abbrev pub OnlyFourWrite : Type 0
OnlyFourWrite = (k : Shape) (engine : EngineState) (f : Form) → writes_entries f ≡ false
    → (directory_after k engine f).entries ≡ engine.directory.entries

-- INVALIDATIONS

-- how many messages of an instruction go to a cache
abbrev pub count_to : ℕ → List Row → ℕ
count_to c messages = count_by (λ m. receiver_of m == c) messages

-- `inv` sends invalidations of the request's block alone, and none to the cache that asks, nor to any that has no entry S of the block
-- and, with `o`, isn't the owner
pub record IsInvalidation (k : Shape) (engine : EngineState) (held : Held) (a : ℕ) : Type 0 where
  pub each : All (λ m. m ≡ rows.Inv ENGINE (receiver_of m) (block_start held.addr)) (sends k engine (Inv a))
  pub asker : count_to held.source (sends k engine (Inv a)) ≡ 0
  pub nobody_else : (c : ℕ) → is_other k engine.directory (query_of k held) c ≡ false
      → (a == WITH_OWNER && is_owner (summary_for k engine.directory held).owner c) ≡ false
      → count_to c (sends k engine (Inv a)) ≡ 0

abbrev pub InvSends : Type 0
InvSends = (k : Shape) (engine : EngineState) (held : Held) (a : ℕ) → engine.core.held ≡ Some held → IsInvalidation k engine held a

-- a cache is sent one, and no way of it holds the block in the directory then
pub record IsInvalidated (k : Shape) (engine : EngineState) (held : Held) (a c : ℕ) : Type 0 where
  pub once : count_to c (sends k engine (Inv a)) ≡ 1
  pub gone : (w : ℕ) → w < k.ways
      → Holds ((directory_after k engine (Inv a)).entries c (group_of k held.addr) w) (tag_at k held.addr) → ⊥

-- so is each other cache with an entry S of the block
abbrev pub InvReaches : Type 0
InvReaches = (k : Shape) (engine : EngineState) (held : Held) (a c : ℕ) → engine.core.held ≡ Some held → c < k.caches
    → is_other k engine.directory (query_of k held) c ≡ true → IsInvalidated k engine held a c

-- `inv o` reaches the owner too
abbrev pub InvReachesOwner : Type 0
InvReachesOwner = (k : Shape) (engine : EngineState) (held : Held) (at : ℕ × ℕ) → engine.core.held ≡ Some held
    → (summary_for k engine.directory held).owner ≡ Some at → IsInvalidated k engine held WITH_OWNER at.0

-- HALTS

-- an engine that halts halts again for the same reason, whatever it is offered
abbrev pub HaltsForGood : Type 0
HaltsForGood = (k : Shape) (engine : EngineState) (program : List Form) (reason : Halt) (first next : Choice) (offered later : Option Row)
    → stop_of k engine program first offered ≡ Some (Halts reason) → stop_of k engine program next later ≡ Some (Halts reason)
