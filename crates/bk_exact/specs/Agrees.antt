-- That the engine's fields agree with the transaction that is told, and that the request that was deferred still stands.
use Rattle.std.specs.Prelude.{◌≡◌, ℕ, true, List, ◌∷◌, length, Option, Some, None}
use Rattle.bk_base.specs.Places.{Shape, group_of, tag_at}
use Rattle.bk_engine.specs.declared.parts.TheConstants.{NOT_READ, SUMMED_UP}
use Rattle.bk_engine.specs.declared.parts.Core.{Core}
use Rattle.bk_engine.specs.declared.parts.Held.{Held}
use Rattle.bk_engine.specs.declared.parts.DirtyBlock.{DirtyBlock}
use Rattle.bk_machine.specs.Messages.{Request}
use Rattle.bk_machine.specs.Products.{words_of}
use Rattle.bk_machine.specs.Transactions.{WriteBack, Idle, FlushAsked, FlushKept, Reading, NotRead, ReadAsked, Got, Transaction}
use Rattle.bk_machine.specs.World.{World}
use Rattle.bk_bridge.specs.Acting.{Serves}
use Rattle.bk_exact.specs.Told.{Told, Deferred}

-- a block is kept where the transaction keeps one: of its group, with its tag and words
abbrev pub KeptAlike : Shape → ℕ → Option DirtyBlock → WriteBack → Type 0
KeptAlike k g None Idle = Unit {0}
KeptAlike k g None FlushAsked = Unit {0}
KeptAlike k g None (FlushKept b) = ⊥
KeptAlike k g (Some d) Idle = ⊥
KeptAlike k g (Some d) FlushAsked = ⊥
KeptAlike k g (Some d) (FlushKept b) = (group_of k d.addr ≡ g) × (b ≡ record { tag = tag_at k d.addr; words = words_of d.words })

-- words have come from memory where the transaction has got them
abbrev pub GotAlike : Option (List ℕ) → Reading → Type 0
GotAlike None NotRead = Unit {0}
GotAlike None ReadAsked = Unit {0}
GotAlike None (Got words) = ⊥
GotAlike (Some ws) NotRead = ⊥
GotAlike (Some ws) ReadAsked = ⊥
GotAlike (Some ws) (Got words) = words ≡ words_of ws

-- once the grant is sent, the directory was read and no message is looked at
pub record IsClosed (core : Core) : Type 0 where
  pub summed : core.summ ≡ SUMMED_UP
  pub no_head : core.head ≡ None

-- the engine holds the request h, and serves the transaction x of group g
pub record ServesHeld (k : Shape) (core : Core) (h : Held) (g : ℕ) (x : Transaction) : Type 0 where
  pub group : g ≡ group_of k h.addr
  pub serves : Serves k h x
  pub acks : core.acks ≡ length x.waiting
  pub kept : KeptAlike k g core.dirty x.write_back
  pub got : GotAlike core.got x.reading
  -- a word was written for a request that reads nothing
  pub written : x.written ≡ true → x.reading ≡ NotRead
  pub closed : x.granted ≡ true → IsClosed core

-- the engine holds no request
pub record ServesNone (core : Core) : Type 0 where
  pub unread : core.summ ≡ NOT_READ
  pub acks : core.acks ≡ 0
  pub kept : core.dirty ≡ None
  pub got : core.got ≡ None

-- a request is held exactly where there is a transaction, and it is the transaction's
abbrev pub ServesTold : Shape → Core → Option Held → Option (ℕ × Transaction) → Type 0
ServesTold k core None None = ServesNone core
ServesTold k core None (Some x) = ⊥
ServesTold k core (Some h) None = ⊥
ServesTold k core (Some h) (Some x) = ServesHeld k core h x.0 x.1

-- the engine's held request with the transaction that is told
abbrev pub AgreesWith : Shape → Core → Told → Type 0
AgreesWith k core told = ServesTold k core core.held told.transaction

-- The request that was deferred is still the first of its channel, its group is pending, and no request is served.
pub record IsLeft (world : World) (d : Deferred) : Type 0 where
  pub none : world.transaction ≡ None
  pub request : Request
  pub rest : List (ℕ × Request)
  pub first : world.request d.cache ≡ (d.group, request) ∷ rest
  pub pending : world.pending d.group ≡ true

-- the same of the request that was deferred, if there is one
abbrev pub LeavesDeferred : World → Option Deferred → Type 0
LeavesDeferred world None = Unit {0}
LeavesDeferred world (Some d) = IsLeft world d
