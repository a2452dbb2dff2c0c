-- What each state has that a run comes to, as far as the machine's view rests on it: messages stand in the channels of their own
-- networks, blocks have eight words, addresses are those of words, and the engine has four flags.
use Rattle.std.specs.Prelude.{◌≡◌, ◌<◌, ℕ, List, [], ◌∷◌, length, IfSome}
use Rattle.bk_base.specs.Places.{Shape, InProfile, IsAddr, tag_limit}
use Rattle.bk_base.specs.declared.op.Done.{Done}
use Rattle.bk_isa.specs.declared.form.Form.{Form}
use Rattle.bk_msg.specs.declared.row.Row.{Row}
use Rattle.bk_msg.specs.declared.row.Row.TheVariants as rows
use Rattle.bk_msg.specs.declared.row.Network.{Network}
use Rattle.bk_msg.specs.declared.row.Network.TheVariants as networks
use Rattle.bk_msg.specs.Networks.{network_of, address_of}
use Rattle.bk_lce.specs.CacheTable as table
use Rattle.bk_engine.specs.Engine.{EngineState}
use Rattle.bk_system.specs.declared.event.Event.{Event}
use Rattle.bk_system.specs.State.{State, opening}
use Rattle.bk_system.specs.Runs.{after, run_from}
use Rattle.bk_system.specs.Lawful.{IsLawful, AreLawful}

-- MESSAGES

-- the block of a message that carries one has eight words
abbrev pub HasEight : Row → Type 0
HasEight (rows.Blk _ _ _ _ _ words) = length words ≡ 8
HasEight (rows.Fill _ _ _ _ _ words) = length words ≡ 8
HasEight (rows.Wb _ _ _ words) = length words ≡ 8
HasEight (rows.Write _ _ _ words) = length words ≡ 8
HasEight (rows.Block _ _ _ words) = length words ≡ 8
HasEight _ = Unit {0}

pub record IsWhole (m : Row) : Type 0 where
  pub address : IsAddr (address_of m)
  pub block : HasEight m

-- a message of a network
pub record IsOf (network : Network) (m : Row) : Type 0 where
  pub is : network_of m ≡ network
  pub whole : IsWhole m

-- the messages of a channel
abbrev pub AreOf : Network → List Row → Type 0
AreOf network [] = Unit {0}
AreOf network (m ∷ ms) = IsOf network m × AreOf network ms

-- OPERATIONS

-- each operation of a history is at a word's address
abbrev pub AreAddressed : List Done → Type 0
AreAddressed [] = Unit {0}
AreAddressed (done ∷ later) = IsAddr (table.address_of done.op) × AreAddressed later

-- STATES

-- The engine's own copies: the head that it looks at, the request that it holds, the block that it keeps for memory, the words that
-- memory has answered, its flags, and the tags of its directory.
pub record WellFormedEngine (k : Shape) (engine : EngineState) : Type 0 where
  pub head : IfSome engine.core.head (λ h. IsWhole h.message)
  pub held : IfSome engine.core.held (λ h. IsAddr h.addr)
  pub dirty : IfSome engine.core.dirty (λ d. IsAddr d.addr × (length d.words ≡ 8))
  pub got : IfSome engine.core.got (λ words. length words ≡ 8)
  pub flags : length engine.core.flags ≡ 4
  pub entries : (c g w : ℕ) → (engine.directory.entries c g w).tag < tag_limit k

pub record WellFormed (k : Shape) (s : State) : Type 0 where
  pub profile : InProfile k
  pub lines : (c g w : ℕ) → length ((s.caches c).lines g w).words ≡ 8
  pub busy : (c : ℕ) → IfSome (s.caches c).busy (λ b. IsAddr (table.address_of b.op))
  pub request : (c : ℕ) → AreOf networks.Request (s.request c)
  pub command : (c : ℕ) → AreOf networks.Command (s.command c)
  pub fill : (to from : ℕ) → AreOf networks.Fill (s.fill to from)
  pub response : (c : ℕ) → AreOf networks.Response (s.response c)
  pub memout : AreOf networks.Memout s.memout
  pub memin : AreOf networks.Memin s.memin
  pub history : AreAddressed s.history
  pub engine : WellFormedEngine k s.engine

-- THE STATEMENTS

abbrev pub OpensFormed : Type 0
OpensFormed = (k : Shape) → InProfile k → WellFormed k (opening k)

-- each event leaves a well formed state, the engine's too, and so does each list of them
abbrev pub EventsKeepForm : Type 0
EventsKeepForm = (k : Shape) (program : List Form) (s : State) (event : Event) → WellFormed k s → IsLawful event
    → WellFormed k (after k program s event)

abbrev pub RunsKeepForm : Type 0
RunsKeepForm =
    (k : Shape) (program : List Form) (s : State) (es : List Event) → WellFormed k s → AreLawful es
    → WellFormed k (run_from k program s es)
