-- The rule of a channel's queue: first in, first out, with one pass at most that may send and one at most that may take.
use Rattle.std.specs.Prelude.{◌≡◌, ℕ, Bool, true, List, [], ◌∷◌, ◌++◌, length, drop}
use mathlib.Core.Option.{some}
use lib.ListN.{get_elem?}
use Rattle.bk_msg.specs.declared.codec.Packet.{Packet}
use Rattle.crossbeam_queue.specs.Passes.{Pass, view}
use Rattle.bk_net.specs.declared.rule.Account.{Account}

abbrev pub account : Bool → Bool → List Packet → List Packet → Account
account may_send may_take sent taken = record { may_send = may_send; may_take = may_take; sent = sent; taken = taken }

-- what a pass knows
abbrev pub account_of : Pass Packet Account → Account
account_of pass = view pass

-- the account with one packet more that was sent
abbrev pub having_sent : Account → Packet → Account
having_sent v packet = account v.may_send v.may_take (v.sent ++ packet ∷ []) v.taken

-- the account with one packet more that was taken
abbrev pub having_taken : Account → Packet → Account
having_taken v packet = account v.may_send v.may_take v.sent (v.taken ++ packet ∷ [])

-- a pass that may send is the sender, and has the list of what was sent
abbrev pub KnowsSent : ℕ → List Packet → ℕ → Account → Type 0
KnowsSent sender sent pass v = v.may_send ≡ true → (pass ≡ sender) × (v.sent ≡ sent)

-- a pass that may take is the receiver, and has the list of what was taken
abbrev pub KnowsTaken : ℕ → List Packet → ℕ → Account → Type 0
KnowsTaken receiver taken pass v = v.may_take ≡ true → (pass ≡ receiver) × (v.taken ≡ taken)

-- What was sent is what was taken and then what the queue holds, and the two ends know it. Passes are named by number.
pub record IsFifo (held : List Packet) (accounts : List Account) : Type 0 where
  pub sender : ℕ
  pub receiver : ℕ
  pub sent : List Packet
  pub taken : List Packet
  pub order : sent ≡ taken ++ held
  pub sends : (pass : ℕ) (v : Account) → get_elem? accounts pass ≡ some v → KnowsSent sender sent pass v
  pub takes : (pass : ℕ) (v : Account) → get_elem? accounts pass ≡ some v → KnowsTaken receiver taken pass v

-- the packet is the next to be taken of those that were sent
abbrev pub IsNext : Account → Packet → Type 0
IsNext v packet = (rest : List Packet) × (v.sent ≡ v.taken ++ packet ∷ rest)

-- what was sent and not taken
abbrev pub left_of : Account → List Packet
left_of v = drop (length v.taken) v.sent

-- the account of both ends together: what was sent is what was taken and what is left
abbrev pub IsBothEnds : Account → Type 0
IsBothEnds v = (v.may_send ≡ true) × (v.may_take ≡ true) × (v.sent ≡ v.taken ++ left_of v)
