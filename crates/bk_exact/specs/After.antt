-- The machine's action of an instruction that runs, and what is told after it.
use Rattle.std.specs.Prelude.{ℕ, Option, Some, None, drop, option_map}
use Rattle.bk_base.specs.Places.{Shape, group_of, tag_at}
use Rattle.bk_isa.specs.declared.form.Form.{Form}
use Rattle.bk_isa.specs.declared.form.Form.TheVariants as forms
use Rattle.bk_msg.specs.declared.row.Row.{Row}
use Rattle.bk_msg.specs.declared.row.Row.TheVariants as rows
use Rattle.bk_msg.specs.Networks.{address_of}
use Rattle.bk_engine.specs.declared.parts.Core.{Core}
use Rattle.bk_engine.specs.declared.parts.Head.{Head}
use Rattle.bk_engine.specs.declared.parts.Held.{Held}
use Rattle.bk_machine.specs.Actions.{Action, Takes, Settles, CollectsAck, CollectsAnswer, CollectsBlock, Idles, action_after}
use Rattle.bk_machine.specs.Messages.{Request}
use Rattle.bk_machine.specs.Products.{words_of, as_request}
use Rattle.bk_machine.specs.Transactions.{Transaction}
use Rattle.bk_machine.specs.World.{World}
use Rattle.bk_bridge.specs.Acting.{action_of}
use Rattle.bk_exact.specs.Told.{Told, Deferred}

-- an action with its way group
abbrev pub GroupAction : Type 0
GroupAction = ℕ × Action

-- ACTIONS

-- a request is taken off the channel of its cache
abbrev pub take_action : ℕ → World → ℕ × Request → GroupAction
take_action c world q = (q.0, Takes c q.1 (drop 1 (world.request c)))

-- the action of a head that is popped; without a transaction no answer but CohAck is one
abbrev pub pop_action : Shape → Option (ℕ × Transaction) → ℕ → Row → World → Option GroupAction
pop_action k x c (rows.InvAck from to addr) world =
    option_map (λ y. (group_of k addr, CollectsAck c (tag_at k addr) (drop 1 (world.response c)) y.1)) x
pop_action k x c (rows.CohAck from to addr) world = Some (group_of k addr, Settles c (tag_at k addr) (drop 1 (world.response c)))
pop_action k x c (rows.Wb from to addr words) world =
    option_map (λ y. (group_of k addr, CollectsAnswer c (tag_at k addr) (Some (words_of words)) (drop 1 (world.response c)) y.1)) x
pop_action k x c (rows.NullWb from to addr) world =
    option_map (λ y. (group_of k addr, CollectsAnswer c (tag_at k addr) None (drop 1 (world.response c)) y.1)) x
pop_action k x c (rows.Block from to addr words) world =
    option_map (λ y. (group_of k addr, CollectsBlock (tag_at k addr) (words_of words) (drop 1 world.memin) y.1)) x
pop_action k x c m world = option_map (take_action c world) (as_request k m)

-- nothing is popped where there is no head
abbrev pub head_action : Shape → Option (ℕ × Transaction) → Option Head → World → Option GroupAction
head_action k x None world = None
head_action k x (Some head) world = pop_action k x head.choice.source head.message world

-- the action of any other instruction: where no request is served it is none of the table's
abbrev pub served_action : Shape → Core → Option Held → Option (ℕ × Transaction) → World → Form → Option GroupAction
served_action k core (Some h) (Some x) world f = option_map (λ a. (group_of k h.addr, a)) (action_of k core h x.1 world f)
served_action k core (Some h) None world f = Some (0, Idles)
served_action k core None x world f = Some (0, Idles)

-- the action of an instruction at a state of the machine
abbrev pub action_at : Shape → Core → World → Form → Option GroupAction
action_at k core world (forms.Popq wp) = head_action k world.transaction core.head world
action_at k core world f = served_action k core core.held world.transaction world f

-- WHAT IS TOLD AFTER

-- the transaction is what the action leaves of it
abbrev pub transaction_after : World → Option GroupAction → Option (ℕ × Transaction)
transaction_after world None = world.transaction
transaction_after world (Some a) = (action_after a.0 a.1 world).transaction

-- the request that is the head is left in its channel
abbrev pub deferred_head : Shape → Option Head → Option Deferred
deferred_head k None = None
deferred_head k (Some head) = Some (record { cache = head.choice.source; group = group_of k (address_of head.message) })

-- a CohAck wakes the engine
abbrev pub deferred_popped : Row → Option Deferred → Option Deferred
deferred_popped (rows.CohAck from to addr) d = None
deferred_popped m d = d

abbrev pub deferred_by_head : Option Head → Option Deferred → Option Deferred
deferred_by_head None d = d
deferred_by_head (Some head) d = deferred_popped head.message d

-- `defer` leaves the head in its channel
abbrev pub deferred_after : Shape → Core → Form → Option Deferred → Option Deferred
deferred_after k core forms.Defer d = deferred_head k core.head
deferred_after k core (forms.Popq wp) d = deferred_by_head core.head d
deferred_after k core f d = d

-- the transaction and the deferred request after an instruction that runs, in the machine's state world before it
abbrev pub told_after : Shape → Core → World → Form → Told → Told
told_after k core world f told = record {
  transaction = transaction_after world (action_at k core world f);
  deferred = deferred_after k core f told.deferred;
}
