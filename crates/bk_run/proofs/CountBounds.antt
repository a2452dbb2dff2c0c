-- The counts of a report grow by at most one with each event and with each message.
use Rattle.std.proofs.Common.{◌≡◌, ℕ, ◌+◌, ◌<◌, ◌≤◌, List, length, get_or, drop, ap, sym, ◌∙◌, arith}
use Rattle.bk_msg.specs.declared.row.Row.{Row}
use Rattle.bk_msg.specs.declared.row.Network.{Network}
use Rattle.bk_msg.specs.declared.row.Network.TheVariants as networks
use Rattle.bk_msg.specs.Networks.{network_of}
use Rattle.bk_system.specs.declared.event.Event.{Event}
use Rattle.bk_system.specs.declared.event.Event.TheVariants as kinds
use Rattle.bk_run.specs.declared.counts.Counts.{Counts}
use Rattle.bk_run.specs.Report.{no_counts, count_event, count_network, count_sent}
use Rattle.bk_run.specs.CountBounds.{IsAtMost}
use Rattle.bk_run.proofs.Scheduling.{drop-here}

pub at_most_none : (e n : ℕ) → IsAtMost e n no_counts
at_most_none e n = grind arith

-- higher bounds
pub at_most_higher : (e e2 n m2 : ℕ) (counts : Counts) → e ≤ e2 → n ≤ m2 → IsAtMost e n counts → IsAtMost e2 m2 counts
at_most_higher e e2 n m2 counts le le2 most = grind arith

-- one more event
pub at_most_event : (e n : ℕ) (counts : Counts) (event : Event) → IsAtMost e n counts → IsAtMost (e + 1) n (count_event counts event)
at_most_event e n counts (kinds.Issue c w op) most = grind arith
at_most_event e n counts (kinds.Command c) most = grind arith
at_most_event e n counts (kinds.Fill to from) most = grind arith
at_most_event e n counts kinds.Memory most = grind arith
at_most_event e n counts (kinds.Engine choice) most = grind arith

-- one more message
pub at_most_message : (e n : ℕ) (counts : Counts) (network : Network) → IsAtMost e n counts
    → IsAtMost e (n + 1) (count_network counts network)
at_most_message e n counts networks.Request most = grind arith
at_most_message e n counts networks.Command most = grind arith
at_most_message e n counts networks.Fill most = grind arith
at_most_message e n counts networks.Response most = grind arith
at_most_message e n counts networks.Memout most = grind arith
at_most_message e n counts networks.Memin most = grind arith

-- one message of a list is counted, and then those after it
pub count_sent-next : (messages : List Row) (i : ℕ) (m : Row) (counts total : Counts) → i < length messages
    → m ≡ get_or messages i m
    → count_sent counts (drop i messages) ≡ total → count_sent (count_network counts (network_of m)) (drop (i + 1) messages) ≡ total
count_sent-next messages i m counts total l e so_far =
    ap (count_sent counts) (sym (drop-here messages i m l e)) ∙ so_far
