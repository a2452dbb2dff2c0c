-- What is counted of a state of a run: the heads and the messages that its operations may still have.
use Rattle.std.specs.Prelude.{ℕ, ◌+◌, Option, Some, None}
use Rattle.bk_base.specs.Places.{Shape}
use Rattle.bk_system.specs.State.{State}
use Rattle.bk_exact.specs.Told.{Told}
use Rattle.bk_exact.specs.Exact.{exact}
use Rattle.bk_exact.specs.Ties.{told_world}
use Rattle.bk_bound.proofs.Due.{heads_due, messages_due}
use Rattle.bk_bound.proofs.WorldCounts.{heads_of, messages_of}

abbrev pub number_in : {X : Type 0} → Option X → ℕ
number_in None = 0
number_in (Some x) = 1

-- the heads of all operations that have a request in a channel or aren't settled, by the machine's state and by the exact mask
abbrev pub heads_counted : Shape → State → Told → ℕ
heads_counted k s told = heads_of k (told_world k s told) + heads_due (exact k s.engine told)

-- Those of them that were had already: the one that the engine looks at, and that of the request that was deferred. They aren't taken
-- off, since numbers here have no difference: they stand on the other side wherever two states are compared.
abbrev pub heads_had : State → Told → ℕ
heads_had s told = number_in s.engine.core.head + number_in told.deferred

-- the messages that are under way, and those that may still be sent
abbrev pub messages_counted : Shape → State → Told → ℕ
messages_counted k s told = messages_of k (told_world k s told) + messages_due (exact k s.engine told)
