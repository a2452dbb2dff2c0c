use Rattle.std.proofs.Common.{◌≡◌, ℕ, [], vec_len}
use Rattle.bk_system.specs.Queues.{queues_of}
use Rattle.bk_system.proofs.channels.Channels.make.Given as goal

abbrev pub invariant-loop : goal.invariant-loop
invariant-loop l = record {
  count : vec_len l.queues ≡ l.counter;
  empty : (number : ℕ) → queues_of l.queues.items number ≡ [];
}
