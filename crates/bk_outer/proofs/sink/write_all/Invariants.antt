use Rattle.std.proofs.Common.{length, ◌-◌, ◌≡◌, ◌≤◌, ◌^◌, ◌++◌, take}
use Rattle.bk_outer.proofs.sink.write_all.Given as goal

-- the sink has taken the first `written` bytes
abbrev pub invariant-loop-written : goal.invariant-loop-written
invariant-loop-written g l =
    let taken = g.K.Sink.taken in
    let faults = g.K.Sink.faults in
    record {
      bound : l.written ≤ length l.text;
      taken : taken l.sink ≡ taken l.initial.sink ++ take l.written l.text;
      kept : faults l.initial.sink ≤ faults l.sink;
      last : faults l.initial.sink ≡ 2 ^ 64 - 1 → faults l.sink ≡ 2 ^ 64 - 1;
      first : l.written ≡ 0 → l.sink ≡ l.initial.sink;
    }

abbrev pub decreases-loop-written : goal.decreases-loop-written
decreases-loop-written g l = length l.text - l.written
