-- What a call writes spells the trace.
use Rattle.std.proofs.Common.{◌≡◌, ℕ, List, ap, ◌∙◌}
use Rattle.std.specs.Prelude.{Some, Result, Ok, Err, IfOk, OnOk}
use Rattle.bk_trace.specs.Traces.{Parts, IsTrace}
use Rattle.bk_trace.specs.Grammar.{trace_of}
use Rattle.bk_trace.specs.Reading.{trace_at}
use Rattle.bk_trace.specs.Spelling.{spelling}
use Rattle.bk_trace.proofs.Round.{trace_again}
use Rattle.bk_trace.proofs.Whole.{agrees, read_some}

pub is_spelled : {X E : Type 0} (bytes : X → List ℕ) (r : Result X E) (t : Parts) → OnOk r (IsTrace t)
    → IfOk r (λ v. bytes v ≡ spelling t)
    → IfOk r (λ v. trace_of (bytes v) ≡ Some t)
is_spelled bytes (Ok v) t h is = ap trace_of is ∙ trace_again t h
is_spelled bytes (Err e) t h is = tt

pub is_read : {X E : Type 0} (bytes : X → List ℕ) (r : Result X E) (t : Parts) → OnOk r (IsTrace t)
    → IfOk r (λ v. bytes v ≡ spelling t)
    → IfOk r (λ v. trace_at (bytes v) ≡ Ok t)
is_read bytes (Ok v) t h is = read_some (trace_at (bytes v)) t (agrees (bytes v) ∙ ap trace_of is ∙ trace_again t h)
is_read bytes (Err e) t h is = tt
