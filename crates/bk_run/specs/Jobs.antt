-- The job of a run.
use Rattle.std.specs.Prelude.{ℕ, List}
use Rattle.bk_base.specs.Places.{Shape}
use Rattle.bk_base.specs.declared.op.Op.{Op}
use Rattle.bk_isa.specs.declared.form.Form.{Form}
use Rattle.bk_lce.specs.declared.line.WayView.{WayView}
use Rattle.bk_trace.specs.Traces.{Parts}

-- A program serves the operations of a trace in a configuration, by at most so many events. The policy is a relation between the views
-- of a set and a way that it may answer for the victim.
pub record Job : Type 1 where
  pub policy : List WayView → ℕ → Type 0
  pub config : Shape
  pub program : List Form
  pub operations : List (ℕ × Op)
  pub limit : ℕ

-- the job of a program over a trace
abbrev pub job_of : (List WayView → ℕ → Type 0) → List Form → Parts → ℕ → Job
job_of policy program trace limit = record {
  policy = policy;
  config = trace.config;
  program = program;
  operations = trace.lines;
  limit = limit;
}
