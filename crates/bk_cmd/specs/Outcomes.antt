-- What an outcome says.
use Rattle.std.specs.Prelude.{◌≡◌, ℕ, [], Bool, false, ◌==◌, ◌||◌, nat_lt, Option, Some, None, if◌then◌else◌}
use Rattle.bk_check.specs.declared.pass.Refusal.{Refusal}
use Rattle.bk_image.specs.Faults as images
use Rattle.bk_image.specs.declared.fault.Kind.TheVariants as image_kinds
use Rattle.bk_asm.specs.Faults as texts
use Rattle.bk_asm.specs.declared.fault.Kind.TheVariants as text_kinds
use Rattle.bk_trace.specs.Faults as traces
use Rattle.bk_trace.specs.declared.fault.Kind.TheVariants as trace_kinds
use Rattle.bk_cmd.specs.declared.outcome.Outcome.{Outcome}
use Rattle.bk_cmd.specs.declared.outcome.Stop.{Stop}
use Rattle.bk_cmd.specs.declared.outcome.Stop.TheVariants.{Memory, Usage, Unread, Bad, Refused, Limit}
use Rattle.bk_cmd.specs.declared.outcome.Unread as unread
use Rattle.bk_cmd.specs.declared.outcome.Unread.TheVariants.{Absent, Failed, TooLong}
use Rattle.bk_cmd.specs.declared.outcome.TheConstants.{OK, MEMORY, USAGE, REFUSED, MALFORMED, ABSENT, READ_FAULT, WRITE_FAULT, TOO_LONG, LIMIT}

-- all of an outcome but its events
pub record Facts : Type 0 where
  pub status : ℕ
  pub file : ℕ
  pub at : ℕ
  pub column : ℕ
  pub kind : ℕ
  pub refusal : Option Refusal
  pub written : ℕ

abbrev pub facts_of : Outcome → Facts
facts_of o = record {
  status = o.status;
  file = o.file;
  at = o.at;
  column = o.column;
  kind = o.kind;
  refusal = o.refusal;
  written = o.written;
}

-- a fault of this kind is that a list is over its limit: an image or a text of microcode has too many instructions, or a trace too
-- many operations
abbrev pub is_limit : ℕ → Bool
is_limit kind = kind == images.kind_code image_kinds.TooMany || kind == texts.kind_code text_kinds.TooMany
    || kind == traces.kind_code trace_kinds.TooMany

abbrev pub no_run : ℕ → ℕ → Option Refusal → Facts
no_run status file refusal = record { status = status; file = file; at = 0; column = 0; kind = 0; refusal = refusal; written = 0 }

abbrev pub status_of_unread : unread.Unread → ℕ
status_of_unread Absent = ABSENT
status_of_unread Failed = READ_FAULT
status_of_unread TooLong = TOO_LONG

-- the outcome where nothing was due
abbrev pub facts_of_stop : Stop → Facts
facts_of_stop Memory = no_run MEMORY 0 None
facts_of_stop Usage = no_run USAGE 0 None
facts_of_stop (Unread file cause) = no_run (status_of_unread cause) file None
facts_of_stop (Bad file at column kind) =
    record {
      status = if is_limit kind then TOO_LONG else MALFORMED;
      file = file;
      at = at;
      column = column;
      kind = kind;
      refusal = None;
      written = 0;
    }
facts_of_stop (Refused refusal) = no_run REFUSED 0 (Some refusal)
facts_of_stop Limit = no_run LIMIT 0 None

-- the statuses are 0 to 8, and 10
abbrev pub is_status : ℕ → Bool
is_status n = nat_lt n 9 || n == LIMIT

-- those where the sink may have taken something, and of a replay a run may have ended
abbrev pub is_after_write : ℕ → Bool
is_after_write n = n == OK || n == MEMORY || n == WRITE_FAULT

-- those of a file
abbrev pub is_of_file : ℕ → Bool
is_of_file n = n == MALFORMED || n == ABSENT || n == READ_FAULT || n == TOO_LONG

-- those of a file's grammar
abbrev pub is_of_grammar : ℕ → Bool
is_of_grammar n = n == MALFORMED || n == TOO_LONG

-- What a status doesn't use is 0, none or empty.
pub record LeavesRest (o : Outcome) : Type 0 where
  pub file : is_of_file o.status ≡ false → o.file ≡ 0
  pub place : is_of_grammar o.status ≡ false → (o.at ≡ 0) × (o.column ≡ 0) × (o.kind ≡ 0)
  -- a file that is too long as a whole has no place
  pub whole_file : o.status ≡ TOO_LONG → is_limit o.kind ≡ false → (o.at ≡ 0) × (o.column ≡ 0) × (o.kind ≡ 0)
  pub refusal : (o.status == REFUSED) ≡ false → o.refusal ≡ None
  pub events : is_after_write o.status ≡ false → o.events.items ≡ []
  pub written : is_after_write o.status ≡ false → o.written ≡ 0

abbrev pub after_run : ℕ → ℕ → Facts
after_run status written = record { status = status; file = 0; at = 0; column = 0; kind = 0; refusal = None; written = written }
