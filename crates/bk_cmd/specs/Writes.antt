-- What the sink took of a text that is due.
use Rattle.std.specs.Prelude.{◌≡◌, ℕ, ◌<◌, List, ◌++◌, length, take}
use Rattle.bk_cmd.specs.declared.outcome.Outcome.{Outcome}

-- all of it
pub record Wrote (text : List ℕ) (o : Outcome) (before after : List ℕ) : Type 0 where
  pub whole : o.written ≡ length text
  pub taken : after ≡ before ++ text

-- its first bytes, as many as are told, and not all
pub record WrotePart (text : List ℕ) (o : Outcome) (before after : List ℕ) : Type 0 where
  pub part : o.written < length text
  pub taken : after ≡ before ++ take o.written text
