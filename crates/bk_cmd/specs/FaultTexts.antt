-- The line that tells of a fault.
use Rattle.std.specs.Prelude.{ℕ, List, [], ◌++◌, ◌==◌, codes, Option, Some, None, if◌then◌else◌}
use Rattle.std.specs.Fmt.{decimal}
use Rattle.bk_check.specs.declared.pass.Refusal.{Refusal}
use Rattle.bk_cmd.specs.declared.outcome.Outcome.{Outcome}
use Rattle.bk_cmd.specs.declared.outcome.TheConstants.{MEMORY, USAGE, REFUSED, MALFORMED, ABSENT, READ_FAULT, WRITE_FAULT, TOO_LONG, LIMIT}

abbrev pub refused_text : Option Refusal → List ℕ
refused_text None = codes "bedrock: refused"
refused_text (Some refusal) = codes "bedrock: refused" ++ codes " at " ++ decimal refusal.at ++ codes ": O" ++ decimal refusal.obligation

abbrev pub malformed_text : Outcome → List ℕ
malformed_text o = codes "bedrock: malformed file " ++ decimal o.file ++ codes " at " ++ decimal o.at ++ codes ":" ++ decimal o.column
    ++ codes " kind " ++ decimal o.kind

-- what is wrong with a file as a whole
abbrev pub file_text : List ℕ → Outcome → List ℕ
file_text what o = what ++ decimal o.file

-- what is told of an outcome, nothing where all went well or the status is none
abbrev pub fault_text : Outcome → List ℕ
fault_text o =
    if o.status == MEMORY then codes "bedrock: memory"
    else if o.status == USAGE then codes "bedrock: usage"
    else if o.status == REFUSED then refused_text o.refusal
    else if o.status == MALFORMED then malformed_text o
    else if o.status == ABSENT then file_text (codes "bedrock: absent file ") o
    else if o.status == READ_FAULT then file_text (codes "bedrock: read fault file ") o
    else if o.status == WRITE_FAULT then codes "bedrock: write fault"
    else if o.status == TOO_LONG then file_text (codes "bedrock: too long file ") o
    else if o.status == LIMIT then codes "bedrock: limit"
    else []
