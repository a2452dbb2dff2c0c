-- What the directory says for the held request, and what an engine keeps of that once it has summed it up.
use Rattle.std.specs.Prelude.{Option, Some, None, ◌≡◌, IfSome}
use Rattle.std.proofs.Props.{props}
use Rattle.bk_base.specs.Places.{Shape, group_of, tag_at}
use Rattle.bk_dir.specs.declared.entry.Query.{Query}
use Rattle.bk_dir.specs.declared.entry.Summary.{Summary}
use Rattle.bk_dir.specs.Contents.{Contents}
use Rattle.bk_dir.specs.Summaries.{summary}
use Rattle.bk_engine.specs.declared.parts.Held.{Held}
use Rattle.bk_engine.specs.Heads.{is_placed}

abbrev pub query_of : Shape → Held → Query
query_of k held = record {
  cache = held.source;
  set = group_of k held.addr;
  tag = tag_at k held.addr;
  way = held.way;
  placed = is_placed held.kind;
}

-- the directory as it is at the moment
abbrev pub summary_for : Shape → Contents → Held → Summary
summary_for k d held = summary k d (query_of k held)

-- WHAT IS KEPT: renewed or dropped where an entry is written, and dropped where the request ends

-- where it is there, it is what the directory says for this request
abbrev pub Tells : Shape → Contents → Held → Option Summary → Type 0
Tells k d held summed = IfSome summed (λ kept. kept ≡ summary_for k d held)

-- it is there for a held request alone, and is what the directory says for it
pub record IsSummed (k : Shape) (d : Contents) (request : Option Held) (summed : Option Summary) : Type 0 where
  pub none : request ≡ None → summed ≡ None
  pub tells : (held : Held) → request ≡ Some held → Tells k d held summed

-- that it is so is a fact with one proof, as a ghost field wants it
pub IsSummed-prop : {k : Shape} {d : Contents} {request : Option Held} {summed : Option Summary} → IsProp (IsSummed k d request summed)
IsSummed-prop = hlevel props
