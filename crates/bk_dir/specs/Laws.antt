-- What a summary says of a directory, told entry by entry and without the definitions that compute it. The contracts of
-- `bk_dir::laws` hold the definitions against this.
use Rattle.std.specs.Prelude.{◌≡◌, ◌≢◌, ◌↔◌, ◌⊎◌, ℕ, ◌<◌, ◌^◌, true, Option, MatchOption}
use Rattle.bk_base.specs.Places.{Shape}
use Rattle.bk_base.specs.States.{is_readable, is_owner_like}
use Rattle.bk_base.specs.declared.coh.Coh.TheVariants.{I, S}
use Rattle.bk_dir.specs.declared.entry.Entry.{Entry}
use Rattle.bk_dir.specs.declared.entry.Query.{Query}
use Rattle.bk_dir.specs.declared.entry.Summary.{Summary}
use Rattle.bk_dir.specs.Contents.{Contents}
use Rattle.bk_dir.specs.Summaries.{has_bit}

-- an entry holds the block with a tag: it is valid and has the tag. An entry in I keeps a tag, which says nothing
pub record Holds (entry : Entry) (tag : ℕ) : Type 0 where
  pub is_valid : is_readable entry.state ≡ true
  pub is_tag : entry.tag ≡ tag

-- it also answers for the block
pub record AnswersFor (entry : Entry) (tag : ℕ) : Type 0 where
  pub holds : Holds entry tag
  pub is_owner_like : is_owner_like entry.state ≡ true

-- an entry S of the block
pub record Shares (entry : Entry) (tag : ℕ) : Type 0 where
  pub is_shared : entry.state ≡ S
  pub is_tag : entry.tag ≡ tag

-- FOUND: the least way of cache c that holds the block with a tag

pub record IsLeastHolder (k : Shape) (d : Contents) (c set tag w : ℕ) : Type 0 where
  pub within : w < k.ways
  pub holds : Holds (d.entries c set w) tag
  pub least : (v : ℕ) → v < w → ¬ Holds (d.entries c set v) tag

abbrev pub NoHolder : Shape → Contents → ℕ → ℕ → ℕ → Type 0
NoHolder k d c set tag = (w : ℕ) → w < k.ways → ¬ Holds (d.entries c set w) tag

abbrev pub FoundSays : Shape → Contents → ℕ → ℕ → ℕ → Option ℕ → Type 0
FoundSays k d c set tag answer = MatchOption answer (NoHolder k d c set tag) (λ w. IsLeastHolder k d c set tag w)

-- OWN: the state of the least way of the asker that holds the block, with that way; I and 0 where no way does

pub record OwnIsThere (k : Shape) (d : Contents) (query : Query) (summary : Summary) : Type 0 where
  pub way : IsLeastHolder k d query.cache query.set query.tag summary.own_way
  pub state : summary.own ≡ (d.entries query.cache query.set summary.own_way).state

pub record OwnIsNot (k : Shape) (d : Contents) (query : Query) (summary : Summary) : Type 0 where
  pub none : NoHolder k d query.cache query.set query.tag
  pub way : summary.own_way ≡ 0
  pub state : summary.own ≡ I

abbrev pub OwnSays : Shape → Contents → Query → Summary → Type 0
OwnSays k d query summary = OwnIsThere k d query summary ⊎ OwnIsNot k d query summary

-- OWNER: the least cache other than the asker that answers for the block, with its least such way and the state there

pub record IsOwner (k : Shape) (d : Contents) (query : Query) (c w : ℕ) : Type 0 where
  pub cache_within : c < k.caches
  pub is_other : c ≢ query.cache
  pub way_within : w < k.ways
  pub answers : AnswersFor (d.entries c query.set w) query.tag
  pub least_way : (v : ℕ) → v < w → ¬ AnswersFor (d.entries c query.set v) query.tag
  pub least_cache : (e v : ℕ) → e < c → e ≢ query.cache → v < k.ways → ¬ AnswersFor (d.entries e query.set v) query.tag

abbrev pub NoOwner : Shape → Contents → Query → Type 0
NoOwner k d query = (c w : ℕ) → c < k.caches → c ≢ query.cache → w < k.ways → ¬ AnswersFor (d.entries c query.set w) query.tag

abbrev pub OwnerSays : Shape → Contents → Query → Summary → Type 0
OwnerSays k d query summary =
    MatchOption summary.owner (NoOwner k d query × (summary.owner_state ≡ I))
    (λ at. IsOwner k d query at.0 at.1 × (summary.owner_state ≡ (d.entries at.0 query.set at.1).state))

-- OTHERS: a bit for each cache other than the asker with an entry S of the block, and no bit but these

pub record IsOther (k : Shape) (d : Contents) (query : Query) (c : ℕ) : Type 0 where
  pub is_other : c ≢ query.cache
  pub way : ℕ
  pub within : way < k.ways
  pub shares : Shares (d.entries c query.set way) query.tag

pub record OthersSay (k : Shape) (d : Contents) (query : Query) (summary : Summary) : Type 0 where
  pub bits : (c : ℕ) → c < k.caches → (has_bit summary.others c ≡ true) ↔ IsOther k d query c
  pub no_more : summary.others < 2 ^ k.caches

-- VICTIM: the entry where the block is to be placed has to leave

pub record HasToLeave (d : Contents) (query : Query) : Type 0 where
  pub placed : query.placed ≡ true
  pub is_valid : (d.entries query.cache query.set query.way).state ≢ I
  pub is_another : (d.entries query.cache query.set query.way).tag ≢ query.tag

pub record VictimSays (d : Contents) (query : Query) (summary : Summary) : Type 0 where
  pub leaves : (summary.victim ≢ I) ↔ HasToLeave d query
  pub state : summary.victim ≢ I → summary.victim ≡ (d.entries query.cache query.set query.way).state
