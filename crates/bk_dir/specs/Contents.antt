-- What a directory holds: an entry for each way of each cache, and a pending bit for each way group.
use Rattle.std.specs.Prelude.{ℕ, Bool, false}
use Rattle.bk_base.specs.Tables.{put}
use Rattle.bk_base.specs.declared.coh.Coh.{Coh}
use Rattle.bk_base.specs.declared.coh.Coh.TheVariants.{I}
use Rattle.bk_dir.specs.declared.entry.Entry.{Entry}

-- Each map has a value for each number; what was never written is the opening one.
pub record Contents : Type 0 where
  pub entries : ℕ → ℕ → ℕ → Entry  -- by cache, set and way
  pub pending : ℕ → Bool  -- by way group

abbrev pub empty_entry : Entry
empty_entry = record { tag = 0; state = I }

-- a directory that was never written: no entry is valid, and no way group is pending
abbrev pub opening : Contents
opening = record { entries = λ c s w. empty_entry; pending = λ g. false }

-- one entry written, and all else as it was
abbrev pub with_entry : Contents → ℕ → ℕ → ℕ → Entry → Contents
with_entry d c set w entry = record d { entries = put d.entries c (put (d.entries c) set (put (d.entries c set) w entry)) }

-- one entry's state written: its tag stays
abbrev pub with_state : Contents → ℕ → ℕ → ℕ → Coh → Contents
with_state d c set w state = with_entry d c set w (record { tag = (d.entries c set w).tag; state = state })

-- one pending bit written, and all else as it was
abbrev pub with_pending : Contents → ℕ → Bool → Contents
with_pending d g bit = record d { pending = put d.pending g bit }
