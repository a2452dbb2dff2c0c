-- What the table means, in the subject's own words.
use Rattle.std.specs.Prelude.{◌≡◌, ◌≢◌, ℕ, true, Some}
use Rattle.bk_base.specs.Places.{Shape, group_of}
use Rattle.bk_base.specs.States.{is_writable}
use Rattle.bk_base.specs.declared.coh.Coh.TheVariants.{M}
use Rattle.bk_base.specs.declared.op.Op.{Op}
use Rattle.bk_msg.specs.declared.row.Row.{Row}
use Rattle.bk_msg.specs.Networks.{address_of as about}
use Rattle.bk_lce.specs.declared.line.Line.{Line}
use Rattle.bk_lce.specs.CacheTable.{address_of, Transition, issue, command, fill}
use Rattle.bk_lce.specs.CacheState.{CacheState}

-- a line was written at once: it was the sole copy of its block, and now memory is behind it
pub record IsWrittenAtOnce (old new : Line) : Type 0 where
  pub before : is_writable old.state ≡ true
  pub after : new.state ≡ M
  pub tag : new.tag ≡ old.tag

-- An operation that is given writes no line in S, F or O: where a line changes, it was in E or M.
abbrev pub StoresSoleCopies : Type 0
StoresSoleCopies = (k : Shape) (cache : CacheState) (c way : ℕ) (op : Op) (t : Transition) → issue k cache c op way ≡ Some t
    → (set w : ℕ) → t.state.lines set w ≢ cache.lines set w → IsWrittenAtOnce (cache.lines set w) (t.state.lines set w)

-- a set is as it was
pub record IsAsItWas (old new : CacheState) (set : ℕ) : Type 0 where
  pub lines : (w : ℕ) → new.lines set w ≡ old.lines set w
  pub recency : new.recency set ≡ old.recency set

-- all sets but one are as they were
abbrev pub KeepsOthers : ℕ → CacheState → Transition → Type 0
KeepsOthers set old t = (set_number : ℕ) → set_number ≢ set → IsAsItWas old t.state set_number

-- An operation, and a message, changes at most the set of the block that it is about.
abbrev pub TouchesOneSet : Type 0
TouchesOneSet = (k : Shape) (cache : CacheState) (c : ℕ)
    → record {
      given : (op : Op) (way : ℕ) (t : Transition) → issue k cache c op way ≡ Some t
          → KeepsOthers (group_of k (address_of op)) cache t;
      commanded : (m : Row) (t : Transition) → command k cache c m ≡ Some t → KeepsOthers (group_of k (about m)) cache t;
      filled : (m : Row) (t : Transition) → fill k cache c m ≡ Some t → KeepsOthers (group_of k (about m)) cache t;
    }
