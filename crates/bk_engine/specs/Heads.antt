-- Messages as heads, requests as the engine holds them, and what each engine keeps of them: they are of the configuration.
use Rattle.std.specs.Prelude.{ℕ, ◌+◌, ◌-◌, ◌/◌, ◌%◌, ◌^◌, Bool, true, false, ◌&&◌, ◌==◌, nat_lt, Option, Some, None, ◌≡◌, ◌<◌}
use Rattle.std.specs.Coded.{le_prop}
use Rattle.bk_base.specs.Places.{Shape}
use Rattle.bk_msg.specs.declared.row.Row.{Row}
use Rattle.bk_msg.specs.declared.row.Row.TheVariants as rows
use Rattle.bk_msg.specs.Within.{IsWithin, IsWithin-prop, IsWay}
use Rattle.bk_engine.specs.declared.heads.TheConstants.{HEAD_NONE, HEAD_REQUEST, HEAD_INV_ACK, HEAD_COH_ACK, HEAD_WB, HEAD_NULL_WB, HEAD_BLOCK, HEAD_OTHER}
use Rattle.bk_engine.specs.declared.parts.TheConstants.{CLASS_NONE, CLASS_REQUEST}
use Rattle.bk_engine.specs.declared.parts.Head.{Head}
use Rattle.bk_engine.specs.declared.parts.Held.{Held}
use Rattle.bk_engine.specs.declared.parts.RequestKind.{RequestKind}
use Rattle.bk_engine.specs.declared.parts.RequestKind.TheVariants as kinds
use Rattle.bk_engine.specs.declared.parts.Core.{Core}

-- The value of a message as a head, HEAD_OTHER for what is never one.
abbrev pub head_number : Row → ℕ
head_number (rows.Rd _ _ _ _) = HEAD_REQUEST
head_number (rows.Wr _ _ _ _) = HEAD_REQUEST
head_number (rows.UcRd _ _ _) = HEAD_REQUEST
head_number (rows.UcWr _ _ _ _) = HEAD_REQUEST
head_number (rows.Evict _ _ _ _) = HEAD_REQUEST
head_number (rows.InvAck _ _ _) = HEAD_INV_ACK
head_number (rows.CohAck _ _ _) = HEAD_COH_ACK
head_number (rows.Wb _ _ _ _) = HEAD_WB
head_number (rows.NullWb _ _ _) = HEAD_NULL_WB
head_number (rows.Block _ _ _ _) = HEAD_BLOCK
head_number _ = HEAD_OTHER

-- the value of the engine's head, HEAD_NONE where there is none
abbrev pub head_value : Option Head → ℕ
head_value None = HEAD_NONE
head_value (Some head) = head_number head.message

-- the request that a message of this cache makes, if it makes one
abbrev pub request_of : ℕ → Row → Option Held
request_of source (rows.Rd _ _ way addr) = Some (record { kind = kinds.Rd; source = source; way = way; addr = addr; value = 0 })
request_of source (rows.Wr _ _ way addr) = Some (record { kind = kinds.Wr; source = source; way = way; addr = addr; value = 0 })
request_of source (rows.UcRd _ _ addr) = Some (record { kind = kinds.UcRd; source = source; way = 0; addr = addr; value = 0 })
request_of source (rows.UcWr _ _ addr word) = Some (record { kind = kinds.UcWr; source = source; way = 0; addr = addr; value = word })
request_of source (rows.Evict _ _ way addr) = Some (record { kind = kinds.Evict; source = source; way = way; addr = addr; value = 0 })
request_of source _ = None

abbrev pub kind_number : RequestKind → ℕ
kind_number kinds.Rd = 0
kind_number kinds.Wr = 1
kind_number kinds.UcRd = 2
kind_number kinds.UcWr = 3
kind_number kinds.Evict = 4

-- whether the answer to a request puts a block into a way
abbrev pub is_placed : RequestKind → Bool
is_placed kinds.Rd = true
is_placed kinds.Wr = true
is_placed kinds.UcRd = false
is_placed kinds.UcWr = false
is_placed kinds.Evict = false

-- Whether a set of values, one bit a value, has this one.
abbrev pub has_value : ℕ → ℕ → Bool
has_value set value = set / 2 ^ value % 2 == 1

-- The classes of a `wfq` are bits too, the first for CLASS_RESPONSE, the second for CLASS_MEMORY, the third for CLASS_REQUEST.
abbrev pub names_class : ℕ → ℕ → Bool
names_class classes class = nat_lt CLASS_NONE class && nat_lt class (CLASS_REQUEST + 1) && has_value classes (class - 1)

-- WHAT EACH ENGINE KEEPS: its head and its request are of the configuration

-- a head's source is a cache, and its message names caches and ways of the configuration
pub record IsHead (k : Shape) (h : Head) : Type 0 where
  pub source : h.choice.source < k.caches
  pub within : IsWithin k h.message

-- so of the head and of the request, where there are such
pub record IsSound (k : Shape) (core : Core) : Type 0 where
  pub head : (h : Head) → core.head ≡ Some h → IsHead k h
  pub held : (h : Held) → core.held ≡ Some h → IsWay k h.source h.way

-- that they are so is a fact with one proof, as a ghost field wants it
pub IsSound-prop : (k : Shape) (core : Core) → IsProp (IsSound k core)
IsSound-prop k core = hlevel (IsWithin-prop, le_prop)
