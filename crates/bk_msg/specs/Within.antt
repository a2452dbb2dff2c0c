-- The caches and ways that a message names are in the configuration.
use Rattle.std.specs.Prelude.{ℕ, ◌<◌, Bool, true, nat_lt, ◌&&◌}
use Rattle.std.specs.Coded.{×_prop, Unit-prop, le_prop}
use Rattle.bk_base.specs.Places.{Shape}
use Rattle.bk_msg.specs.declared.row.Row.{Row}
use Rattle.bk_msg.specs.declared.row.Row.TheVariants.{Rd, Wr, UcRd, UcWr, Evict, Inv, StWb, StTr, Blk, StWake, UcBlk, UcDone, Done, Fill, InvAck, CohAck, Wb, NullWb, Read, Write, WriteWord, Block}

-- a cache of the configuration, and one of its ways
pub record IsWay (k : Shape) (c w : ℕ) : Type 0 where
  pub cache : c < k.caches
  pub way : w < k.ways

-- each cache that a message names is one of the configuration, and each way one of its ways
abbrev pub IsWithin : Shape → Row → Type 0
IsWithin k (Rd from _ way _) = IsWay k from way
IsWithin k (Wr from _ way _) = IsWay k from way
IsWithin k (UcRd from _ _) = from < k.caches
IsWithin k (UcWr from _ _ _) = from < k.caches
IsWithin k (Evict from _ way _) = IsWay k from way
IsWithin k (Inv _ to _) = to < k.caches
IsWithin k (StWb _ to _ _) = to < k.caches
IsWithin k (StTr _ to _ peer peer_way _ _) = (to < k.caches) × IsWay k peer peer_way
IsWithin k (Blk _ to way _ _ _) = IsWay k to way
IsWithin k (StWake _ to way _ _) = IsWay k to way
IsWithin k (UcBlk _ to _ _) = to < k.caches
IsWithin k (UcDone _ to _) = to < k.caches
IsWithin k (Done _ to _) = to < k.caches
IsWithin k (Fill from to way _ _ _) = (from < k.caches) × IsWay k to way
IsWithin k (InvAck from _ _) = from < k.caches
IsWithin k (CohAck from _ _) = from < k.caches
IsWithin k (Wb from _ _ _) = from < k.caches
IsWithin k (NullWb from _ _) = from < k.caches
IsWithin k (Read _ _ _) = Unit {0}
IsWithin k (Write _ _ _ _) = Unit {0}
IsWithin k (WriteWord _ _ _ _) = Unit {0}
IsWithin k (Block _ _ _ _) = Unit {0}

-- the same as a test

abbrev pub is_way : Shape → ℕ → ℕ → Bool
is_way k c w = nat_lt c k.caches && nat_lt w k.ways

abbrev pub is_within : Shape → Row → Bool
is_within k (Rd from _ way _) = is_way k from way
is_within k (Wr from _ way _) = is_way k from way
is_within k (UcRd from _ _) = nat_lt from k.caches
is_within k (UcWr from _ _ _) = nat_lt from k.caches
is_within k (Evict from _ way _) = is_way k from way
is_within k (Inv _ to _) = nat_lt to k.caches
is_within k (StWb _ to _ _) = nat_lt to k.caches
is_within k (StTr _ to _ peer peer_way _ _) = nat_lt to k.caches && is_way k peer peer_way
is_within k (Blk _ to way _ _ _) = is_way k to way
is_within k (StWake _ to way _ _) = is_way k to way
is_within k (UcBlk _ to _ _) = nat_lt to k.caches
is_within k (UcDone _ to _) = nat_lt to k.caches
is_within k (Done _ to _) = nat_lt to k.caches
is_within k (Fill from to way _ _ _) = nat_lt from k.caches && is_way k to way
is_within k (InvAck from _ _) = nat_lt from k.caches
is_within k (CohAck from _ _) = nat_lt from k.caches
is_within k (Wb from _ _ _) = nat_lt from k.caches
is_within k (NullWb from _ _) = nat_lt from k.caches
is_within k (Read _ _ _) = true
is_within k (Write _ _ _ _) = true
is_within k (WriteWord _ _ _ _) = true
is_within k (Block _ _ _ _) = true

-- that they are is a fact with one proof, as a ghost field wants it
IsWay-prop : (k : Shape) (c w : ℕ) → IsProp (IsWay k c w)
IsWay-prop k c w = hlevel le_prop

pub IsWithin-prop : (k : Shape) (m : Row) → IsProp (IsWithin k m)
IsWithin-prop k (Rd from _ way _) = IsWay-prop k from way
IsWithin-prop k (Wr from _ way _) = IsWay-prop k from way
IsWithin-prop k (UcRd from _ _) = le_prop
IsWithin-prop k (UcWr from _ _ _) = le_prop
IsWithin-prop k (Evict from _ way _) = IsWay-prop k from way
IsWithin-prop k (Inv _ to _) = le_prop
IsWithin-prop k (StWb _ to _ _) = le_prop
IsWithin-prop k (StTr _ to _ peer peer_way _ _) = ×_prop le_prop (IsWay-prop k peer peer_way)
IsWithin-prop k (Blk _ to way _ _ _) = IsWay-prop k to way
IsWithin-prop k (StWake _ to way _ _) = IsWay-prop k to way
IsWithin-prop k (UcBlk _ to _ _) = le_prop
IsWithin-prop k (UcDone _ to _) = le_prop
IsWithin-prop k (Done _ to _) = le_prop
IsWithin-prop k (Fill from to way _ _ _) = ×_prop le_prop (IsWay-prop k to way)
IsWithin-prop k (InvAck from _ _) = le_prop
IsWithin-prop k (CohAck from _ _) = le_prop
IsWithin-prop k (Wb from _ _ _) = le_prop
IsWithin-prop k (NullWb from _ _) = le_prop
IsWithin-prop k (Read _ _ _) = Unit-prop
IsWithin-prop k (Write _ _ _ _) = Unit-prop
IsWithin-prop k (WriteWord _ _ _ _) = Unit-prop
IsWithin-prop k (Block _ _ _ _) = Unit-prop
