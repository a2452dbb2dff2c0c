-- The one transaction of the engine: the request that it serves, and how far it has come.
use Rattle.std.specs.Prelude.{ℕ, Bool, true, false, ◌&&◌, List, [], ◌∷◌, Option, Some, None, if◌then◌else◌, ◌==◌}
use Rattle.bk_machine.specs.Entries.{Entry}
use Rattle.bk_machine.specs.Messages.{Op, Request, MemoryBlock, request_of}

-- an operation that a cache has begun, and the way that it has set apart: 0 for an uncached one
pub record InProgress : Type 0 where
  pub op : Op
  pub way : ℕ

-- a flush: none is asked for, one is sent and not yet answered, or its Wb has come and its block is kept
pub data WriteBack : Type 0 where
  Idle FlushAsked : WriteBack
  FlushKept : MemoryBlock → WriteBack

-- the read of memory: none was asked for, one is sent, or its words have come
pub data Reading : Type 0 where
  NotRead ReadAsked : Reading
  Got : (words : ℕ → ℕ) → Reading

-- an entry that the directory must still be given, at this cache and way
pub record Debt : Type 0 where
  pub cache : ℕ
  pub way : ℕ
  pub entry : Entry

-- The transaction record. `waiting` lists the caches whose InvAck is to come: its length is the engine's count of acks.
-- A debt that is none is paid.
pub record Transaction : Type 0 where
  pub cache : ℕ
  pub request : Request
  pub granted : Bool
  pub write_back : WriteBack
  pub reading : Reading
  pub written : Bool
  pub waiting : List ℕ
  pub requester_debt : Option Debt
  pub owner_debt : Option Debt

-- a transaction as it begins
abbrev pub new_transaction : ℕ → Request → Transaction
new_transaction c q =
    record {
      cache = c;
      request = q;
      granted = false;
      write_back = Idle;
      reading = NotRead;
      written = false;
      waiting = [];
      requester_debt = None;
      owner_debt = None;
    }

-- a transaction that isn't granted, for an operation in progress: it has no debts
abbrev pub open_transaction : ℕ → InProgress → WriteBack → Reading → Bool → List ℕ → Transaction
open_transaction r b wb rd wr waiting = record {
  cache = r;
  request = request_of b.op b.way;
  granted = false;
  write_back = wb;
  reading = rd;
  written = wr;
  waiting = waiting;
  requester_debt = None;
  owner_debt = None;
}

-- a granted one, with its debts
abbrev pub granted_transaction : ℕ → InProgress → Reading → Bool → Option Debt → Option Debt → Transaction
granted_transaction r b rd wr own owner = record {
  cache = r;
  request = request_of b.op b.way;
  granted = true;
  write_back = Idle;
  reading = rd;
  written = wr;
  waiting = [];
  requester_debt = own;
  owner_debt = owner;
}

-- a list without the first place where a number stands
abbrev pub remove_one : ℕ → List ℕ → List ℕ
remove_one c [] = []
remove_one c (x ∷ xs) = if c == x then xs else x ∷ remove_one c xs

-- what the answer to a flush leaves: a Wb's block is kept, after a NullWb there is none
abbrev pub write_back_after : ℕ → Option (ℕ → ℕ) → WriteBack
write_back_after t None = Idle
write_back_after t (Some ws) = FlushKept (record { tag = t; words = ws })

abbrev pub is_asked : Reading → Bool
is_asked NotRead = false
is_asked ReadAsked = true
is_asked (Got ws) = false

-- The directory once the debts are paid. The invariant speaks of it: between a grant and the two payments the bare directory is behind.

abbrev pub with_debt_paid : Option Debt → (ℕ → ℕ → Entry) → ℕ → ℕ → Entry
with_debt_paid None directory c w = directory c w
with_debt_paid (Some d) directory c w = if c == d.cache && w == d.way then d.entry else directory c w

abbrev pub paid_directory : Option Transaction → (ℕ → ℕ → Entry) → ℕ → ℕ → Entry
paid_directory None directory = directory
paid_directory (Some t) directory = with_debt_paid t.requester_debt (with_debt_paid t.owner_debt directory)
