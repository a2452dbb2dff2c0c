-- Copies that are fewer or weaker keep what is said of all copies.
use Rattle.std.proofs.Common.{◌≡◌, ℕ, Bool, true, false, arith}
use Rattle.std.specs.Prelude.{Option, Some, None}
use Rattle.std.proofs.lemmas.Bool.Decides.{nat_tests}
use Rattle.std.specs.Bool.{OnFalse}
use Rattle.bk_machine.specs.Tables.{put2}
use Rattle.bk_machine.specs.Entries.{Entry, Holds, with_state, wiped_in_cache, is_light}
use Rattle.bk_machine.specs.Messages.{Op, Load, Store, UcLoad, UcStore, Evict, Request, Rd, Wr, UcRd, UcWr, EvictRequest, op_tag, request_tag}
use Rattle.bk_machine.specs.Transactions.{InProgress, Transaction, WriteBack, Idle, FlushAsked, FlushKept, Reading, NotRead, ReadAsked, Got}
use Rattle.bk_machine.specs.Phases.{Flush, NoFlush, FlushSent, FlushDone, Flight, ByBlock, ByWake, ByTransfer, ByFill, ByWord, ByDone}
use Rattle.bk_machine.specs.Copies.{OneWay, Alone}
use Rattle.bk_machine.specs.Values.{NoWriter, NoCopy, OpenValues, TransactionValues, KeptValues, ReadValues, WrittenValues, FlushValues, FlightValues, StoredAt, AllLight}
use Rattle.bk_machine.specs.Invariant.{WaitingCopies}
use Rattle.bk_base.specs.declared.coh.Coh.{Coh}
use Rattle.bk_base.specs.States.{is_readable, is_writable}

pub record Fewer (new old : ℕ → ℕ → Entry) : Type 0 where
  pub holds : (c w t : ℕ) → Holds (new c w) t → Holds (old c w) t
  pub writes : (c w t : ℕ) → Holds (new c w) t → is_writable (old c w).state ≡ false → is_writable (new c w).state ≡ false

abbrev pub Lighter : (ℕ → ℕ → Entry) → (ℕ → ℕ → Entry) → Type 0
Lighter new old = (c w t : ℕ) → Holds (new c w) t → is_light (old c w).state ≡ true → is_light (new c w).state ≡ true

module _ {new old : ℕ → ℕ → Entry} (f : Fewer new old) where
  pub OneWay-fewer : OneWay old → OneWay new
  OneWay-fewer one t c w v k l = one t c w v (f.holds c w t k) (f.holds c v t l)

  pub Alone-fewer : Alone old → Alone new
  Alone-fewer one t c w o v k l n = f.writes c w t k (one t c w o v (f.holds c w t k) (f.holds o v t l) n)

  pub NoWriter-fewer : (t : ℕ) → NoWriter old t → NoWriter new t
  NoWriter-fewer t n c w k = f.writes c w t k (n c w (f.holds c w t k))

  pub NoCopy-fewer : (t : ℕ) → NoCopy old t → NoCopy new t
  NoCopy-fewer t n c w k = n c w (f.holds c w t k)

  pub WaitingCopies-fewer : (op : Op) (w c : ℕ) → WaitingCopies op w (old c) → WaitingCopies op w (new c)
  WaitingCopies-fewer (Load t spot) w c p = λ v h. p v (f.holds c v t h)
  WaitingCopies-fewer (Store t k change) w c p = λ v h. ((p v (f.holds c v t h)).0, f.writes c v t h (p v (f.holds c v t h)).1)
  WaitingCopies-fewer (UcLoad t spot) w c p = tt
  WaitingCopies-fewer (UcStore t k change) w c p = tt
  WaitingCopies-fewer (Evict t) w c p = tt

  pub FlushValues-fewer : (fl : Flush) (v : ℕ → ℕ → ℕ) → FlushValues fl old v → FlushValues fl new v
  FlushValues-fewer NoFlush v p = tt
  FlushValues-fewer (FlushSent o w t x) v p = tt
  FlushValues-fewer (FlushDone o t None) v p = tt
  FlushValues-fewer (FlushDone o t (Some ws)) v p = (p.0, NoWriter-fewer t p.1)

  pub StoredAt-fewer : (op : Op) (v a : ℕ → ℕ → ℕ) → StoredAt op old v a → StoredAt op new v a
  StoredAt-fewer (Load t spot) v a p = tt
  StoredAt-fewer (Store t k change) v a p = tt
  StoredAt-fewer (UcLoad t spot) v a p = tt
  StoredAt-fewer (UcStore t k change) v a p = (p.0, NoCopy-fewer t p.1)
  StoredAt-fewer (Evict t) v a p = tt

  pub FlightValues-fewer : (x : Flight) (b : InProgress) (v a : ℕ → ℕ → ℕ) → FlightValues x b old v a
      → FlightValues x b new v a
  FlightValues-fewer (ByBlock x ws) b v a p = p
  FlightValues-fewer ByWake b v a p = tt
  FlightValues-fewer (ByTransfer o ow y x) b v a p = tt
  FlightValues-fewer (ByFill o x ws) b v a p = p
  FlightValues-fewer (ByWord n) b v a p = (p.0, NoWriter-fewer (op_tag b.op) p.1)
  FlightValues-fewer ByDone b v a p = StoredAt-fewer b.op v a p

  pub KeptValues-fewer : (x : WriteBack) (v : ℕ → ℕ → ℕ) → KeptValues x old v → KeptValues x new v
  KeptValues-fewer Idle v p = tt
  KeptValues-fewer FlushAsked v p = tt
  KeptValues-fewer (FlushKept b) v p = (p.0, NoWriter-fewer b.tag p.1)

  pub AllLight-fewer : Lighter new old → (t : ℕ) → AllLight old t → AllLight new t
  AllLight-fewer test t n c w k = test c w t k (n c w (f.holds c w t k))

  pub ReadValues-fewer : Lighter new old → (x : Reading) (t : ℕ) (v : ℕ → ℕ → ℕ) → ReadValues x t old v
      → ReadValues x t new v
  ReadValues-fewer test NotRead t v p = tt
  ReadValues-fewer test ReadAsked t v p = AllLight-fewer test t p
  ReadValues-fewer test (Got ws) t v p = (p.0, AllLight-fewer test t p.1)

  pub WrittenValues-fewer : (b : Bool) (r : Request) (v a : ℕ → ℕ → ℕ) → WrittenValues b r old v a → WrittenValues b r new v a
  WrittenValues-fewer false r v a p = tt
  WrittenValues-fewer true (Rd t w) v a p = p
  WrittenValues-fewer true (Wr t w) v a p = p
  WrittenValues-fewer true (UcRd t k) v a p = p
  WrittenValues-fewer true (UcWr t k change) v a p = (p.0, NoCopy-fewer t p.1)
  WrittenValues-fewer true (EvictRequest t w) v a p = p

  pub TransactionValues-fewer : Lighter new old → (x : Transaction) (v a : ℕ → ℕ → ℕ) → TransactionValues x old v a
      → TransactionValues x new v a
  TransactionValues-fewer test x v a p = record {
    kept = KeptValues-fewer x.write_back v p.kept;
    read = ReadValues-fewer test x.reading (request_tag x.request) v p.read;
    written = WrittenValues-fewer x.written x.request v a p.written;
  }

  pub OpenValues-fewer : Lighter new old → (x : Option Transaction) (v a : ℕ → ℕ → ℕ) → OpenValues x old v a
      → OpenValues x new v a
  OpenValues-fewer l None v a p = tt
  OpenValues-fewer l (Some x) v a p =
      (elim x.granted as (λ (test : Bool). OnFalse test (TransactionValues x old v a)
      → OnFalse test (TransactionValues x new v a)) [ true ↦ λ q. tt | false ↦ λ q. TransactionValues-fewer l x v a q ]) p

-- a cache that drops a tag
pub wipe-fewer : (c t : ℕ) (h : ℕ → ℕ → Entry) → Fewer (wiped_in_cache c t h) h
unfolding wiped_in_cache
wipe-fewer c t h = record { holds = λ i w u k. grind arith; writes = λ i w u k e. grind arith }

-- an entry that gets a weaker state
pub weaker-fewer : (c w : ℕ) (state : Coh) (h : ℕ → ℕ → Entry) → is_writable state ≡ false
    → is_readable (h c w).state ≡ true
    → Fewer (put2 h c w (with_state (h c w) state)) h
unfolding put2
weaker-fewer c w x h e l = record {
  holds = λ i v u k. grind (arith, nat_tests);
  writes = λ i v u k n. grind (arith, nat_tests);
}

pub wipe-lighter : (c t : ℕ) (h : ℕ → ℕ → Entry) → Lighter (wiped_in_cache c t h) h
unfolding wiped_in_cache
wipe-lighter c t h i w u k e = grind arith

pub weaker-lighter : (c w : ℕ) (state : Coh) (h : ℕ → ℕ → Entry) → is_light state ≡ true
    → Lighter (put2 h c w (with_state (h c w) state)) h
unfolding put2
weaker-lighter c w x h l i v u k e = grind (arith, nat_tests)
