-- a cache that drops a tag has fewer ways that hold one
use Rattle.std.proofs.Common.{◌≡◌, ℕ, false, arith, []}
use Rattle.std.proofs.lemmas.Bool.Decides.{nat_tests}
use Rattle.bk_base.specs.Tables.{put}
use Rattle.bk_machine.specs.Entries.{Entry, Holds, wiped_in_cache}
use Rattle.bk_machine.specs.Messages.{op_tag}
use Rattle.bk_machine.specs.Transactions.{InProgress}
use Rattle.bk_machine.specs.Phases.{Flush, Ack, InvSent, InvAcked, Open, expected_entry, flush_command}
use Rattle.bk_machine.specs.Copies.{Matches, Invalidating, FlushAims}
use Rattle.bk_base.specs.States.{is_writable, is_dirty}

pub wipe-holds : (c t : ℕ) (h : ℕ → ℕ → Entry) (i w u : ℕ) → Holds (wiped_in_cache c t h i w) u → Holds (h i w) u
unfolding wiped_in_cache
wipe-holds c t h i w u k = grind arith

pub wipe-writable : (c t : ℕ) (h : ℕ → ℕ → Entry) (i w : ℕ) → is_writable (h i w).state ≡ false
    → is_writable (wiped_in_cache c t h i w).state ≡ false
unfolding wiped_in_cache
wipe-writable c t h i w k = grind arith

-- the cache c, which an invalidation reached, drops the tag
module _ (r c t : ℕ) (b : InProgress) (fl : Flush) (inv : ℕ → Ack) (d h : ℕ → ℕ
    → Entry) (sent : inv c ≡ InvSent) (quiet : flush_command fl c ≡ []) (tag : t ≡ op_tag b.op) where
  pub inv-matches : (i w : ℕ) → Matches (d i w) (expected_entry (Open r b fl inv) i w (h i w))
      → Matches (d i w) (expected_entry (Open r b fl (put inv c InvAcked)) i w (wiped_in_cache c t h i w))
  unfolding wiped_in_cache put
  inv-matches i w m = grind (arith, nat_tests)

  pub inv-aims : FlushAims fl h → FlushAims fl (wiped_in_cache c t h)
  unfolding wiped_in_cache
  inv-aims a = grind (arith, nat_tests)

  pub inv-going : Invalidating r (op_tag b.op) fl inv d h → Invalidating r (op_tag b.op) fl (put inv c InvAcked) d (wiped_in_cache c t h)
  unfolding wiped_in_cache put
  inv-going a = record {
    not_own = grind (arith, nat_tests);
    gone = λ i w n k. a.gone i w (grind (arith, nat_tests)) k;
    clean = λ i w e k. grind (arith, nat_tests, a.clean i w);
    behind = λ i e. grind (arith, nat_tests, a.behind i);
  }

  pub inv-clean : Invalidating r (op_tag b.op) fl inv d h → (u : ℕ)
      → ((i w : ℕ) → Holds (wiped_in_cache c t h i w) u → is_dirty (wiped_in_cache c t h i w).state ≡ false)
      → (i w : ℕ) → Holds (h i w) u → is_dirty (h i w).state ≡ false
  unfolding wiped_in_cache
  inv-clean a u clean i w k = grind (arith, nat_tests, a.clean i w, clean i w)
