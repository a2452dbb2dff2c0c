-- The word of bits that marks the idle caches.
use Rattle.std.proofs.Common.{◌≡◌, ℕ, ◌+◌, ◌<◌, ◌≤◌, Bool, true, false, cond, eqb, length, set, Option, Some, None, refl, ap, sym, ◌∙◌, arith}
use Rattle.std.specs.Prelude.{not, is_some, is_none, nat_lt, ◌&&◌, if◌then◌else◌}
use Rattle.std.specs.Option.{MatchOption}
use Rattle.std.specs.Int.{bit_at}
use Rattle.std.proofs.lemmas.Bool.Decides.{nat_tests}
use Rattle.std.proofs.lemmas.Nat.Bits.{bit_at-zero}
use Rattle.bk_base.specs.Tables.{put}
use Rattle.bk_base.specs.declared.config.TheConstants.{MOST_CACHES}
use Rattle.bk_lce.specs.declared.cache_arrays.CacheArrays.{CacheArrays}
use Rattle.bk_lce.specs.declared.line.InProgress.{InProgress}
use Rattle.bk_lce.specs.CacheState.{CacheState}
use Rattle.bk_lce.specs.CacheArrays.{state_of}
use Rattle.bk_system.specs.declared.caches.Caches.{Caches}
use Rattle.bk_system.specs.Bits.{IsFirstBit}
use Rattle.bk_system.specs.Lookups.{is_idle}
use Rattle.bk_system.specs.Next.{IsNextOf, IsNoneFrom}
use Rattle.bk_system.specs.Numbering.{caches_of, AreIdle}
use Rattle.bk_system.proofs.CacheList.{caches-set}

-- what a word says of the caches from a start on
bit-on : (inside idle : Bool) (bit : ℕ) → bit ≡ (if inside && idle then 1 else 0) → bit ≡ 1
    → (inside ≡ true) × (idle ≡ true)
bit-on true true bit e h = (refl, refl)
bit-on true false bit e h = absurd (omega arith)
bit-on false idle bit e h = absurd (omega arith)

bit-off : (inside idle : Bool) (bit : ℕ) → bit ≡ (if inside && idle then 1 else 0) → bit ≡ 0 → inside ≡ true
    → idle ≡ false
bit-off true true bit e h i = absurd (omega arith)
bit-off true false bit e h i = refl
bit-off false idle bit e h i = absurd (cc)

lt : (a b : ℕ) → a < b → nat_lt a b ≡ true
lt a b l = grind (arith, nat_tests)

is-lt : (a b : ℕ) → nat_lt a b ≡ true → a < b
is-lt a b e = grind (arith, nat_tests)

pub idle-none : (n word start : ℕ) (caches : ℕ → CacheState) → n ≤ MOST_CACHES → AreIdle n word caches
    → ((c : ℕ) → start ≤ c → bit_at word c ≡ 0) → IsNoneFrom n start (is_idle caches)
idle-none n word start caches few marks none j from l =
    bit-off (nat_lt j n) (is_none (caches j).busy) (bit_at word j) (marks j (omega (arith, l, few))) (none j from) (lt j n l)

pub idle-next : (n word start c : ℕ) (caches : ℕ → CacheState) → AreIdle n word caches → IsFirstBit word start c
    → IsNextOf n start (is_idle caches) c
idle-next n word start c caches marks first =
    let on = bit-on (nat_lt c n) (is_none (caches c).busy) (bit_at word c) (marks c first.within) first.is_set in
    let within : c < n = is-lt c n on.0 in
    record {
      from = first.low;
      within = within;
      passes = on.1;
      least = λ j from l.
          bit-off (nat_lt j n) (is_none (caches j).busy) (bit_at word j) (marks j (omega (arith, l, first.within))) (first.before j from l)
          (lt j n (omega (arith, l, within)));
    }

pub idle-told : (n word start : ℕ) (caches : ℕ → CacheState) (o : Option ℕ) → n ≤ MOST_CACHES → AreIdle n word caches
    → MatchOption o ((c : ℕ) → start ≤ c → bit_at word c ≡ 0) (λ c. IsFirstBit word start c)
    → MatchOption o (IsNoneFrom n start (is_idle caches)) (IsNextOf n start (is_idle caches))
idle-told n word start caches None few marks h = idle-none n word start caches few marks h
idle-told n word start caches (Some c) few marks h = idle-next n word start c caches marks h

-- a cache was called, and is idle or not
not-some : (o : Option InProgress) (busy : Bool) → busy ≡ is_some o → is_none o ≡ not busy
not-some None busy e = ap not (sym e)
not-some (Some x) busy e = ap not (sym e)

pub idle-after : (y : Caches) (c : ℕ) (z : CacheArrays) (busy : Bool) (later : ℕ) → c < y.config.caches
    → busy ≡ is_some (state_of z).busy
    → ((j : ℕ) → j < 64 → bit_at later j ≡ put (bit_at y.idle) c (if not busy then 1 else 0) j)
    → AreIdle y.config.caches later (caches_of y.config (set y.arrays.items c z))
unfolding put
idle-after y c z busy later l is now j lj =
    let n : ℕ = y.config.caches in
    let there : c < length y.arrays.items = omega (arith, y.arrays.ok.0, y.each, l) in
    let old : ℕ → CacheState = caches_of y.config y.arrays.items in
    now j lj ∙ by (eqb j c) (λ e. at j e) (y.idlers j lj)
    ∙ ap (λ (f : ℕ → CacheState). if nat_lt j n && is_none (f j).busy then 1 else 0)
    (sym (caches-set y.config y.arrays.items c z there))
  where
    at : (j : ℕ) → eqb j c ≡ true → nat_lt j y.config.caches ≡ true
    at j e = grind (arith, nat_tests, l)

    by : (b : Bool) → (b ≡ true → nat_lt j y.config.caches ≡ true)
        → bit_at y.idle j ≡ (if nat_lt j y.config.caches && is_none (caches_of y.config y.arrays.items j).busy then 1 else 0)
        → cond b (if not busy then 1 else 0) (bit_at y.idle j)
        ≡ (if nat_lt j y.config.caches && is_none (cond b (state_of z) (caches_of y.config y.arrays.items j)).busy then 1 else 0)
    by true h e = rw (h refl, not-some (state_of z).busy busy is) refl
    by false h e = e

-- none is there yet
pub idle-zero : (j : ℕ) → bit_at 0 j ≡ (if nat_lt j 0 then 1 else 0)
idle-zero j = bit_at-zero j ∙ none j
  where
    none : (j : ℕ) → ◌≡◌ {A = ℕ} 0 (if nat_lt j 0 then 1 else 0)
    none j = grind (arith, nat_tests)

-- one idle cache more
pub idle-more : (word later cache : ℕ) → ((j : ℕ) → j < 64 → bit_at word j ≡ (if nat_lt j cache then 1 else 0))
    → ((j : ℕ) → j < 64 → bit_at later j ≡ put (bit_at word) cache 1 j)
    → (j : ℕ) → j < 64 → bit_at later j ≡ (if nat_lt j (cache + 1) then 1 else 0)
unfolding put
idle-more word later cache was now j l = now j l ∙ more (bit_at word j) (was j l)
  where
    more : (bit : ℕ) → bit ≡ (if nat_lt j cache then 1 else 0)
        → cond (eqb j cache) 1 bit ≡ (if nat_lt j (cache + 1) then 1 else 0)
    more bit e = grind (arith, nat_tests)

both : (b : Bool) → ◌≡◌ {A = ℕ} (if b then 1 else 0) (if b && true then 1 else 0)
both true = refl
both false = refl

either : (b : Bool) (o : Option InProgress) → o ≡ None → ◌≡◌ {A = ℕ} (if b then 1 else 0) (if b && is_none o then 1 else 0)
either b o e = rw e (both b)

-- all are idle where none was used
pub idle-all : (n word : ℕ) (caches : ℕ → CacheState) → ((j : ℕ) → j < 64 → bit_at word j ≡ (if nat_lt j n then 1 else 0))
    → ((j : ℕ) → (caches j).busy ≡ None) → AreIdle n word caches
idle-all n word caches was unused j l = was j l ∙ either (nat_lt j n) (caches j).busy (unused j)
