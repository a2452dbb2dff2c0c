-- Configurations and addresses as numbers. A block has 64 bytes, eight words of 8 bytes.
use Rattle.std.specs.Prelude.{◌≡◌, ℕ, ◌+◌, ◌*◌, ◌/◌, ◌%◌, ◌^◌, ◌<◌, Bool, ◌&&◌, ◌||◌, Option, Some, None, Result, Ok, Err, nat_lt, nat_le, ◌==◌, if◌then◌else◌, IsTrue}
use Rattle.bk_base.specs.declared.config.BadConfig.{BadConfig}
use Rattle.bk_base.specs.declared.config.BadConfig.TheVariants.{Caches, Sets, Ways}
use Rattle.bk_base.specs.declared.config.TheConstants.{MOST_CACHES, MOST_WAYS}

-- the numbers of a configuration
pub record Shape : Type 0 where
  pub caches : ℕ
  pub sets : ℕ
  pub ways : ℕ

-- a power of two up to 64
abbrev pub is_set_count : ℕ → Bool
is_set_count n = n == 1 || n == 2 || n == 4 || n == 8 || n == 16 || n == 32 || n == 64

-- a number from 1 to 16
abbrev pub is_cache_count : ℕ → Bool
is_cache_count n = nat_le 1 n && nat_le n MOST_CACHES

-- a number from 1 to 8
abbrev pub is_way_count : ℕ → Bool
is_way_count n = nat_le 1 n && nat_le n MOST_WAYS

-- the profile: 1 to 16 caches, a power of two up to 64 of sets, 1 to 8 ways
pub record InProfile (k : Shape) : Type 0 where
  pub caches : IsTrue (is_cache_count k.caches)
  pub sets : IsTrue (is_set_count k.sets)
  pub ways : IsTrue (is_way_count k.ways)

-- the configuration of three numbers, or the first of them that is outside the profile
abbrev pub config_of : ℕ → ℕ → ℕ → Result Shape BadConfig
config_of caches sets ways =
    if is_cache_count caches
    then (if is_set_count sets
    then (if is_way_count ways then Ok (record { caches = caches; sets = sets; ways = ways }) else Err Ways)
    else Err Sets)
    else Err Caches

-- the number of an address: below 2^40, a multiple of 8
pub record IsAddr (n : ℕ) : Type 0 where
  pub below : n < 2 ^ 40
  pub aligned : n % 8 ≡ 0

abbrev pub addr_of : ℕ → Option ℕ
addr_of n = if nat_lt n (2 ^ 40) && n % 8 == 0 then Some n else None

abbrev pub block_of : ℕ → ℕ
block_of addr = addr / 64

-- the address of the first word of an address's block
abbrev pub block_start : ℕ → ℕ
block_start addr = block_of addr * 64

-- the place of the word in its block
abbrev pub word_of : ℕ → ℕ
word_of addr = addr / 8 % 8

abbrev pub set_of : Shape → ℕ → ℕ
set_of k block = block % k.sets

abbrev pub tag_of : Shape → ℕ → ℕ
tag_of k block = block / k.sets

-- the way group of an address: its block's set
abbrev pub group_of : Shape → ℕ → ℕ
group_of k addr = set_of k (block_of addr)

-- the tag of an address's block
abbrev pub tag_at : Shape → ℕ → ℕ
tag_at k addr = tag_of k (block_of addr)

-- each tag is below this: blocks are below 2^34
abbrev pub tag_limit : Shape → ℕ
tag_limit k = 2 ^ 34 / k.sets

-- the address of the first word of the block with this tag in a set
abbrev pub address_in : Shape → ℕ → ℕ → ℕ
address_in k set tag = (tag * k.sets + set) * 64
