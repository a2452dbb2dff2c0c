-- Numbers of a command line.
use Rattle.std.specs.Prelude.{ℕ, Bool, ◌&&◌, List, length, nat_le, nat_lt, Option, Some, None, Ok, Err, Result, if◌then◌else◌}
use Rattle.std.specs.List.{list_all}
use Rattle.bk_base.specs.Places.{Shape, config_of}
use Rattle.bk_base.specs.declared.config.BadConfig.{BadConfig}
use Rattle.bk_text.specs.Texts.{number_of}

abbrev pub is_decimal : ℕ → Bool
is_decimal byte = nat_le 48 byte && nat_le byte 57

-- at most 10 decimal digits
abbrev pub are_digits : List ℕ → Bool
are_digits word = nat_le (length word) 10 && list_all is_decimal word

-- the number of 1 to 10 decimal digits
abbrev pub decimal_word : List ℕ → Option ℕ
decimal_word word = if are_digits word then number_of word else None

abbrev pub if_below : ℕ → Option ℕ → Option ℕ
if_below limit None = None
if_below limit (Some n) = if nat_lt n limit then Some n else None

-- the number of a word, where it is below a limit
abbrev pub below : ℕ → List ℕ → Option ℕ
below limit word = if_below limit (decimal_word word)

abbrev pub made : Result Shape BadConfig → Option Shape
made (Ok config) = Some config
made (Err bad) = None

abbrev pub made_of : Option ℕ → Option ℕ → Option ℕ → Option Shape
made_of (Some caches) (Some sets) (Some ways) = made (config_of caches sets ways)
made_of _ _ _ = None

-- the configuration of three words, in the profile
abbrev pub config_in : List ℕ → List ℕ → List ℕ → Option Shape
config_in caches sets ways = made_of (below 256 caches) (below 256 sets) (below 256 ways)
