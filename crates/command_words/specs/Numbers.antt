-- Numbers, as words.
use Rattle.std.specs.Prelude.{ℕ, ◌&&◌, nat_le, Bool, if◌then◌else◌, List, length, Option, Some, None}
use Rattle.std.specs.Char.{is_digit}
use Rattle.std.specs.List.{list_all}
use Rattle.std.specs.Option.{option_and_then}
use Rattle.std.specs.Str.Parse.{digits_value}

-- 1 to `most` decimal digits
abbrev pub are_digits : ℕ → List ℕ → Bool
are_digits most word = (nat_le 1 (length word) && nat_le (length word) most) && list_all (λ b. is_digit b 10) word

-- the number that they write
abbrev pub decimal_of : ℕ → List ℕ → Option ℕ
decimal_of most word = if are_digits most word then Some (digits_value 10 word) else None

-- a number from `least` to `most`
abbrev pub within : ℕ → ℕ → ℕ → Option ℕ
within least most n = if nat_le least n && nat_le n most then Some n else None

-- a number of steps: 1 to 19 digits
abbrev pub steps_of : List ℕ → Option ℕ
steps_of word = decimal_of 19 word

-- the number that a sample is made from: 1 to 20 digits, below 2^64
abbrev pub number_of : List ℕ → Option ℕ
number_of word = option_and_then (within 0 18446744073709551615) (decimal_of 20 word)

-- the count of a sample's instructions: 1 to 5 digits, from 1 to 20,000
abbrev pub count_of : List ℕ → Option ℕ
count_of word = option_and_then (within 1 20000) (decimal_of 5 word)
