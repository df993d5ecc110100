-- The kinds of bytes in a description.
use Rattle.std.specs.Prelude.{ℕ, ◌==◌, ◌||◌, Bool, false, Option, Some, None}
use Rattle.std.specs.Char.{is_ascii_alphabetic, is_digit}
use Rattle.std.specs.Int.{is_in_range}

-- a blank or a tab
abbrev pub is_blank : ℕ → Bool
is_blank b = (b == 32) || (b == 9)

-- a byte that may stand outside comments: a tab, or 0x20 to 0x7E
abbrev pub is_plain : ℕ → Bool
is_plain b = (b == 9) || is_in_range 0x20 0x7E b

-- a letter or `_`
abbrev pub is_letter : ℕ → Bool
is_letter b = is_ascii_alphabetic b || (b == 95)

abbrev pub is_decimal : ℕ → Bool
is_decimal b = is_digit b 10

abbrev pub is_hexadecimal : ℕ → Bool
is_hexadecimal b = is_digit b 16

-- a byte of a name: a letter, a digit or `_`
abbrev pub is_name_byte : ℕ → Bool
is_name_byte b = is_letter b || is_decimal b

-- the next byte is there and passes
abbrev pub any_next : (ℕ → Bool) → Option ℕ → Bool
any_next p None = false
any_next p (Some b) = p b
