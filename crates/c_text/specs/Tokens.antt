-- The tokens of a C text: names, numbers with and without a suffix, and signs. The longest is taken at each place, and
-- spaces, tabs and line feeds only part them.
use Prim.Native.String.{String}
use Rattle.std.specs.Prelude.{ℕ, ◌==◌, ◌||◌, Bool, List, [], ◌∷◌, take, drop, Option, Some, None, Result, if◌then◌else◌, codes}
use Rattle.std.specs.Char.{is_ascii_digit, is_ascii_alphabetic}
use Rattle.std.specs.List.{list_all, list_any, prefix_len}
use Rattle.std.specs.Str.{bytes_eq}
use Rattle.std.specs.Str.Parse.{digits_value}
use Rattle.scan.specs.Scan as scan

-- a number is seen as its value, whatever its digits; a long one has the suffix `ull`
pub data Token : Type 0 where
  name : (letters : List ℕ) → Token
  plain : (value : ℕ) → Token
  long : (value : ℕ) → Token
  sign : (bytes : List ℕ) → Token

-- a name by its text
abbrev pub word : String → Token
word text = name (codes text)

-- a sign by its text
abbrev pub mark : String → Token
mark text = sign (codes text)

-- a space, a tab or a line feed
abbrev pub is_blank : ℕ → Bool
is_blank b = (b == 32) || ((b == 9) || (b == 10))

-- a letter or `_`
abbrev pub is_letter : ℕ → Bool
is_letter b = is_ascii_alphabetic b || (b == 95)

-- a letter, `_` or a digit
abbrev pub is_word : ℕ → Bool
is_word b = is_letter b || is_ascii_digit b

-- all signs of C texts
abbrev pub signs : List (List ℕ)
signs =
    codes "(" ∷ codes ")" ∷ codes "{" ∷ codes "}" ∷ codes "[" ∷ codes "]" ∷ codes ";" ∷ codes "," ∷ codes ":"
    ∷ codes "?" ∷ codes "=" ∷ codes "==" ∷ codes "!=" ∷ codes "<" ∷ codes "<=" ∷ codes "<<" ∷ codes ">>"
    ∷ codes "+" ∷ codes "-" ∷ codes "*" ∷ codes "/" ∷ codes "%" ∷ codes "&" ∷ codes "|" ∷ codes "^" ∷ []

-- the bytes are one of the signs
abbrev pub is_sign : List ℕ → Bool
is_sign w = list_any (λ s. bytes_eq s w) signs

-- how many digits stand in front
abbrev pub digit_count : List ℕ → ℕ
digit_count w = prefix_len is_ascii_digit w

-- the number of these digits, with these bytes behind them
abbrev pub number_of : List ℕ → List ℕ → Option Token
number_of digits [] = Some (plain (digits_value 10 digits))
number_of digits (c ∷ cs) = if bytes_eq (codes "ull") (c ∷ cs) then Some (long (digits_value 10 digits)) else None

-- the token that all of the bytes are, by the first of them
unfoldable pub word_token : List ℕ → Option Token
word_token [] = None
word_token (b ∷ bs) =
    if is_letter b then (if list_all is_word bs then Some (name (b ∷ bs)) else None)
    else (if is_ascii_digit b then number_of (take (digit_count (b ∷ bs)) (b ∷ bs)) (drop (digit_count (b ∷ bs)) (b ∷ bs))
    else (if is_sign (b ∷ bs) then Some (sign (b ∷ bs)) else None))

-- what comes behind a word changes nothing
abbrev pub token_of : List ℕ → Option ℕ → Option Token
token_of w next = word_token w

-- the tokens of a text, or how many bytes are left where the first byte stands that begins no token
abbrev pub tokens : List ℕ → Result (List Token) ℕ
tokens text = scan.lex token_of is_blank 0 text
