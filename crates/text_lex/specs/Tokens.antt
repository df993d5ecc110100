-- The tokens of a line.
use Rattle.std.specs.Prelude.{ℕ, ◌^◌, ◌==◌, ◌&&◌, not, Bool, false, List, [], ◌∷◌, drop, Option, Some, None, Result, Ok, Err, if◌then◌else◌, nat_lt, codes, slice_index}
use Rattle.std.specs.List.{list_all, position_from}
use Rattle.std.specs.Option.{option_or}
use Rattle.std.specs.Str.{bytes_eq}
use Rattle.std.specs.Str.Parse.{digits_value}
use Rattle.scan.specs.Scan.{lex}
use Rattle.text_lex.specs.declared.token.Token.{Token}
use Rattle.text_lex.specs.declared.token.Token.TheVariants.{Name, Number, Sign, Bad}
use Rattle.text_lex.specs.Bytes.{is_blank, is_letter, is_decimal, is_hexadecimal, is_name_byte, any_next}

-- the signs in their order
abbrev pub signs : List (List ℕ)
signs =
    codes "..." ∷ codes "<=!" ∷ codes ">>!" ∷ codes "//!" ∷ codes "%next" ∷ codes "%pc" ∷ codes ":=" ∷ codes "!=" ∷ codes "=>" ∷ codes "<=" ∷ codes "<!"
    ∷ codes "<<" ∷ codes ">>" ∷ codes "//" ∷ codes "/!" ∷ codes "(" ∷ codes ")" ∷ codes "[" ∷ codes "]" ∷ codes "," ∷ codes ";" ∷ codes ":" ∷ codes "="
    ∷ codes "&" ∷ codes "|" ∷ codes "+" ∷ codes "-" ∷ codes "*" ∷ codes "/" ∷ codes "<" ∷ codes "^" ∷ codes "~" ∷ []

-- the place of a word among the signs
unfoldable pub sign_index : List ℕ → Option ℕ
sign_index word = position_from (λ sign. bytes_eq sign word) 0 signs

-- `%pc` and `%next` are no signs before a letter, a digit or `_`
abbrev pub is_joined : List ℕ → Option ℕ → Bool
is_joined word next = (slice_index word 0 == 37) && any_next is_name_byte next

abbrev pub sign_at : Option ℕ → Option Token
sign_at None = None
sign_at (Some k) = Some (Sign k)

-- the sign that a word is, before this byte or the end
abbrev pub sign_of : List ℕ → Option ℕ → Option Token
sign_of word next = if is_joined word next then None else sign_at (sign_index word)

-- a number, but over 2 ^ 64 - 1 or directly before a letter or `_` it is bad
abbrev pub number_token : ℕ → Option ℕ → Token
number_token value next = if nat_lt value (2 ^ 64) && not (any_next is_letter next) then Number value else Bad

-- `0x` and hexadecimal digits
abbrev pub is_hexadecimal_number : List ℕ → Bool
is_hexadecimal_number (first ∷ second ∷ digit ∷ digits) = (first == 48) && (second == 120) && list_all is_hexadecimal (digit ∷ digits)
is_hexadecimal_number word = false

-- the number that a word is, before this byte or the end
abbrev pub number_of : List ℕ → Option ℕ → Option Token
number_of word next =
    if list_all is_decimal word then Some (number_token (digits_value 10 word) next)
    else (if is_hexadecimal_number word then Some (number_token (digits_value 16 (drop 2 word)) next) else None)

-- a byte by itself is bad, unless it is a blank
abbrev pub bad_byte : List ℕ → Option Token
bad_byte (b ∷ []) = if is_blank b then None else Some Bad
bad_byte word = None

-- the token that a word is, before this byte or the end
unfoldable pub token_of : List ℕ → Option ℕ → Option Token
token_of [] next = None
token_of (b ∷ bs) next =
    if is_letter b then (if list_all is_name_byte bs then Some (Name (b ∷ bs)) else None)
    else (if is_decimal b then number_of (b ∷ bs) next
    else option_or (sign_of (b ∷ bs) next) (bad_byte (b ∷ bs)))

-- each byte begins a token or is a blank
abbrev pub all_tokens : Result (List Token) ℕ → List Token
all_tokens (Ok tokens) = tokens
all_tokens (Err left) = []

-- the tokens of a line, the longest at each place
unfoldable pub tokens_of : List ℕ → List Token
tokens_of line = all_tokens (lex token_of is_blank 0 line)
