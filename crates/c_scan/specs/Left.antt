-- The tokens that are left of a text, and the next one.
use Rattle.std.specs.Prelude.{◌≡◌, ℕ, ◌-◌, ◌<◌, ◌≤◌, List, [], ◌∷◌, drop, length, IfSome, Option, Some, None, Result, Ok, Err}
use Rattle.c_text.specs.Tokens.{Token, tokens}
use Rattle.scan.specs.Scan.{told}
use Rattle.c_scan.specs.declared.front.Found.{Found}
use Rattle.c_scan.specs.Found.{token, HasDigits}

-- the tokens that were told, or none where lexing stopped
abbrev pub left_of : Result (List Token) ℕ → List Token
left_of (Ok ts) = ts
left_of (Err n) = []

-- each byte that is no blank begins a token, or stands in one
abbrev pub IsLexed : Result (List Token) ℕ → Type 0
IsLexed (Ok ts) = Unit {0}
IsLexed (Err n) = ⊥

-- the tokens of a text of which each byte is lexed
unfoldable pub left : List ℕ → List Token
left bs = left_of (tokens bs)

-- the first byte that is no blank and begins no token stands here
pub record IsUnlexed (text : List ℕ) (at : ℕ) : Type 0 where
  pub within : at < length text
  pub stops : tokens text ≡ Err (length text - at)

-- this token is the next one, and it ends at this place
pub record Taken (text : List ℕ) (from : ℕ) (f : Found) (end : ℕ) : Type 0 where
  pub stands : tokens (drop from text) ≡ told (token f ∷ []) (tokens (drop end text))
  pub onward : from < end
  pub within : end ≤ length text
  pub digits : HasDigits f

-- no token stands next: nothing is left, or a byte that begins none
pub record Ended (text : List ℕ) (from end : ℕ) : Type 0 where
  pub within : end ≤ length text
  pub over : end ≡ length text → tokens (drop from text) ≡ Ok []
  pub stops : end < length text → tokens (drop from text) ≡ Err (length text - end)

-- what was found from a place on: a token and where it ends, or where there is none
abbrev pub NextIs : List ℕ → ℕ → Result (Found × ℕ) ℕ → Type 0
NextIs text from (Ok next) = Taken text from next.0 next.1
NextIs text from (Err end) = Ended text from end

-- the tokens behind the one in front
abbrev pub from_front : Option Found → List Token → List Token
from_front None ts = []
from_front (Some f) ts = token f ∷ ts

-- a token in front, if there is one, and the place behind it
pub record IsAhead (text : List ℕ) (from : ℕ) (front : Option Found) (end : ℕ) : Type 0 where
  pub tokens_are : from_front front (left (drop end text)) ≡ left (drop from text)
  pub within : end ≤ length text
  pub lexed : IsLexed (tokens (drop end text))
  pub digits : IfSome front HasDigits
