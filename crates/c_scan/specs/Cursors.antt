-- The tokens that a cursor has left.
use Rattle.std.specs.Prelude.{◌≤◌, List, drop, length, IfSome}
use Rattle.c_text.specs.Tokens.{Token, tokens}
use Rattle.c_scan.specs.declared.cursor.Cursor.TheInside.{Inside}
use Rattle.c_scan.specs.Found.{HasDigits}
use Rattle.c_scan.specs.Left.{IsLexed, from_front, left}

-- the token in front, and those behind it
abbrev pub tokens_left : Inside → List Token
tokens_left c = from_front c.front (left (drop c.behind c.text.now))

-- each byte from a place on is lexed, and a number in front has digits
pub record IsCursor (c : Inside) : Type 0 where
  pub within : c.behind ≤ length c.text.now
  pub lexed : IsLexed (tokens (drop c.behind c.text.now))
  pub digits : IfSome c.front HasDigits
