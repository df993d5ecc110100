-- A token as the code finds it: its kind, before its letters are copied.
use Rattle.std.specs.Prelude.{ℕ, ◌^◌, List, Option, Some, None, if◌then◌else◌, nat_lt, take, ◌≡◌}
use Rattle.text_lex.specs.declared.token.Token.{Token}
use Rattle.text_lex.specs.declared.token.Token.TheVariants as tokens
use Rattle.scan.specs.Scan.{front}
use Rattle.text_lex.specs.Tokens.{token_of}
use Rattle.text_lex.specs.declared.lexeme.Lexeme.{Lexeme}
use Rattle.text_lex.specs.declared.lexeme.Kind.{Kind}
use Rattle.text_lex.specs.declared.lexeme.Kind.TheVariants as kinds

-- the token of this kind that a word is
abbrev pub token_as : Kind → List ℕ → Token
token_as kinds.Name word = tokens.Name word
token_as (kinds.Number value) word = tokens.Number value
token_as (kinds.Sign index) word = tokens.Sign index
token_as kinds.Bad word = tokens.Bad

-- a value that fits 64 bits
abbrev pub value_below : ℕ → Option ℕ
value_below n = if nat_lt n (2 ^ 64) then Some n else None

-- this is the longest token at the front of a text
abbrev pub IsFront : Lexeme → List ℕ → Type 0
IsFront lexeme text = front token_of text ≡ Some (lexeme.len, token_as lexeme.kind (take lexeme.len text))
