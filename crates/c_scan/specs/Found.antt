-- Tokens as the code has them.
use Rattle.std.specs.Prelude.{◌≡◌, ℕ, true, List, Option, Some, None}
use Rattle.std.specs.Str.{all_ascii_digits}
use Rattle.std.specs.Str.Parse.{digits_value}
use Rattle.c_text.specs.Tokens.{Token, name, plain, long, sign}
use Rattle.c_scan.specs.declared.front.Found.{Found}
use Rattle.c_scan.specs.declared.front.Kind.{Kind}
use Rattle.c_scan.specs.declared.front.Kind.TheVariants as kind

-- the token of a kind with these bytes
abbrev pub token_of_kind : Kind → List ℕ → Token
token_of_kind kind.Name bytes = name bytes
token_of_kind kind.Plain digits = plain (digits_value 10 digits)
token_of_kind kind.Long digits = long (digits_value 10 digits)
token_of_kind kind.Sign bytes = sign bytes

-- a found token
abbrev pub token : Found → Token
token f = token_of_kind f.kind f.bytes.now

-- a token and how many bytes it has
abbrev pub measured : Option Found → Option (ℕ × Token)
measured None = None
measured (Some f) = Some (f.len, token f)

-- the bytes of a number are digits
abbrev pub AreDigits : Kind → List ℕ → Type 0
AreDigits kind.Plain digits = all_ascii_digits digits ≡ true
AreDigits kind.Long digits = all_ascii_digits digits ≡ true
AreDigits _ bytes = Unit {0}

-- the bytes of a found number are digits
abbrev pub HasDigits : Found → Type 0
HasDigits f = AreDigits f.kind f.bytes.now
