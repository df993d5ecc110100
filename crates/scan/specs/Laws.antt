-- What holds of every lexer whose tokens have no blank in them.
use Rattle.std.specs.Prelude.{◌≡◌, ℕ, Bool, true, List, [], ◌∷◌, ◌++◌, Option, Some, None, Ok}
use Rattle.scan.specs.Scan.{told, lex}

-- no token has a blank in it, and a blank behind a word is as good as the end
pub record IsSeparated {T : Type 0} (token_of : List ℕ → Option ℕ → Option T) (is_blank : ℕ → Bool) : Type 0 where
  pub never_over : (c : ℕ) (a b : List ℕ) (next : Option ℕ) → is_blank c ≡ true → token_of (a ++ c ∷ b) next ≡ None
  pub as_end : (c : ℕ) (w : List ℕ) → is_blank c ≡ true → token_of w (Some c) ≡ token_of w None

-- these bytes add these tokens to a text, whatever follows
pub record Writes {T : Type 0} (token_of : List ℕ → Option ℕ → Option T) (is_blank : ℕ → Bool) (w : List ℕ) (ts : List T) : Type 0 where
  pub always : (rest : List ℕ) → lex token_of is_blank 0 (w ++ rest) ≡ told ts (lex token_of is_blank 0 rest)

-- the tokens of a text with a blank in it are those before the blank, and then those behind it
abbrev pub SplitsAtBlanks : {T : Type 0} → (List ℕ → Option ℕ → Option T) → (ℕ → Bool) → Type 0
SplitsAtBlanks {T} token_of is_blank =
    (c : ℕ) (a b : List ℕ) (ts : List T) → is_blank c ≡ true → lex token_of is_blank 0 a ≡ Ok ts
    → lex token_of is_blank 0 (a ++ c ∷ b) ≡ told ts (lex token_of is_blank 0 b)

-- a text with these tokens, and a blank behind it, adds them to what follows
abbrev pub WritesText : {T : Type 0} → (List ℕ → Option ℕ → Option T) → (ℕ → Bool) → Type 0
WritesText {T} token_of is_blank =
    (c : ℕ) (w : List ℕ) (ts : List T) → is_blank c ≡ true → lex token_of is_blank 0 w ≡ Ok ts
    → Writes token_of is_blank (w ++ c ∷ []) ts

-- what adds tokens to a text, one behind the other, adds both
abbrev pub WritesBoth : {T : Type 0} → (List ℕ → Option ℕ → Option T) → (ℕ → Bool) → Type 0
WritesBoth {T} token_of is_blank =
    (v w : List ℕ) (ts us : List T) → Writes token_of is_blank v ts → Writes token_of is_blank w us
    → Writes token_of is_blank (v ++ w) (ts ++ us)

-- what adds tokens to a text has them, where nothing follows
abbrev pub WritesAll : {T : Type 0} → (List ℕ → Option ℕ → Option T) → (ℕ → Bool) → Type 0
WritesAll {T} token_of is_blank =
    (w : List ℕ) (ts : List T) → Writes token_of is_blank w ts → lex token_of is_blank 0 w ≡ Ok ts
