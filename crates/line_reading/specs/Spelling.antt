-- How parts of lines are spelled, and which names and numbers a text can hold.
use Rattle.std.specs.Prelude.{◌≡◌, ℕ, ◌<◌, ◌^◌, Bool, true, false, List, [], ◌∷◌, ◌++◌, if◌then◌else◌}
use Rattle.std.specs.Str.{bytes_eq}
use Rattle.text_lex.specs.declared.token.Token.{Token}
use Rattle.text_lex.specs.declared.token.Token.TheVariants.{Name, Number, Sign}
use Rattle.text_lex.specs.Spelling.{is_name}

-- several things, this sign before each
abbrev pub each_behind : {A : Type 0} → ℕ → (A → List Token) → List A → List Token
each_behind sign spell [] = []
each_behind sign spell (x ∷ xs) = Sign sign ∷ (spell x ++ each_behind sign spell xs)

-- several things, this sign between them
abbrev pub listed : {A : Type 0} → ℕ → (A → List Token) → List A → List Token
listed sign spell [] = []
listed sign spell (x ∷ xs) = spell x ++ each_behind sign spell xs

-- NAME
abbrev pub name_toks : List ℕ → List Token
name_toks name = Name name ∷ []

-- the word among these that a name is, or else the other
abbrev pub word_among : {W : Type 0} → (W → List ℕ) → W → List W → List ℕ → W
word_among bytes other [] name = other
word_among bytes other (w ∷ ws) name = if bytes_eq name (bytes w) then w else word_among bytes other ws name

abbrev pub is_empty : {A : Type 0} → List A → Bool
is_empty [] = true
is_empty (x ∷ xs) = false

-- a name is a letter or `_`, then letters, digits and `_`, and a number fits 64 bits
abbrev pub IsWritten : Token → Type 0
IsWritten (Name letters) = is_name letters ≡ true
IsWritten (Number value) = value < 2 ^ 64
IsWritten _ = Unit {0}
