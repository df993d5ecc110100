-- Texts that spell given tokens, for writers: what is written so is read so.
use Rattle.std.specs.Prelude.{◌≡◌, ℕ, ◌+◌, ◌^◌, ◌<◌, ◌≤◌, ◌==◌, ◌&&◌, not, Bool, true, false, List, [], ◌∷◌, ◌++◌, length, map, slice_index_or, Ok}
use Rattle.std.specs.List.{All, list_all, flat_map}
use Rattle.std.specs.Fmt.{decimal}
use Rattle.scan.specs.Laws.{Writes}
use Rattle.text_lex.specs.declared.token.Token.{Token}
use Rattle.text_lex.specs.declared.token.Token.TheVariants.{Name, Number, Sign, Bad}
use Rattle.text_lex.specs.Bytes.{is_blank, is_plain, is_letter, is_name_byte}
use Rattle.text_lex.specs.Tokens.{signs, token_of, tokens_of}
use Rattle.text_lex.specs.Lines.{Line, begins_with, line_at}
use Rattle.text_lex.specs.Faults.{lines, tokens_at}

-- a letter or `_`, then letters, digits and `_`
abbrev pub is_name : List ℕ → Bool
is_name [] = false
is_name (b ∷ bs) = is_letter b && list_all is_name_byte bs

-- a token that can be written
abbrev pub IsSpelled : Token → Type 0
IsSpelled (Name letters) = is_name letters ≡ true
IsSpelled (Number value) = value < 2 ^ 64
IsSpelled (Sign index) = index < 32
IsSpelled Bad = ⊥

-- the bytes of a token
abbrev pub spelled : Token → List ℕ
spelled (Name letters) = letters
spelled (Number value) = decimal value
spelled (Sign index) = slice_index_or signs index []
spelled Bad = []

-- the bytes of tokens, a blank behind each
abbrev pub spelling_of : List Token → List ℕ
spelling_of tokens = flat_map (λ token. spelled token ++ 32 ∷ []) tokens

-- a line that begins a logical line and has no comment
pub record IsWhole (line : List ℕ) : Type 0 where
  pub begins : begins_with (λ b. not (is_blank b)) line ≡ true
  pub plain : list_all is_plain line ≡ true
  pub no_comment : list_all (λ b. not (b == 35)) line ≡ true
  pub short : length line ≤ 65535

-- lines, a line feed behind each
abbrev pub text_of : List (List ℕ) → List ℕ
text_of lines = flat_map (λ line. line ++ 10 ∷ []) lines

-- the lines, numbered from n on
abbrev pub counted : ℕ → List (List ℕ) → List Line
counted n [] = []
counted n (line ∷ lines) = line_at n line ∷ counted (n + 1) lines

-- a token and a blank add the token to a line, whatever follows
abbrev pub WritesToken : Type 0
WritesToken = (token : Token) (blank : ℕ) → IsSpelled token → is_blank blank ≡ true → Writes token_of is_blank (spelled token ++ blank ∷ []) (token ∷ [])

-- the tokens of what spells them are these
abbrev pub HasTokens : Type 0
HasTokens = (tokens : List Token) → All IsSpelled tokens → tokens_of (spelling_of tokens) ≡ tokens

-- what spells tokens is a line by itself
abbrev pub IsLine : Type 0
IsLine = (tokens : List Token) → All IsSpelled tokens → 0 < length tokens → length (spelling_of tokens) ≤ 65535 → IsWhole (spelling_of tokens)

-- a text of such lines has these as its logical lines, and no fault
abbrev pub HasLines : Type 0
HasLines = (whole : List (List ℕ)) → All IsWhole whole → length whole ≤ 65535 → lines (text_of whole) ≡ Ok (map tokens_at (counted 1 whole))
