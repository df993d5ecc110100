-- How lines are spelled, and which values are line values.
use Rattle.std.specs.Prelude.{◌≡◌, ℕ, ◌&&◌, not, Bool, true, false, List, [], ◌∷◌, ◌++◌, Option, Some, None, codes, if◌then◌else◌}
use Rattle.std.specs.List.{list_all}
use Rattle.text_lex.specs.declared.token.Token.{Token}
use Rattle.text_lex.specs.declared.token.Token.TheVariants.{Name, Number, Sign}
use Rattle.text_lex.specs.declared.token.LogicalLine.{LogicalLine}
use Rattle.line_reading.specs.Signs.{dots, differs, open_paren, close_paren, comma, semicolon, colon, equals, ampersand, bar}
use Rattle.line_reading.specs.Spelling.{listed, name_toks, is_empty}
use Rattle.line_reading.specs.Texts.{IsLineValue}
use Rattle.sled_syntax.specs.declared.line.SledLine.{SledLine}
use Rattle.sled_syntax.specs.declared.line.SledBody.{SledBody}
use Rattle.sled_syntax.specs.declared.line.SledBody.TheVariants as body
use Rattle.sled_syntax.specs.declared.line.FieldDef.{FieldDef}
use Rattle.sled_syntax.specs.declared.line.SledPattern.{SledPattern}
use Rattle.sled_syntax.specs.declared.line.SledItem.{SledItem}
use Rattle.sled_syntax.specs.declared.line.Part.{Part}
use Rattle.sled_syntax.specs.declared.line.Part.TheVariants as part

-- NAME LO : HI
abbrev pub field_toks : FieldDef → List Token
field_toks f = Name f.name ∷ Number f.lo ∷ Sign colon ∷ Number f.hi ∷ []

-- several fields, nothing between them
abbrev pub fields_toks : List FieldDef → List Token
fields_toks [] = []
fields_toks (f ∷ fs) = field_toks f ++ fields_toks fs

-- NAME = NUMBER, NAME != NUMBER or NAME
abbrev pub part_toks : Part → List Token
part_toks (part.Equal name value) = Name name ∷ Sign equals ∷ Number value ∷ []
part_toks (part.Differs name value) = Name name ∷ Sign differs ∷ Number value ∷ []
part_toks (part.Lone name) = Name name ∷ []

-- ... & NAME, or nothing
abbrev pub rest_toks : Option (List ℕ) → List Token
rest_toks None = []
rest_toks (Some name) = Sign dots ∷ Sign ampersand ∷ Name name ∷ []

-- parts with `&` between them, and what goes on behind them
abbrev pub item_toks : SledItem → List Token
item_toks item = listed ampersand part_toks item.parts ++ rest_toks item.rest

-- items with `;` between them
abbrev pub sequence_toks : List SledItem → List Token
sequence_toks items = listed semicolon item_toks items

-- alternatives with `|` between them
abbrev pub pattern_toks : SledPattern → List Token
pattern_toks p = listed bar sequence_toks p.alternatives

-- : TYPE, or nothing
abbrev pub type_toks : Option (List ℕ) → List Token
type_toks None = []
type_toks (Some name) = Sign colon ∷ Name name ∷ []

-- the word before a pattern
abbrev pub is_word : List ℕ
is_word = codes "is"

-- big or little
abbrev pub order_word : Bool → List ℕ
order_word big = if big then codes "big" else codes "little"

-- fields of TOKEN ( W )
abbrev pub token_toks : List ℕ → ℕ → List Token
token_toks token width =
    Name (codes "fields") ∷ Name (codes "of") ∷ Name token ∷ Sign open_paren ∷ Number width ∷ Sign close_paren ∷ []

-- what a line says
abbrev pub body_toks : SledBody → List Token
-- order big
body_toks (body.ByteOrder big) = Name (codes "order") ∷ Name (order_word big) ∷ []
-- fields of TOKEN ( W ) FIELD LO : HI
body_toks (body.Fields token width fields) = token_toks token width ++ fields_toks fields
-- pattern NAME is P
body_toks (body.Pattern name pattern) = Name (codes "pattern") ∷ Name name ∷ Name is_word ∷ pattern_toks pattern
-- constructor NAME OP , OP : TYPE is P
body_toks (body.Constructor name ops of_type pattern) =
    Name (codes "constructor") ∷ Name name ∷ (listed comma name_toks ops ++ (type_toks of_type ++ Name is_word ∷ pattern_toks pattern))

-- an item has a part
abbrev pub is_item : SledItem → Bool
is_item item = not (is_empty item.parts)

-- an alternative has an item
abbrev pub is_sequence : List SledItem → Bool
is_sequence items = not (is_empty items) && list_all is_item items

-- a pattern has an alternative
abbrev pub is_pattern : SledPattern → Bool
is_pattern p = not (is_empty p.alternatives) && list_all is_sequence p.alternatives

-- no list is empty where its form has no empty one
abbrev pub is_body : SledBody → Bool
is_body (body.Pattern name pattern) = is_pattern pattern
is_body (body.Constructor name ops of_type pattern) = is_pattern pattern
is_body _ = true

-- the logical line that spells a value
abbrev pub spelled_line : SledLine → LogicalLine
spelled_line value = record { number = value.number; tokens = body_toks value.body }

abbrev pub is_line : SledLine → Bool
is_line value = is_body value.body

-- a line value of a description of encodings
abbrev pub IsSledLine : SledLine → Type 0
IsSledLine value = IsLineValue spelled_line is_line value

-- no two line values have one spelling
abbrev pub LinesDiffer : Type 0
LinesDiffer = (a b : SledLine) → IsSledLine a → IsSledLine b → body_toks a.body ≡ body_toks b.body → a.body ≡ b.body
