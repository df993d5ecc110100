-- How the code reads lines, one reader for each form.
use Rattle.std.specs.Prelude.{ℕ, Bool, true, false, zero, suc, List, [], ◌∷◌, length, drop, Option, Some, None, codes, ◌||◌, ◌&&◌, if◌then◌else◌}
use Rattle.std.specs.Str.{bytes_eq}
use Rattle.text_lex.specs.declared.token.Token.{Token}
use Rattle.text_lex.specs.declared.token.Token.TheVariants.{Name}
use Rattle.line_reading.specs.Signs.{dots, differs, open_paren, close_paren, comma, semicolon, colon, equals, ampersand, bar}
use Rattle.line_reading.specs.Readings.{Read, fails, reads, Reader, after, ◌>>=◌, give, fail, begins, begins_name, chosen, sign, number, any_name, this_name, onto, items, whole_line}
use Rattle.sled_syntax.specs.declared.line.SledBody.{SledBody}
use Rattle.sled_syntax.specs.declared.line.SledBody.TheVariants as body
use Rattle.sled_syntax.specs.declared.line.FieldDef.{FieldDef}
use Rattle.sled_syntax.specs.declared.line.SledPattern.{SledPattern}
use Rattle.sled_syntax.specs.declared.line.SledItem.{SledItem}
use Rattle.sled_syntax.specs.declared.line.Part.{Part}
use Rattle.sled_syntax.specs.declared.line.Part.TheVariants as part
use Rattle.sled_syntax.specs.Lines.{is_word}

abbrev pub field_of : List ℕ → ℕ → ℕ → FieldDef
field_of name lo hi = record { name = name; lo = lo; hi = hi }

-- NAME LO : HI
unfoldable pub read_field : Reader FieldDef
read_field = do
  name ← any_name
  lo ← number
  _ ← sign colon
  hi ← number
  give (field_of name lo hi)

-- at most so many fields, up to the end
unfoldable pub fields_up_to : ℕ → Reader (List FieldDef)
fields_up_to zero ts = reads [] ts
fields_up_to (suc n) [] = reads [] []
fields_up_to (suc n) (t ∷ ts) = after (read_field (t ∷ ts)) (λ f more. onto (f ∷ []) (fields_up_to n more))

-- fields up to the end
unfoldable pub read_fields : Reader (List FieldDef)
read_fields ts = fields_up_to (length ts) ts

-- behind a name: = NUMBER, != NUMBER or nothing
unfoldable pub part_behind : List ℕ → Reader Part
part_behind name =
    chosen equals (number >>= (λ value. give (part.Equal name value)))
    (chosen differs (number >>= (λ value. give (part.Differs name value))) (give (part.Lone name)))

unfoldable pub read_part : Reader Part
read_part = any_name >>= part_behind

abbrev pub item_of : List Part → Option (List ℕ) → SledItem
item_of parts rest = record { parts = parts; rest = rest }

-- & NAME behind `...`
unfoldable pub read_rest : Reader (Option (List ℕ))
read_rest = chosen dots (sign ampersand >>= (λ _. any_name >>= (λ name. give (Some name)))) (give None)

unfoldable pub read_item : Reader SledItem
read_item = do
  parts ← items ampersand read_part
  rest ← read_rest
  give (item_of parts rest)

abbrev pub read_sequence : Reader (List SledItem)
read_sequence = items semicolon read_item

abbrev pub pattern_of : List (List SledItem) → SledPattern
pattern_of alternatives = record { alternatives = alternatives }

unfoldable pub read_pattern : Reader SledPattern
read_pattern = items bar read_sequence >>= (λ alternatives. give (pattern_of alternatives))

-- the next token is a name
abbrev pub begins_any_name : List Token → Bool
begins_any_name (Name letters ∷ ts) = true
begins_any_name ts = false

-- what stands behind a name `is` can stand behind an operand of that name
abbrev pub goes_on : List Token → Bool
goes_on ts = begins comma ts || (begins colon ts || (begins_name is_word ts && begins_any_name (drop 1 ts)))

-- the tokens begin with operands
unfoldable pub begins_ops : List Token → Bool
begins_ops (Name letters ∷ ts) = if bytes_eq letters is_word then goes_on ts else true
begins_ops ts = false

-- OP , OP, or nothing
unfoldable pub read_ops : Reader (List (List ℕ))
read_ops ts = if begins_ops ts then items comma any_name ts else reads [] ts

-- : TYPE, or nothing
unfoldable pub read_type : Reader (Option (List ℕ))
read_type = chosen colon (any_name >>= (λ name. give (Some name))) (give None)

-- big or little
unfoldable pub read_order : Reader SledBody
read_order ts =
    if begins_name (codes "big") ts then reads (body.ByteOrder true) (drop 1 ts)
    else after (this_name (codes "little") ts) (λ _. give (body.ByteOrder false))

-- of TOKEN ( W ) and the fields
unfoldable pub read_token : Reader SledBody
read_token = do
  _ ← this_name (codes "of")
  token ← any_name
  _ ← sign open_paren
  width ← number
  _ ← sign close_paren
  fields ← read_fields
  give (body.Fields token width fields)

-- NAME is P
unfoldable pub read_named : Reader SledBody
read_named = do
  name ← any_name
  _ ← this_name is_word
  pattern ← read_pattern
  give (body.Pattern name pattern)

-- NAME OPS? TYPED? is P
unfoldable pub read_constructor : Reader SledBody
read_constructor = do
  name ← any_name
  ops ← read_ops
  of_type ← read_type
  _ ← this_name is_word
  pattern ← read_pattern
  give (body.Constructor name ops of_type pattern)

-- behind the first word of a line
unfoldable pub read_behind : List ℕ → Reader SledBody
read_behind word =
    if bytes_eq word (codes "order") then read_order
    else (if bytes_eq word (codes "fields") then read_token
    else (if bytes_eq word (codes "pattern") then read_named
    else (if bytes_eq word (codes "constructor") then read_constructor else fail)))

unfoldable pub read_body : Reader SledBody
read_body = any_name >>= read_behind

-- a line and nothing behind it
abbrev pub read_line : Reader SledBody
read_line = whole_line read_body
