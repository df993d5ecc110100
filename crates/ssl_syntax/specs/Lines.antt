-- How lines are spelled, which values are line values, and what a text denotes.
use Rattle.std.specs.Prelude.{◌≡◌, ℕ, ◌<◌, ◌^◌, ◌&&◌, not, Bool, true, false, List, [], ◌∷◌, ◌++◌, Option, Some, None, map, codes, if◌then◌else◌, Result, Ok, Err}
use Rattle.std.specs.List.{All, list_all}
use Rattle.text_lex.specs.declared.token.Token.{Token}
use Rattle.text_lex.specs.declared.token.Token.TheVariants.{Name, Number, Sign}
use Rattle.text_lex.specs.Spelling.{is_name}
use Rattle.ssl_syntax.specs.declared.line.CellName.{CellName}
use Rattle.ssl_syntax.specs.declared.line.ViewPart.{ViewPart}
use Rattle.ssl_syntax.specs.declared.line.ViewPart.TheVariants as part
use Rattle.ssl_syntax.specs.declared.line.Param.{Param}
use Rattle.ssl_syntax.specs.declared.line.SslTransfer.{SslTransfer}
use Rattle.ssl_syntax.specs.declared.line.SslBody.{SslBody}
use Rattle.ssl_syntax.specs.declared.line.SslBody.TheVariants as body
use Rattle.ssl_syntax.specs.declared.words.Word.TheVariants as word
use Rattle.ssl_syntax.specs.declared.words.LineWord.TheVariants as line
use Rattle.line_reading.specs.Signs.{becomes, open_paren, close_paren, open_bracket, close_bracket, comma, semicolon, colon}
use Rattle.ssl_syntax.specs.Words.{word_bytes, line_bytes}
use Rattle.ssl_syntax.specs.Expressions.{expr_toks, is_expr}
use Rattle.line_reading.specs.Spelling.{listed, is_empty, name_toks}
use Rattle.ssl_syntax.specs.Transfers.{cell_toks, bits_toks, transfer_toks, is_transfer}

-- CELL or bits ( CELL , LO , HI )
abbrev pub part_toks : ViewPart → List Token
part_toks (part.Whole cell) = cell_toks cell
part_toks (part.Bits cell lo hi) = bits_toks cell lo hi

-- P : W
abbrev pub param_toks : Param → List Token
param_toks p = Name p.name ∷ Sign colon ∷ Number p.width ∷ []

-- NAME ( several things ) :=
abbrev pub head_toks : {A : Type 0} → (A → List Token) → List ℕ → List A → List Token
head_toks spell name xs = Name name ∷ Sign open_paren ∷ (listed comma spell xs ++ Sign close_paren ∷ Sign becomes ∷ [])

-- none, or transfers with semicolons between them
abbrev pub transfers_toks : List SslTransfer → List Token
transfers_toks [] = Name (word_bytes word.Nothing) ∷ []
transfers_toks (t ∷ ts) = listed semicolon transfer_toks (t ∷ ts)

-- yes or no
abbrev pub yes_or_no : Bool → List ℕ
yes_or_no answer = if answer then codes "yes" else codes "no"

-- no or L
abbrev pub delay_toks : Option ℕ → List Token
delay_toks None = Name (codes "no") ∷ []
delay_toks (Some bytes) = Number bytes ∷ []

-- NAME [ N ] W
abbrev pub file_toks : List ℕ → ℕ → ℕ → List Token
file_toks name count width = Name name ∷ Sign open_bracket ∷ Number count ∷ Sign close_bracket ∷ Number width ∷ []

-- what a line says
abbrev pub body_toks : SslBody → List Token
-- align yes
body_toks (body.Align answer) = Name (line_bytes line.Align) ∷ Name (yes_or_no answer) ∷ []
-- delay L
body_toks (body.Delay bytes) = Name (line_bytes line.Delay) ∷ delay_toks bytes
-- cell NAME W
body_toks (body.Cell name width) = Name (line_bytes line.Cell) ∷ Name name ∷ Number width ∷ []
-- cells NAME [ N ] W
body_toks (body.Cells name count width) = Name (line_bytes line.Cells) ∷ file_toks name count width
-- view NAME [ N ] W is REF , REF
body_toks (body.View name count width parts) =
    Name (line_bytes line.View) ∷ (file_toks name count width ++ Name (codes "is") ∷ listed comma part_toks parts)
-- zero CELL
body_toks (body.Zero cell) = Name (line_bytes line.Zero) ∷ cell_toks cell
-- windows CELL CELL CELL N
body_toks (body.Windows out_first local_first in_first count) =
    Name (line_bytes line.Windows) ∷ (cell_toks out_first ++ (cell_toks local_first ++ (cell_toks in_first ++ Number count ∷ [])))
-- function NAME ( P : W , P : W ) := E
body_toks (body.Function name params value) = Name (line_bytes line.Function) ∷ (head_toks param_toks name params ++ expr_toks value)
-- operand NAME ( OP , OP ) := E
body_toks (body.Operand name ops value) = Name (line_bytes line.Operand) ∷ (head_toks name_toks name ops ++ expr_toks value)
-- instruction NAME ( OP , OP ) := T ; T
body_toks (body.Instruction name ops transfers) = Name (line_bytes line.Instruction) ∷ (head_toks name_toks name ops ++ transfers_toks transfers)

-- a view has a part, and expressions and transfers are such
abbrev pub is_body : SslBody → Bool
is_body (body.View name count width parts) = not (is_empty parts)
is_body (body.Function name params value) = is_expr value
is_body (body.Operand name ops value) = is_expr value
is_body (body.Instruction name ops transfers) = list_all is_transfer transfers
is_body _ = true
