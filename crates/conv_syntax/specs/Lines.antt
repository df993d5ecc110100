-- How the lines of a convention file are spelled, and which values are line values.
use Rattle.std.specs.Prelude.{◌≡◌, ℕ, ◌&&◌, not, is_none, Bool, true, List, [], ◌∷◌, ◌++◌, Option, Some, None, codes}
use Rattle.std.specs.Str.{bytes_eq}
use Rattle.text_lex.specs.declared.token.LogicalLine.{LogicalLine}
use Rattle.text_lex.specs.declared.token.Token.{Token}
use Rattle.text_lex.specs.declared.token.Token.TheVariants.{Name, Number, Sign}
use Rattle.line_reading.specs.Signs.{open_bracket, close_bracket}
use Rattle.line_reading.specs.Texts.{IsLineValue}
use Rattle.conv_syntax.specs.declared.line.ConvLine.{ConvLine}
use Rattle.conv_syntax.specs.declared.line.ConvBody.{ConvBody}
use Rattle.conv_syntax.specs.declared.line.ConvBody.TheVariants as body
use Rattle.conv_syntax.specs.declared.line.ConvCell.{ConvCell}
use Rattle.conv_syntax.specs.declared.line.StackLine.{StackLine}
use Rattle.conv_syntax.specs.declared.line.ServiceLine.{ServiceLine}
use Rattle.conv_syntax.specs.declared.words.LineWord.{LineWord}
use Rattle.conv_syntax.specs.declared.words.LineWord.TheVariants as line
use Rattle.conv_syntax.specs.Words.{word_bytes}

-- behind a name: [ NUMBER ], or nothing
abbrev pub index_toks : Option ℕ → List Token
index_toks None = []
index_toks (Some index) = Sign open_bracket ∷ Number index ∷ Sign close_bracket ∷ []

-- NAME or NAME [ NUMBER ]
abbrev pub cell_toks : ConvCell → List Token
cell_toks cell = Name cell.name ∷ index_toks cell.index

-- CELL or negative
abbrev pub error_toks : Option ConvCell → List Token
error_toks None = Name (codes "negative") ∷ []
error_toks (Some cell) = cell_toks cell

-- CELL BASE SIZE ROOM
abbrev pub stack_toks : StackLine → List Token
stack_toks s = cell_toks s.cell ++ Number s.base ∷ Number s.size ∷ Number s.room ∷ []

-- CELL args CELL CELL CELL result CELL error CELL
abbrev pub service_toks : ServiceLine → List Token
service_toks s =
    cell_toks s.number ++ Name (codes "args") ∷ (cell_toks s.arg_x ++ (cell_toks s.arg_y ++ (cell_toks s.arg_z
    ++ Name (codes "result") ∷ (cell_toks s.result ++ Name (codes "error") ∷ error_toks s.error))))

-- fault N descriptor N unknown N
abbrev pub errors_toks : ℕ → ℕ → ℕ → List Token
errors_toks fault descriptor unknown =
    Name (codes "fault") ∷ Number fault ∷ Name (codes "descriptor") ∷ Number descriptor ∷ Name (codes "unknown") ∷ Number unknown ∷ []

-- the word with which a line begins
abbrev pub first_word : ConvBody → LineWord
first_word (body.Elf n) = line.Elf
first_word (body.Stack s) = line.Stack
first_word (body.Heap base size) = line.Heap
first_word (body.Service s) = line.Service
first_word (body.Exit n) = line.Exit
first_word (body.Read n) = line.Read
first_word (body.Write n) = line.Write
first_word (body.Brk n) = line.Brk
first_word (body.Errors fault descriptor unknown) = line.Errors
first_word (body.Link cell) = line.Link
first_word (body.Call name) = line.Call
first_word (body.Return name) = line.Return
first_word (body.Entry n) = line.Entry
first_word (body.Whole n) = line.Whole
first_word (body.Pad name) = line.Pad
first_word (body.Args n) = line.Args

-- what stands behind it
abbrev pub rest_toks : ConvBody → List Token
rest_toks (body.Elf n) = Number n ∷ []
rest_toks (body.Stack s) = stack_toks s
rest_toks (body.Heap base size) = Number base ∷ Number size ∷ []
rest_toks (body.Service s) = service_toks s
rest_toks (body.Exit n) = Number n ∷ []
rest_toks (body.Read n) = Number n ∷ []
rest_toks (body.Write n) = Number n ∷ []
rest_toks (body.Brk n) = Number n ∷ []
rest_toks (body.Errors fault descriptor unknown) = errors_toks fault descriptor unknown
rest_toks (body.Link cell) = cell_toks cell
rest_toks (body.Call name) = Name name ∷ []
rest_toks (body.Return name) = Name name ∷ []
rest_toks (body.Entry n) = Number n ∷ []
rest_toks (body.Whole n) = Number n ∷ []
rest_toks (body.Pad name) = Name name ∷ []
rest_toks (body.Args n) = Number n ∷ []

-- what a line says
abbrev pub body_toks : ConvBody → List Token
body_toks b = Name (word_bytes (first_word b)) ∷ rest_toks b

-- the name `negative` without an index
abbrev pub is_negative : ConvCell → Bool
is_negative cell = is_none cell.index && bytes_eq cell.name (codes "negative")

-- behind `error` that name is no cell
abbrev pub is_error : Option ConvCell → Bool
is_error None = true
is_error (Some cell) = not (is_negative cell)

abbrev pub is_body : ConvBody → Bool
is_body (body.Service s) = is_error s.error
is_body _ = true

-- the logical line that spells a value
abbrev pub spelled_line : ConvLine → LogicalLine
spelled_line value = record { number = value.number; tokens = body_toks value.body }

abbrev pub is_line : ConvLine → Bool
is_line value = is_body value.body

-- a line value of a convention file
abbrev pub IsConvLine : ConvLine → Type 0
IsConvLine value = IsLineValue spelled_line is_line value

-- no two line values have one spelling
abbrev pub LinesDiffer : Type 0
LinesDiffer = (a b : ConvLine) → IsConvLine a → IsConvLine b → body_toks a.body ≡ body_toks b.body → a.body ≡ b.body
