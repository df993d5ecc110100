-- How the code reads lines, one reader for each form.
use Rattle.std.specs.Prelude.{ℕ, List, ◌∷◌, Option, Some, None, codes, if◌then◌else◌}
use Rattle.text_lex.specs.declared.token.Token.TheVariants.{Name}
use Rattle.line_reading.specs.Signs.{open_bracket, close_bracket}
use Rattle.line_reading.specs.Readings.{fails, Reader, ◌>>=◌, give, fail, sign, chosen, number, any_name, this_name, whole_line}
use Rattle.conv_syntax.specs.declared.line.ConvBody.{ConvBody}
use Rattle.conv_syntax.specs.declared.line.ConvBody.TheVariants as body
use Rattle.conv_syntax.specs.declared.line.ConvCell.{ConvCell}
use Rattle.conv_syntax.specs.declared.line.StackLine.{StackLine}
use Rattle.conv_syntax.specs.declared.line.ServiceLine.{ServiceLine}
use Rattle.conv_syntax.specs.declared.words.LineWord.{LineWord}
use Rattle.conv_syntax.specs.declared.words.LineWord.TheVariants as line
use Rattle.conv_syntax.specs.Words.{line_word}
use Rattle.conv_syntax.specs.Lines.{is_negative}

abbrev pub cell_of : List ℕ → Option ℕ → ConvCell
cell_of name index = record { name = name; index = index }

-- NAME or NAME [ NUMBER ]
unfoldable pub read_cell : Reader ConvCell
read_cell = any_name >>= (λ name.
    chosen open_bracket (number >>= (λ index. sign close_bracket >>= (λ _. give (cell_of name (Some index))))) (give (cell_of name None)))

-- the error cell, which is none where it is `negative`
abbrev pub error_of : ConvCell → Option ConvCell
error_of cell = if is_negative cell then None else Some cell

abbrev pub stack_of : ConvCell → ℕ → ℕ → ℕ → StackLine
stack_of cell base size room = record { cell = cell; base = base; size = size; room = room }

-- CELL BASE SIZE ROOM
unfoldable pub read_stack : Reader ConvBody
read_stack = do
  cell ← read_cell
  base ← number
  size ← number
  room ← number
  give (body.Stack (stack_of cell base size room))

-- BASE SIZE
unfoldable pub read_heap : Reader ConvBody
read_heap = do
  base ← number
  size ← number
  give (body.Heap base size)

abbrev pub service_of : ConvCell → ConvCell → ConvCell → ConvCell → ConvCell → ConvCell → ServiceLine
service_of number x y z answer error =
    record { number = number; arg_x = x; arg_y = y; arg_z = z; result = answer; error = error_of error }

-- CELL args CELL CELL CELL result CELL error CELL
unfoldable pub read_service : Reader ConvBody
read_service = do
  number ← read_cell
  _ ← this_name (codes "args")
  x ← read_cell
  y ← read_cell
  z ← read_cell
  _ ← this_name (codes "result")
  answer ← read_cell
  _ ← this_name (codes "error")
  error ← read_cell
  give (body.Service (service_of number x y z answer error))

-- fault N descriptor N unknown N
unfoldable pub read_errors : Reader ConvBody
read_errors = do
  _ ← this_name (codes "fault")
  fault ← number
  _ ← this_name (codes "descriptor")
  descriptor ← number
  _ ← this_name (codes "unknown")
  unknown ← number
  give (body.Errors fault descriptor unknown)

-- behind a name that is this word
unfoldable pub read_behind : LineWord → Reader ConvBody
read_behind line.Elf = number >>= (λ n. give (body.Elf n))
read_behind line.Stack = read_stack
read_behind line.Heap = read_heap
read_behind line.Service = read_service
read_behind line.Exit = number >>= (λ n. give (body.Exit n))
read_behind line.Read = number >>= (λ n. give (body.Read n))
read_behind line.Write = number >>= (λ n. give (body.Write n))
read_behind line.Brk = number >>= (λ n. give (body.Brk n))
read_behind line.Errors = read_errors
read_behind line.Link = read_cell >>= (λ cell. give (body.Link cell))
read_behind line.Call = any_name >>= (λ name. give (body.Call name))
read_behind line.Return = any_name >>= (λ name. give (body.Return name))
read_behind line.Entry = number >>= (λ n. give (body.Entry n))
read_behind line.Whole = number >>= (λ n. give (body.Whole n))
read_behind line.Pad = any_name >>= (λ name. give (body.Pad name))
read_behind line.Args = number >>= (λ n. give (body.Args n))
read_behind line.Other = fail

unfoldable pub read_body : Reader ConvBody
read_body (Name letters ∷ ts) = read_behind (line_word letters) ts
read_body ts = fails

-- a line and nothing behind it
abbrev pub read_line_only : Reader ConvBody
read_line_only = whole_line read_body
