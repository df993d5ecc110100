-- How the code reads lines, one reader for each form.
use Rattle.std.specs.Prelude.{ℕ, ◌==◌, Bool, true, false, List, [], ◌∷◌, drop, Option, Some, None, codes, if◌then◌else◌}
use Rattle.std.specs.Str.{bytes_eq}
use Rattle.text_lex.specs.declared.token.Token.{Token}
use Rattle.text_lex.specs.declared.token.Token.TheVariants.{Name, Number, Sign}
use Rattle.ssl_syntax.specs.declared.line.CellName.{CellName}
use Rattle.ssl_syntax.specs.declared.line.ViewPart.{ViewPart}
use Rattle.ssl_syntax.specs.declared.line.ViewPart.TheVariants as part
use Rattle.ssl_syntax.specs.declared.line.Param.{Param}
use Rattle.ssl_syntax.specs.declared.line.SslTransfer.{SslTransfer}
use Rattle.ssl_syntax.specs.declared.line.SslBody.{SslBody}
use Rattle.ssl_syntax.specs.declared.line.SslBody.TheVariants as body
use Rattle.ssl_syntax.specs.declared.files.FileHead.{FileHead}
use Rattle.ssl_syntax.specs.declared.words.LineWord.{LineWord}
use Rattle.ssl_syntax.specs.declared.words.LineWord.TheVariants as line
use Rattle.ssl_syntax.specs.declared.words.Word.TheVariants as word
use Rattle.line_reading.specs.Signs.{becomes, open_paren, close_paren, open_bracket, close_bracket, comma, semicolon, colon}
use Rattle.ssl_syntax.specs.Words.{line_word, word_bytes}
use Rattle.line_reading.specs.Readings.{Read, fails, reads, Reader, after, ◌>>=◌, give, fail, begins, sign, number, any_name, ending, items, in_parens, begins_name, this_name}
use Rattle.ssl_syntax.specs.TransferReaders.{read_whole, read_cell, read_limits, read_transfer}

-- NAME [ N ] W
abbrev pub file_head : List ℕ → ℕ → ℕ → FileHead
file_head name count width = record { name = name; count = count; width = width }

unfoldable pub read_file_head : Reader FileHead
read_file_head = do
  name ← any_name
  _ ← sign open_bracket
  count ← number
  _ ← sign close_bracket
  width ← number
  give (file_head name count width)

-- bits ( behind it CELL , LO , HI )
unfoldable pub read_bits_part : Reader ViewPart
read_bits_part = do
  cell ← read_cell
  limits ← read_limits
  give (part.Bits cell limits.lo limits.hi)

-- the part begins with `bits (`
abbrev pub begins_bits : List Token → Bool
begins_bits ts = if begins_name (word_bytes word.Bits) ts then begins open_paren (drop 1 ts) else false

-- what is left where `bits (` may stand in front
abbrev pub without_bits : List Token → List Token
without_bits ts = if begins_bits ts then drop 1 (drop 1 ts) else ts

unfoldable pub read_view_part : Reader ViewPart
read_view_part ts =
    if begins_bits ts then read_bits_part (drop 1 (drop 1 ts))
    else after (read_cell ts) (λ cell. give (part.Whole cell))

abbrev pub param_of : List ℕ → ℕ → Param
param_of name width = record { name = name; width = width }

-- P : W
unfoldable pub read_param : Reader Param
read_param = do
  name ← any_name
  _ ← sign colon
  width ← number
  give (param_of name width)

-- yes or no
unfoldable pub read_align : Reader SslBody
read_align ts =
    if begins_name (codes "yes") ts then reads (body.Align true) (drop 1 ts)
    else after (this_name (codes "no") ts) (λ _. give (body.Align false))

-- no or L
unfoldable pub read_delay : Reader SslBody
read_delay ts =
    if begins_name (codes "no") ts then reads (body.Delay None) (drop 1 ts)
    else after (number ts) (λ bytes. give (body.Delay (Some bytes)))

-- NAME W
unfoldable pub read_single : Reader SslBody
read_single = do
  name ← any_name
  width ← number
  give (body.Cell name width)

-- NAME [ N ] W
unfoldable pub read_cells : Reader SslBody
read_cells = read_file_head >>= (λ head. give (body.Cells head.name head.count head.width))

-- NAME [ N ] W is REF , REF
unfoldable pub read_view : Reader SslBody
read_view = do
  head ← read_file_head
  _ ← this_name (codes "is")
  parts ← items comma read_view_part
  give (body.View head.name head.count head.width parts)

-- CELL
unfoldable pub read_zero : Reader SslBody
read_zero = read_cell >>= (λ cell. give (body.Zero cell))

-- CELL CELL CELL N
unfoldable pub read_windows : Reader SslBody
read_windows = do
  out_first ← read_cell
  local_first ← read_cell
  in_first ← read_cell
  count ← number
  give (body.Windows out_first local_first in_first count)

-- NAME ( P : W , P : W ) := E
unfoldable pub read_function : Reader SslBody
read_function = do
  name ← any_name
  _ ← sign open_paren
  params ← in_parens read_param
  _ ← sign becomes
  value ← read_whole
  give (body.Function name params value)

-- NAME ( OP , OP ) := E
unfoldable pub read_operand : Reader SslBody
read_operand = do
  name ← any_name
  _ ← sign open_paren
  ops ← in_parens any_name
  _ ← sign becomes
  value ← read_whole
  give (body.Operand name ops value)

-- none, or transfers with semicolons between them
unfoldable pub read_transfers : Reader (List SslTransfer)
read_transfers ts = if begins_name (word_bytes word.Nothing) ts then reads [] (drop 1 ts) else items semicolon read_transfer ts

-- NAME ( OP , OP ) := T ; T
unfoldable pub read_instruction : Reader SslBody
read_instruction = do
  name ← any_name
  _ ← sign open_paren
  ops ← in_parens any_name
  _ ← sign becomes
  transfers ← read_transfers
  give (body.Instruction name ops transfers)

-- behind a name that is this word of lines
unfoldable pub read_line : LineWord → Reader SslBody
read_line line.Align = read_align
read_line line.Delay = read_delay
read_line line.Cell = read_single
read_line line.Cells = read_cells
read_line line.View = read_view
read_line line.Zero = read_zero
read_line line.Windows = read_windows
read_line line.Function = read_function
read_line line.Operand = read_operand
read_line line.Instruction = read_instruction
read_line line.Other = fail

unfoldable pub read_body : Reader SslBody
read_body (Name letters ∷ ts) = read_line (line_word letters) ts
read_body ts = fails
