-- How the code reads transfers, one reader for each form.
use Rattle.std.specs.Prelude.{ℕ, ◌==◌, Bool, true, false, List, [], ◌∷◌, Option, Some, None, if◌then◌else◌}
use Rattle.text_lex.specs.declared.token.Token.{Token}
use Rattle.text_lex.specs.declared.token.Token.TheVariants.{Name, Number, Sign}
use Rattle.ssl_syntax.specs.declared.line.CellName.{CellName}
use Rattle.ssl_syntax.specs.declared.line.SslPlace.{SslPlace}
use Rattle.ssl_syntax.specs.declared.line.SslPlace.TheVariants as place
use Rattle.ssl_syntax.specs.declared.line.SslAct.{SslAct}
use Rattle.ssl_syntax.specs.declared.line.SslAct.TheVariants as act
use Rattle.ssl_syntax.specs.declared.line.SslExpr.{SslExpr}
use Rattle.ssl_syntax.specs.declared.line.SslTransfer.{SslTransfer}
use Rattle.ssl_syntax.specs.declared.index.Index.{Index}
use Rattle.ssl_syntax.specs.declared.index.Index.TheVariants as index
use Rattle.ssl_syntax.specs.declared.cells.Limits.{Limits}
use Rattle.ssl_syntax.specs.declared.words.Word.{Word}
use Rattle.ssl_syntax.specs.declared.words.Word.TheVariants as word
use Rattle.line_reading.specs.Signs.{becomes, guards, open_paren, close_paren, open_bracket, close_bracket, comma, star}
use Rattle.ssl_syntax.specs.Words.{is_free, word_of}
use Rattle.line_reading.specs.Readings.{Read, fails, reads, Reader, after, ◌>>=◌, give, fail, only_if, sign, chosen, number, any_name}
use Rattle.ssl_syntax.specs.ExprReaders.{read_expr, read_index}

-- an expression that stands in a line by itself
unfoldable pub read_whole : Reader SslExpr
read_whole = read_expr 2001

abbrev pub cell_of : List ℕ → Option ℕ → CellName
cell_of name index = record { name = name; index = index }

abbrev pub limits_of : ℕ → ℕ → Limits
limits_of lo hi = record { lo = lo; hi = hi }

-- NAME or NAME [ NUMBER ]
unfoldable pub read_cell : Reader CellName
read_cell = any_name >>= (λ name.
    chosen open_bracket (number >>= (λ index. sign close_bracket >>= (λ _. give (cell_of name (Some index))))) (give (cell_of name None)))

-- , LO , HI )
unfoldable pub read_limits : Reader Limits
read_limits = do
  _ ← sign comma
  lo ← number
  _ ← sign comma
  hi ← number
  _ ← sign close_paren
  give (limits_of lo hi)

-- the part of a file as a place
abbrev pub place_part : List ℕ → Index → SslPlace
place_part name (index.Number value) = place.At name value
place_part name (index.Op letters) = place.AtOp name letters

-- [ E ]
unfoldable pub read_store : ℕ → Reader SslPlace
read_store bits = do
  _ ← sign open_bracket
  address ← read_whole
  _ ← sign close_bracket
  give (place.Load bits address)

-- ( CELL , LO , HI )
unfoldable pub read_cell_bits : Reader SslPlace
read_cell_bits = do
  _ ← sign open_paren
  cell ← read_cell
  only_if (is_free cell.name) (read_limits >>= (λ limits. give (place.Bits cell limits.lo limits.hi)))

-- behind the name of a place: [ NUMBER ], [ OP ] or nothing
unfoldable pub read_part : List ℕ → Reader SslPlace
read_part name = chosen open_bracket (read_index >>= (λ i. give (place_part name i))) (give (place.Named name))

-- behind a name that is this word
unfoldable pub read_place_behind : List ℕ → Word → Reader SslPlace
read_place_behind name (word.Load bits) = read_store bits
read_place_behind name word.Bits = read_cell_bits
read_place_behind name word.Plain = read_part name
read_place_behind name _ = fail

unfoldable pub read_place : Reader SslPlace
read_place (Name letters ∷ ts) = read_place_behind letters (word_of letters) ts
read_place ts = fails

-- W * PLACE := E
unfoldable pub read_assignment : Reader SslAct
read_assignment = do
  width ← number
  _ ← sign star
  to ← read_place
  _ ← sign becomes
  value ← read_whole
  give (act.Assign width to value)

-- behind a name that is this word
unfoldable pub read_act_behind : Word → Reader SslAct
read_act_behind word.Jump = read_whole >>= (λ target. give (act.Jump target))
read_act_behind word.Annul = give act.Annul
read_act_behind word.Trap = read_whole >>= (λ number. give (act.Trap number))
read_act_behind word.Service = give act.Service
read_act_behind word.WinSave = give act.WinSave
read_act_behind word.WinRestore = give act.WinRestore
read_act_behind _ = fail

unfoldable pub read_act : Reader SslAct
read_act (Name letters ∷ ts) = read_act_behind (word_of letters) ts
read_act (Sign found ∷ ts) = if found == star then read_assignment ts else fails
read_act ts = fails

-- a word with which an act begins
abbrev pub is_act_word : Word → Bool
is_act_word word.Jump = true
is_act_word word.Annul = true
is_act_word word.Trap = true
is_act_word word.Service = true
is_act_word word.WinSave = true
is_act_word word.WinRestore = true
is_act_word _ = false

-- no guard stands here
unfoldable pub begins_act : List Token → Bool
begins_act (Name letters ∷ ts) = is_act_word (word_of letters)
begins_act (Sign found ∷ ts) = found == star
begins_act ts = false

abbrev pub transfer_of : Option SslExpr → SslAct → SslTransfer
transfer_of guard act = record { guard = guard; act = act }

-- E => ACT
unfoldable pub read_guarded : Reader SslTransfer
read_guarded = do
  guard ← read_whole
  _ ← sign guards
  a ← read_act
  give (transfer_of (Some guard) a)

unfoldable pub read_transfer : Reader SslTransfer
read_transfer ts = if begins_act ts then after (read_act ts) (λ a. give (transfer_of None a)) else read_guarded ts
