-- The items of a C text behind its first line: how each is read, and which may stand next.
use Rattle.std.specs.Prelude.{◌≡◌, ℕ, ◌+◌, ◌<◌, ◌^◌, ◌==◌, List, [], ◌∷◌, ◌++◌, flat_map, length, Option, Some, None, option_and_then, if◌then◌else◌}
use Rattle.std.specs.List.{All}
use Rattle.c_lang.specs.Items.{Array, Prototype, Item, Machine, Segment, Table, Declared, Defined, Main}
use Rattle.c_lang.specs.Spellable.{ItemHasForm}
use Rattle.c_text.specs.Tokens.{Token, long, mark, plain, word}
use Rattle.c_text.specs.Expressions.{listed}
use Rattle.c_text.specs.Words.{segment_word}
use Rattle.c_text.specs.Items.{item_toks, no_address}
use Rattle.c_scan.specs.Names.{segment_of}
use Rattle.c_scan.specs.Readings.{Reader, followed, at, Syntax, exactly, name_of, plain_number, long_number, number_below}
use Rattle.c_read.specs.declared.pieces.Piece.{Piece}
use Rattle.c_read.specs.declared.pieces.Piece.TheVariants as piece
use Rattle.c_read.specs.declared.pieces.Stage.{Stage}
use Rattle.c_read.specs.declared.pieces.Stage.TheVariants as stage
use Rattle.c_read.specs.Combined.{in_turn, before, behind, comma_list, comma_rest, mapped}
use Rattle.c_read.specs.Statements.{function}
use Rattle.c_read.specs.Functions.{read_body, read_head}

-- ---- what an item is

-- a piece as an item; its place among those of its kind is not told by its tokens, but for a segment
abbrev pub item : Piece → Item
item (piece.Machine a) = Machine a
item (piece.Segment k a) = Segment k a
item (piece.Table a) = Table a
item (piece.Declared p) = Declared 0 p
item (piece.Defined f) = Defined 0 f
item (piece.Main entry first) = Main entry first

-- how a piece is spelled
abbrev pub piece_toks : Piece → List Token
piece_toks p = item_toks (item p)

-- the piece has a form
abbrev pub IsPiece : Piece → Type 0
IsPiece p = ItemHasForm (item p)

-- ---- which item may stand next

-- Where an item may stand, and the stage behind it. First comes `uq_machine`, then each segment at its place and `uq_segs`;
-- prototypes follow, then functions, and `uq_main` closes the text.
abbrev pub next : Stage → Piece → Option Stage
next stage.Start (piece.Machine a) = Some (stage.Segments 0)
next (stage.Segments k) (piece.Segment j a) = if j == k then Some (stage.Segments (k + 1)) else None
next (stage.Segments k) (piece.Table a) = Some stage.Declaring
next stage.Declaring (piece.Declared p) = Some stage.Declaring
next stage.Declaring (piece.Defined f) = Some stage.Defining
next stage.Declaring (piece.Main entry first) = Some stage.Over
next stage.Defining (piece.Defined f) = Some stage.Defining
next stage.Defining (piece.Main entry first) = Some stage.Over
next s p = None

-- the stage behind a row of items
abbrev pub along : Stage → List Piece → Option Stage
along s [] = Some s
along s (p ∷ ps) = option_and_then (λ t. along t ps) (next s p)

-- ---- readings of a list of tokens

-- a reading so far: these items, the stage behind them, and the tokens left
pub record Stand (given : List Token) (ps : List Piece) (s : Stage) (rest : List Token) : Type 0 where
  pub spelled : given ≡ flat_map piece_toks ps ++ rest
  pub proper : All IsPiece ps
  pub stages : along stage.Start ps ≡ Some s

-- so many items stand, and no item that may stand next begins what is left, or something is left behind `uq_main`
pub record IsBadItem (given : List Token) (k : ℕ) : Type 0 where
  pub before : List Piece
  pub reached : Stage
  pub rest : List Token
  pub stand : Stand given before reached rest
  pub number : k ≡ length before
  pub stuck : (p : Piece) (t : Stage) (r : List Token) → IsPiece p → next reached p ≡ Some t → rest ≡ piece_toks p ++ r → ⊥
  pub unfinished : reached ≡ stage.Over → rest ≡ [] → ⊥

-- ---- readers of items

-- [ N ] = { N, .. } ; with numbers below a bound
abbrev pub array : ℕ → Syntax (ℕ × List ℕ)
array bound =
    before (mark "[") (in_turn plain_number (before (mark "]") (before (mark "=") (before (mark "{") (behind (comma_list (mark "}") (number_below bound)) (mark ";"))))))

-- the array that declares a length and has some numbers
abbrev pub made_array : ℕ × List ℕ → Array
made_array x = record { declared = x.0; numbers = x.1 }

-- an array behind its name, read
unfoldable pub read_array : ℕ → Reader Array
read_array bound given = mapped made_array ((array bound).read given)

-- the tokens of an array behind its name
abbrev pub array_behind : Array → List Token
array_behind a = mark "[" ∷ plain a.declared ∷ mark "]" ∷ mark "=" ∷ mark "{" ∷ (listed (λ n. plain n ∷ []) a.numbers ++ mark "}" ∷ mark ";" ∷ [])

-- an array behind its name, both ways
abbrev pub array_syntax : ℕ → Syntax Array
array_syntax bound = record { spell = array_behind; read = read_array bound }

-- behind `const u64`; numbers of `uq_machine` and of `uq_segs` have 32 bits
unfoldable pub read_words : Reader Piece
read_words given =
    if at (word "uq_machine") given then mapped piece.Machine ((before (word "uq_machine") (array_syntax (2 ^ 32))).read given)
    else mapped piece.Table ((before (word "uq_segs") (array_syntax (2 ^ 32))).read given)

-- u8 uq_seg_K and its array of bytes, behind `const`
abbrev pub segment : Syntax (ℕ × Array)
segment = before (word "u8") (in_turn (name_of segment_word segment_of) (array_syntax 256))

-- what follows `const`
unfoldable pub read_typed : Reader Piece
read_typed given = if at (word "u8") given then mapped (λ x. piece.Segment x.0 x.1) (segment.read given) else followed ((exactly (word "u64")).read given) (λ _. read_words)

-- what follows a head: `;` or a body
unfoldable pub read_behind_head : Prototype → Reader Piece
read_behind_head p given = if at (mark ";") given then mapped (λ _. piece.Declared p) ((exactly (mark ";")).read given) else mapped piece.Defined (read_body p given)

-- `uq_main` with the first call
abbrev pub main : Syntax (ℕ × List ℕ)
main =
    before (word "uq_main") (before (mark "(") (before (word "void") (before (mark ")") (before (mark "{")
    (in_turn function (before (mark "(") (before (long no_address) (behind (behind (comma_rest long_number (mark ")")) (mark ";")) (mark "}")))))))))

-- `uq_main`, read
unfoldable pub read_main : Reader Piece
read_main given = mapped (λ x. piece.Main x.0 x.1) (main.read given)

-- what follows `void`
unfoldable pub read_void : Reader Piece
read_void given = if at (word "uq_main") given then read_main given else followed (read_head given) read_behind_head

-- `const` begins arrays, and `void` functions
unfoldable pub read_piece : Reader Piece
read_piece given = if at (word "const") given then followed ((exactly (word "const")).read given) (λ _. read_typed) else followed ((exactly (word "void")).read given) (λ _. read_void)

-- there is room for one segment more
abbrev pub IsNear : Stage → Type 0
IsNear (stage.Segments k) = k + 1 < 2 ^ 64
IsNear s = Unit {0}
