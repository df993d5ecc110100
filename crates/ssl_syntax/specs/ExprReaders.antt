-- How the code reads expressions, one reader for each form.
use Rattle.std.specs.Prelude.{ℕ, zero, suc, ◌==◌, List, [], ◌∷◌, if◌then◌else◌}
use Rattle.text_lex.specs.declared.token.Token.{Token}
use Rattle.text_lex.specs.declared.token.Token.TheVariants.{Name, Number, Sign, Bad}
use Rattle.ssl_syntax.specs.declared.line.SslExpr.{SslExpr}
use Rattle.ssl_syntax.specs.declared.line.SslExpr.TheVariants as E
use Rattle.ssl_syntax.specs.declared.index.Index.{Index}
use Rattle.ssl_syntax.specs.declared.index.Index.TheVariants as index
use Rattle.ssl_syntax.specs.declared.words.Word.{Word}
use Rattle.ssl_syntax.specs.declared.words.Word.TheVariants as word
use Rattle.line_reading.specs.Signs.{next_sign, pc_sign, open_paren, close_paren, open_bracket, close_bracket, comma, colon, minus, tilde}
use Rattle.ssl_syntax.specs.Operators.{is_binary}
use Rattle.ssl_syntax.specs.Words.{word_of, is_free}
use Rattle.line_reading.specs.Readings.{Read, fails, reads, Reader, after, ◌>>=◌, give, fail, sign, chosen, number, ending, in_parens}

-- a number, or a name that is no reserved word
abbrev pub index_token : Reader Index
index_token (Number value ∷ ts) = reads (index.Number value) ts
index_token (Name letters ∷ ts) = if is_free letters then reads (index.Op letters) ts else fails
index_token ts = fails

-- NUMBER ] or OP ]
unfoldable pub read_index : Reader Index
read_index = do
  i ← index_token
  _ ← sign close_bracket
  give i

-- a binary operator
abbrev pub operator : Reader ℕ
operator (Sign found ∷ ts) = if is_binary found then reads found ts else fails
operator ts = fails

-- : W
unfoldable pub read_constant : ℕ → Reader SslExpr
read_constant value = do
  _ ← sign colon
  width ← number
  give (E.Number value width)

-- , LO , HI )
unfoldable pub read_range : SslExpr → Reader SslExpr
read_range a = do
  _ ← sign comma
  lo ← number
  _ ← sign comma
  hi ← number
  _ ← sign close_paren
  give (E.Bits a lo hi)

-- ( W ,
unfoldable pub read_width : Reader ℕ
read_width = do
  _ ← sign open_paren
  width ← number
  _ ← sign comma
  give width

-- the part of a file
abbrev pub part_of : List ℕ → Index → SslExpr
part_of name (index.Number value) = E.At name value
part_of name (index.Op letters) = E.AtOp name letters

-- what a reader of expressions reads one level deeper
module _ (inner : Reader SslExpr) where
  -- E and this sign
  unfoldable pub read_before : ℕ → Reader SslExpr
  read_before index = do
    a ← inner
    _ ← sign index
    give a

  -- [ E ]
  unfoldable pub read_load : ℕ → Reader SslExpr
  read_load bits = do
    _ ← sign open_bracket
    a ← read_before close_bracket
    give (E.Load bits a)

  -- ( E , LO , HI )
  unfoldable pub read_bits : Reader SslExpr
  read_bits = do
    _ ← sign open_paren
    a ← inner
    read_range a

  -- ( W , E )
  unfoldable pub read_extension : (ℕ → SslExpr → SslExpr) → Reader SslExpr
  read_extension extended = do
    width ← read_width
    a ← read_before close_paren
    give (extended width a)

  -- ( E , E , E )
  unfoldable pub read_choice : Reader SslExpr
  read_choice = do
    _ ← sign open_paren
    c ← read_before comma
    a ← read_before comma
    b ← read_before close_paren
    give (E.If c a b)

  -- E BIN E )
  unfoldable pub read_binary : Reader SslExpr
  read_binary = do
    a ← inner
    op ← operator
    b ← read_before close_paren
    give (E.Bin op a b)

  -- behind a name: [ NUMBER ], [ OP ], ( ARGS? ) or nothing
  unfoldable pub read_behind : List ℕ → Reader SslExpr
  read_behind name =
      chosen open_bracket (read_index >>= (λ i. give (part_of name i)))
      (chosen open_paren (in_parens inner >>= (λ args. give (E.Call name args)))
      (give (E.Named name)))

  -- behind a name that is this word
  unfoldable pub read_named : List ℕ → Word → Reader SslExpr
  read_named name (word.Load bits) = read_load bits
  read_named name word.Bits = read_bits
  read_named name word.Zext = read_extension E.Zext
  read_named name word.Sext = read_extension E.Sext
  read_named name word.If = read_choice
  read_named name word.Plain = read_behind name
  read_named name _ = fail

  -- behind this sign
  unfoldable pub read_signed : ℕ → Reader SslExpr
  read_signed found =
      if found == tilde then inner >>= (λ a. give (E.Not a))
      else (if found == minus then inner >>= (λ a. give (E.Neg a))
      else (if found == open_paren then read_binary
      else (if found == pc_sign then give E.Pc
      else (if found == next_sign then give E.Next else fail))))

  -- an expression by its first token
  unfoldable pub read_form : Reader SslExpr
  read_form [] = fails
  read_form (Number value ∷ ts) = read_constant value ts
  read_form (Name letters ∷ ts) = read_named letters (word_of letters) ts
  read_form (Sign found ∷ ts) = read_signed found ts
  read_form (Bad ∷ ts) = fails

-- an expression that nests less than so deep
unfoldable pub read_expr : ℕ → Reader SslExpr
read_expr zero = fail
read_expr (suc n) = read_form (read_expr n)
