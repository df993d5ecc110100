-- How expressions are spelled, and which trees are expressions.
use Rattle.std.specs.Prelude.{ℕ, ◌+◌, ◌≡◌, ◌&&◌, Bool, true, max, nat_le, List, [], ◌∷◌, ◌++◌}
use Rattle.std.specs.List.{list_all}
use Rattle.text_lex.specs.declared.token.Token.{Token}
use Rattle.text_lex.specs.declared.token.Token.TheVariants.{Name, Number, Sign}
use Rattle.ssl_syntax.specs.declared.line.SslExpr.{SslExpr, fold-SslExpr}
use Rattle.ssl_syntax.specs.declared.line.SslExpr.TheOpen.{SslExpr-F}
use Rattle.ssl_syntax.specs.declared.words.Word.TheVariants as word
use Rattle.line_reading.specs.Signs.{next_sign, pc_sign, open_paren, close_paren, open_bracket, close_bracket, comma, colon, minus, tilde}
use Rattle.ssl_syntax.specs.Operators.{is_binary}
use Rattle.ssl_syntax.specs.Words.{is_load, load_word, word_bytes, is_free}
use Rattle.line_reading.specs.Spelling.{listed}

-- an expression by the tokens of its parts
abbrev pub node_toks : SslExpr-F (List Token) → List Token
-- NUMBER : W
node_toks (SslExpr-F.Number value width) = Number value ∷ Sign colon ∷ Number width ∷ []
-- NAME
node_toks (SslExpr-F.Named name) = Name name ∷ []
-- NAME [ NUMBER ]
node_toks (SslExpr-F.At name index) = Name name ∷ Sign open_bracket ∷ Number index ∷ Sign close_bracket ∷ []
-- NAME [ OP ]
node_toks (SslExpr-F.AtOp name op) = Name name ∷ Sign open_bracket ∷ Name op ∷ Sign close_bracket ∷ []
-- m8 [ E ]
node_toks (SslExpr-F.Load bits a) = Name (load_word bits) ∷ Sign open_bracket ∷ (a ++ Sign close_bracket ∷ [])
-- ~ E
node_toks (SslExpr-F.Not a) = Sign tilde ∷ a
-- - E
node_toks (SslExpr-F.Neg a) = Sign minus ∷ a
-- ( E BIN E )
node_toks (SslExpr-F.Bin op a b) = Sign open_paren ∷ (a ++ Sign op ∷ (b ++ Sign close_paren ∷ []))
-- bits ( E , LO , HI )
node_toks (SslExpr-F.Bits a lo hi) =
    Name (word_bytes word.Bits) ∷ Sign open_paren ∷ (a ++ Sign comma ∷ Number lo ∷ Sign comma ∷ Number hi ∷ Sign close_paren ∷ [])
-- zx ( W , E )
node_toks (SslExpr-F.Zext width a) = Name (word_bytes word.Zext) ∷ Sign open_paren ∷ Number width ∷ Sign comma ∷ (a ++ Sign close_paren ∷ [])
-- sx ( W , E )
node_toks (SslExpr-F.Sext width a) = Name (word_bytes word.Sext) ∷ Sign open_paren ∷ Number width ∷ Sign comma ∷ (a ++ Sign close_paren ∷ [])
-- if ( E , E , E )
node_toks (SslExpr-F.If c a b) =
    Name (word_bytes word.If) ∷ Sign open_paren ∷ (c ++ Sign comma ∷ (a ++ Sign comma ∷ (b ++ Sign close_paren ∷ [])))
-- NAME ( ARGS? )
node_toks (SslExpr-F.Call name args) = Name name ∷ Sign open_paren ∷ (listed comma (λ ts. ts) args ++ Sign close_paren ∷ [])
-- %pc
node_toks SslExpr-F.Pc = Sign pc_sign ∷ []
-- %next
node_toks SslExpr-F.Next = Sign next_sign ∷ []

-- the tokens of an expression
unfoldable pub expr_toks : SslExpr → List Token
expr_toks = fold-SslExpr (List Token) node_toks

-- a node is formed well where its parts are
abbrev pub node_formed : SslExpr-F Bool → Bool
node_formed (SslExpr-F.Number value width) = true
node_formed (SslExpr-F.Named name) = is_free name
node_formed (SslExpr-F.At name index) = is_free name
node_formed (SslExpr-F.AtOp name op) = is_free name && is_free op
node_formed (SslExpr-F.Load bits a) = is_load bits && a
node_formed (SslExpr-F.Not a) = a
node_formed (SslExpr-F.Neg a) = a
node_formed (SslExpr-F.Bin op a b) = is_binary op && (a && b)
node_formed (SslExpr-F.Bits a lo hi) = a
node_formed (SslExpr-F.Zext width a) = a
node_formed (SslExpr-F.Sext width a) = a
node_formed (SslExpr-F.If c a b) = c && (a && b)
node_formed (SslExpr-F.Call name args) = is_free name && list_all (λ a. a) args
node_formed SslExpr-F.Pc = true
node_formed SslExpr-F.Next = true

-- no name is a reserved word, each load has bits that a load can have, each operator is a binary one
unfoldable pub is_formed : SslExpr → Bool
is_formed = fold-SslExpr Bool node_formed

-- one level above the deepest of these
abbrev pub above : List ℕ → ℕ
above [] = 0
above (n ∷ ns) = max (n + 1) (above ns)

-- how deep a node is, by the depths of its parts
abbrev pub node_depth : SslExpr-F ℕ → ℕ
node_depth (SslExpr-F.Load bits a) = a + 1
node_depth (SslExpr-F.Not a) = a + 1
node_depth (SslExpr-F.Neg a) = a + 1
node_depth (SslExpr-F.Bin op a b) = max a b + 1
node_depth (SslExpr-F.Bits a lo hi) = a + 1
node_depth (SslExpr-F.Zext width a) = a + 1
node_depth (SslExpr-F.Sext width a) = a + 1
node_depth (SslExpr-F.If c a b) = max c (max a b) + 1
node_depth (SslExpr-F.Call name args) = above args
node_depth _ = 0

-- inside how many others its deepest part stands
unfoldable pub depth : SslExpr → ℕ
depth = fold-SslExpr ℕ node_depth

-- an expression that may stand in a line
unfoldable pub is_expr : SslExpr → Bool
is_expr e = is_formed e && nat_le (depth e) 2000
