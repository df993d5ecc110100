-- How statements are spelled.
use Rattle.std.specs.Prelude.{List, [], ◌∷◌, ◌++◌, flat_map}
use Rattle.c_lang.specs.declared.tree.CExpr.{CExpr}
use Rattle.c_lang.specs.declared.tree.Stmt.{Stmt, fold-Stmt}
use Rattle.c_lang.specs.declared.tree.Stmt.TheOpen.{Stmt-F}
use Rattle.c_text.specs.Tokens.{Token, name, plain, word, mark}
use Rattle.c_text.specs.Words.{function_word}
use Rattle.c_text.specs.Expressions.{expr_toks, listed, var_token}

-- if (E) {
abbrev pub condition_toks : CExpr → List Token
condition_toks e = word "if" ∷ mark "(" ∷ (expr_toks e ++ mark ")" ∷ mark "{" ∷ [])

-- a statement by the tokens of those within
abbrev pub node_stmt : Stmt-F (List Token) → List Token
-- V = E;
node_stmt (Stmt-F.Set v e) = var_token v ∷ mark "=" ∷ (expr_toks e ++ mark ";" ∷ [])
-- V = uq_load(N, E);
node_stmt (Stmt-F.Load v size e) =
    var_token v ∷ mark "=" ∷ word "uq_load" ∷ mark "(" ∷ plain size ∷ mark "," ∷ (expr_toks e ++ mark ")" ∷ mark ";" ∷ [])
-- uq_store(N, E, E);
node_stmt (Stmt-F.Store size a e) =
    word "uq_store" ∷ mark "(" ∷ plain size ∷ mark "," ∷ (expr_toks a ++ mark "," ∷ (expr_toks e ++ mark ")" ∷ mark ";" ∷ []))
-- V = uq_w[E];
node_stmt (Stmt-F.TakeW v e) =
    var_token v ∷ mark "=" ∷ word "uq_w" ∷ mark "[" ∷ (expr_toks e ++ mark "]" ∷ mark ";" ∷ [])
-- uq_w[E] = E;
node_stmt (Stmt-F.PutW a e) =
    word "uq_w" ∷ mark "[" ∷ (expr_toks a ++ mark "]" ∷ mark "=" ∷ (expr_toks e ++ mark ";" ∷ []))
-- uq_serve(E, E, E, E);
node_stmt (Stmt-F.Serve n x y z) =
    word "uq_serve" ∷ mark "(" ∷ (expr_toks n ++ mark "," ∷ (expr_toks x ++ mark "," ∷ (expr_toks y ++ mark "," ∷ (expr_toks z ++ mark ")" ∷ mark ";" ∷ []))))
-- f_X(E, ..);
node_stmt (Stmt-F.Call f es) =
    name (function_word f) ∷ mark "(" ∷ (listed expr_toks es ++ mark ")" ∷ mark ";" ∷ [])
-- if (E) { statements }
node_stmt (Stmt-F.If e inner) =
    condition_toks e ++ (flat_map (λ ts. ts) inner ++ mark "}" ∷ [])
-- uq_stop(N, E);
node_stmt (Stmt-F.Stop n e) =
    word "uq_stop" ∷ mark "(" ∷ plain n ∷ mark "," ∷ (expr_toks e ++ mark ")" ∷ mark ";" ∷ [])

-- the tokens of a statement
unfoldable pub stmt_toks : Stmt → List Token
stmt_toks = fold-Stmt (List Token) node_stmt
