-- How statements are read. Each `if` uses up one of those that are allowed around a statement.
use Rattle.std.specs.Prelude.{◌≡◌, ℕ, zero, suc, ◌<◌, ◌≤◌, List, if◌then◌else◌}
use Rattle.c_lang.specs.declared.tree.CExpr.{CExpr}
use Rattle.c_lang.specs.declared.tree.Stmt.{Stmt}
use Rattle.c_lang.specs.declared.tree.Stmt.TheVariants as S
use Rattle.c_lang.specs.declared.tree.Var.{Var}
use Rattle.c_lang.specs.Spellable.{ifs, deepest, stmt_misfits}
use Rattle.c_text.specs.Tokens.{mark, word}
use Rattle.c_text.specs.Words.{function_word}
use Rattle.c_text.specs.Statements.{stmt_toks}
use Rattle.c_scan.specs.Readings.{refuses, Reader, followed, at, Syntax, name_of, plain_number, at_function}
use Rattle.c_read.specs.Combined.{in_turn, before, behind, comma_list, mapped, many_until}
use Rattle.c_scan.specs.Names.{function_of}
use Rattle.c_read.specs.Expressions.{expr, variable}

-- a statement of less than so many levels, whose expressions nest no deeper than they may and whose numbers fit
pub record IsStmt (n : ℕ) (s : Stmt) : Type 0 where
  pub nested : ifs s < n
  pub exprs : deepest s ≤ 2000
  pub fits : stmt_misfits s ≡ 0

-- a function by its name
abbrev pub function : Syntax ℕ
function = name_of function_word function_of

-- E ;
abbrev pub value : Syntax CExpr
value = behind expr (mark ";")

-- E ) ; where the last part of a call is an expression
abbrev pub closing : Syntax CExpr
closing = behind (behind expr (mark ")")) (mark ";")

-- ( N , E ) ; of a call of a number and an expression
abbrev pub number_and_value : Syntax (ℕ × CExpr)
number_and_value = before (mark "(") (in_turn plain_number (before (mark ",") closing))

-- the call of `uq_load`
abbrev pub load : Syntax (ℕ × CExpr)
load = before (word "uq_load") number_and_value

-- a word of the window, read
abbrev pub window : Syntax CExpr
window = before (word "uq_w") (before (mark "[") (behind (behind expr (mark "]")) (mark ";")))

-- the call of `uq_store`
abbrev pub store : Syntax (ℕ × (CExpr × CExpr))
store = before (word "uq_store") (before (mark "(") (in_turn plain_number (before (mark ",") (in_turn expr (before (mark ",") closing)))))

-- a word of the window, written
abbrev pub put : Syntax (CExpr × CExpr)
put = before (word "uq_w") (before (mark "[") (in_turn (behind (behind expr (mark "]")) (mark "=")) (behind expr (mark ";"))))

-- the call of `uq_serve`
abbrev pub serve : Syntax (CExpr × (CExpr × (CExpr × CExpr)))
serve =
    before (word "uq_serve") (before (mark "(") (in_turn expr (before (mark ",") (in_turn expr (before (mark ",") (in_turn expr (before (mark ",")
    closing)))))))

-- the call of `uq_stop`
abbrev pub stop : Syntax (ℕ × CExpr)
stop = before (word "uq_stop") number_and_value

-- the call of a function
abbrev pub call : Syntax (ℕ × List CExpr)
call = in_turn function (before (mark "(") (behind (comma_list (mark ")") expr) (mark ";")))

-- a condition
abbrev pub condition : Syntax CExpr
condition = before (word "if") (before (mark "(") (behind expr (mark ")")))

-- a statement within, by the reader of its level
abbrev pub deeper_stmt : Reader Stmt → Syntax Stmt
deeper_stmt inner = record { spell = stmt_toks; read = inner }

-- the body of an `if`, and its closing brace
abbrev pub stmts_within : Reader Stmt → Syntax (List Stmt)
stmts_within inner = many_until (mark "}") (deeper_stmt inner)

-- a body in braces
abbrev pub in_braces : Reader Stmt → Syntax (List Stmt)
in_braces inner = before (mark "{") (stmts_within inner)

-- a load into a variable, behind `V =`
unfoldable pub read_loaded : Var → Reader Stmt
read_loaded v given = mapped (λ x. S.Load v x.0 x.1) (load.read given)

-- a word of the window into a variable, behind `V =`
unfoldable pub read_word_taken : Var → Reader Stmt
read_word_taken v given = mapped (S.TakeW v) (window.read given)

-- an expression into a variable, behind `V =`
unfoldable pub read_assigned : Var → Reader Stmt
read_assigned v given = mapped (S.Set v) (value.read given)

-- a store
unfoldable pub read_stored : Reader Stmt
read_stored given = mapped (λ x. S.Store x.0 x.1.0 x.1.1) (store.read given)

-- a word put into the window
unfoldable pub read_word_put : Reader Stmt
read_word_put given = mapped (λ x. S.PutW x.0 x.1) (put.read given)

-- a service
unfoldable pub read_service : Reader Stmt
read_service given = mapped (λ x. S.Serve x.0 x.1.0 x.1.1.0 x.1.1.1) (serve.read given)

-- a stop
unfoldable pub read_stopped : Reader Stmt
read_stopped given = mapped (λ x. S.Stop x.0 x.1) (stop.read given)

-- a call
unfoldable pub read_called : Reader Stmt
read_called given = mapped (λ x. S.Call x.0 x.1) (call.read given)

-- an `if`, by the reader of its body's statements
unfoldable pub read_guarded : Reader Stmt → Reader Stmt
read_guarded inner given = mapped (λ x. S.If x.0 x.1) ((in_turn condition (in_braces inner)).read given)

-- where a variable and `=` stand in front
unfoldable pub read_right_side : Var → Reader Stmt
read_right_side v given = if at (word "uq_load") given then read_loaded v given else (if at (word "uq_w") given then read_word_taken v given else read_assigned v given)

-- the first name tells the form
unfoldable pub read_by_first : Reader Stmt → Reader Stmt
read_by_first inner given =
    if at (word "uq_store") given then read_stored given
    else (if at (word "uq_w") given then read_word_put given
    else (if at (word "uq_serve") given then read_service given
    else (if at (word "uq_stop") given then read_stopped given
    else (if at (word "if") given then read_guarded inner given
    else (if at_function given then read_called given
    else followed ((behind variable (mark "=")).read given) read_right_side)))))

-- a statement of at most so many levels
unfoldable pub read_statement : ℕ → Reader Stmt
read_statement zero given = refuses
read_statement (suc n) given = read_by_first (read_statement n) given
