-- How expressions are read. Each level uses up one of those that are allowed, so that reading ends at any text.
use Rattle.std.specs.Prelude.{◌≡◌, ℕ, zero, suc, ◌<◌, if◌then◌else◌}
use Rattle.c_lang.specs.declared.tree.CExpr.{CExpr}
use Rattle.c_lang.specs.declared.tree.CExpr.TheVariants as E
use Rattle.c_lang.specs.declared.tree.COp.{COp}
use Rattle.c_lang.specs.declared.tree.Var.{Var}
use Rattle.c_lang.specs.Spellable.{nesting, expr_misfits}
use Rattle.c_text.specs.Tokens.{mark}
use Rattle.c_text.specs.Words.{var_word}
use Rattle.c_text.specs.Expressions.{expr_toks, op_sign}
use Rattle.c_scan.specs.Readings.{refuses, Reader, followed, at, at_name, Syntax, name_of, sign_of, long_number}
use Rattle.c_scan.specs.Names.{var_of, operator_of}
use Rattle.c_read.specs.Combined.{in_turn, before, behind, mapped}

-- an expression of less than so many levels, whose numbers fit
pub record IsExpr (n : ℕ) (e : CExpr) : Type 0 where
  pub depth : nesting e < n
  pub fits : expr_misfits e ≡ 0

-- a variable by its name
abbrev pub variable : Syntax Var
variable = name_of var_word var_of

-- an operator by its sign
abbrev pub operator : Syntax COp
operator = sign_of op_sign operator_of

-- a part of an expression, by the reader of its level
abbrev pub inside : Reader CExpr → Syntax CExpr
inside inner = record { spell = expr_toks; read = inner }

-- the two ways of a choice
abbrev pub branches : Reader CExpr → Syntax (CExpr × CExpr)
branches inner = before (mark "?") (in_turn (inside inner) (before (mark ":") (behind (inside inner) (mark ")"))))

-- an operator and its second part
abbrev pub operand : Reader CExpr → Syntax (COp × CExpr)
operand inner = in_turn operator (behind (inside inner) (mark ")"))

-- what follows an open parenthesis and a first part
unfoldable pub read_behind_first : Reader CExpr → CExpr → Reader CExpr
read_behind_first inner a given =
    if at (mark "?") given then mapped (λ x. E.Choose a x.0 x.1) ((branches inner).read given) else mapped (λ x. E.Bin x.0 a x.1) ((operand inner).read given)

-- `(` begins a larger one, a name a variable, and else it is a number
unfoldable pub read_by_first : Reader CExpr → Reader CExpr
read_by_first inner given =
    if at (mark "(") given then followed ((before (mark "(") (inside inner)).read given) (read_behind_first inner)
    else (if at_name given then mapped E.Of (variable.read given) else mapped E.Num (long_number.read given))

-- an expression of less than so many levels
unfoldable pub read_expr : ℕ → Reader CExpr
read_expr zero given = refuses
read_expr (suc n) given = read_by_first (read_expr n) given

-- an expression that stands inside at most 2,000 others
abbrev pub expr : Syntax CExpr
expr = inside (read_expr 2001)
