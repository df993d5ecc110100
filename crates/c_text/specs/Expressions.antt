-- How expressions are spelled.
use Rattle.std.specs.Prelude.{ℕ, List, [], ◌∷◌, ◌++◌, codes, flat_map}
use Rattle.std.specs.List.{join_by}
use Rattle.c_lang.specs.declared.tree.COp.{COp}
use Rattle.c_lang.specs.declared.tree.COp.TheVariants.{Add, Sub, Mul, Div, Rem, And, Or, Xor, Shl, Shr, Eq, Ne, Lt, Le}
use Rattle.c_lang.specs.declared.tree.CExpr.{CExpr, fold-CExpr}
use Rattle.c_lang.specs.declared.tree.CExpr.TheOpen.{CExpr-F}
use Rattle.c_lang.specs.declared.tree.Var.{Var}
use Rattle.c_text.specs.Tokens.{Token, name, long, sign, mark}
use Rattle.c_text.specs.Words.{var_word}

-- several things, each with a comma before it
abbrev pub commas : {A : Type 0} → (A → List Token) → List A → List Token
commas spell xs = flat_map (λ x. mark "," ∷ spell x) xs

-- several things with commas between them
abbrev pub listed : {A : Type 0} → (A → List Token) → List A → List Token
listed spell xs = join_by spell (mark "," ∷ []) xs

-- the sign of an operator
abbrev pub op_sign : COp → List ℕ
op_sign Add = codes "+"
op_sign Sub = codes "-"
op_sign Mul = codes "*"
op_sign Div = codes "/"
op_sign Rem = codes "%"
op_sign And = codes "&"
op_sign Or = codes "|"
op_sign Xor = codes "^"
op_sign Shl = codes "<<"
op_sign Shr = codes ">>"
op_sign Eq = codes "=="
op_sign Ne = codes "!="
op_sign Lt = codes "<"
op_sign Le = codes "<="

-- a variable
abbrev pub var_token : Var → Token
var_token v = name (var_word v)

-- an expression by the tokens of its parts
abbrev pub node_toks : CExpr-F (List Token) → List Token
node_toks (CExpr-F.Num n) = long n ∷ []
node_toks (CExpr-F.Of v) = var_token v ∷ []
node_toks (CExpr-F.Bin op a b) = mark "(" ∷ (a ++ sign (op_sign op) ∷ (b ++ mark ")" ∷ []))
node_toks (CExpr-F.Choose c a b) = mark "(" ∷ (c ++ mark "?" ∷ (a ++ mark ":" ∷ (b ++ mark ")" ∷ [])))

-- `Null`, `V`, `(E OP E)` or `(E ? E : E)`
unfoldable pub expr_toks : CExpr → List Token
expr_toks = fold-CExpr (List Token) node_toks
