-- The statements that compute a term, before the rest of a block.
use Rattle.std.specs.Prelude.{ℕ, suc, ◌+◌, Bool, true, false, max, List, [], ◌∷◌}
use Rattle.rtl_core.specs.declared.machine.Machine.{Machine}
use Rattle.rtl_core.specs.Arithmetic.{is_division}
use Rattle.rtl_core.specs.Terms.{Term, Const, Cell, Load, Unary, Binary, Slice, Zext, Sext, Choice, width_of}
use Rattle.c_lang.specs.declared.tree.COp.TheVariants.{Eq as Same}
use Rattle.c_lang.specs.declared.tree.Var.TheVariants.{Temp}
use Rattle.c_lang.specs.declared.tree.CExpr.{CExpr}
use Rattle.c_lang.specs.declared.tree.CExpr.TheVariants.{Num, Of, Bin as Op, Choose}
use Rattle.c_lang.specs.declared.tree.Stmt.{Stmt}
use Rattle.c_lang.specs.declared.tree.Stmt.TheVariants.{Set, Load as LoadInto, If, Stop as StopWith}
use Rattle.c_lower.specs.Cells.{cell_c}
use Rattle.c_lower.specs.Formula.{binary_c, unary_c, bits_c, sign_extended_c}

-- a temporary
abbrev pub temp : ℕ → CExpr
temp k = Of (Temp k)

-- a division by the temporary k stops where that is 0
abbrev pub guarded : Bool → ℕ → ℕ → List Stmt → List Stmt
guarded false pc k rest = rest
guarded true pc k rest = If (Op Same (temp k) (Num 0)) (StopWith 4 (Num pc) ∷ []) ∷ rest

-- the statements leave the term's value in the temporary k, and those below as they were
abbrev pub code : Machine → ℕ → Term → ℕ → List Stmt → List Stmt
code m pc (Const w n) k rest = Set (Temp k) (Num n) ∷ rest
code m pc (Cell c) k rest = Set (Temp k) (cell_c m.zero c) ∷ rest
code m pc (Load b a) k rest = code m pc a k (LoadInto (Temp k) b (temp k) ∷ rest)
code m pc (Unary op a) k rest = code m pc a k (Set (Temp k) (unary_c op (width_of m.widths a) (temp k)) ∷ rest)
code m pc (Binary op a b) k rest =
    code m pc a k (code m pc b (k + 1)
    (guarded (is_division op) pc (k + 1)
    (Set (Temp k) (binary_c op (width_of m.widths a) (temp k) (temp (k + 1))) ∷ rest)))
code m pc (Slice a lo hi) k rest = code m pc a k (Set (Temp k) (bits_c lo hi (temp k)) ∷ rest)
code m pc (Zext w a) k rest = code m pc a k rest
code m pc (Sext w a) k rest = code m pc a k (Set (Temp k) (sign_extended_c (width_of m.widths a) w (temp k)) ∷ rest)
code m pc (Choice c a b) k rest =
    code m pc c k (code m pc a (k + 1)
    (code m pc b (k + 2) (Set (Temp k) (Choose (temp k) (temp (k + 1)) (temp (k + 2))) ∷ rest)))

-- the most steps of a term's statements, and n more
abbrev pub steps : Term → ℕ → ℕ
steps (Const w x) n = suc n
steps (Cell c) n = suc n
steps (Load b a) n = steps a (suc n)
steps (Unary op a) n = steps a (suc n)
steps (Binary op a b) n = steps a (steps b (suc (suc n)))
steps (Slice a lo hi) n = steps a (suc n)
steps (Zext w a) n = steps a n
steps (Sext w a) n = steps a (suc n)
steps (Choice c a b) n = steps c (steps a (steps b (suc n)))

-- how many temporaries a term's statements take
abbrev pub need : Term → ℕ
need (Const w n) = 1
need (Cell c) = 1
need (Load b a) = need a
need (Unary op a) = need a
need (Binary op a b) = max (need a) (1 + need b)
need (Slice a lo hi) = need a
need (Zext w a) = need a
need (Sext w a) = need a
need (Choice c a b) = max (need c) (max (1 + need a) (2 + need b))

-- how many nodes a term has
abbrev pub nodes : Term → ℕ
nodes (Const w n) = 1
nodes (Cell c) = 1
nodes (Load b a) = nodes a + 1
nodes (Unary op a) = nodes a + 1
nodes (Binary op a b) = nodes a + nodes b + 1
nodes (Slice a lo hi) = nodes a + 1
nodes (Zext w a) = nodes a + 1
nodes (Sext w a) = nodes a + 1
nodes (Choice c a b) = nodes c + nodes a + nodes b + 1

-- how many constants and cells a term has
abbrev pub leaves : Term → ℕ
leaves (Const w n) = 1
leaves (Cell c) = 1
leaves (Load b a) = leaves a
leaves (Unary op a) = leaves a
leaves (Binary op a b) = leaves a + leaves b
leaves (Slice a lo hi) = leaves a
leaves (Zext w a) = leaves a
leaves (Sext w a) = leaves a
leaves (Choice c a b) = leaves c + leaves a + leaves b
