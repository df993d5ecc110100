-- A choice among procedures by the target of a jump: nested conditions, each of which leaves one half.
use Rattle.std.specs.Prelude.{ℕ, suc, nat_lt, max, if◌then◌else◌, List, [], ◌∷◌}
use Rattle.c_lang.specs.declared.tree.COp.TheVariants.{Lt, Le}
use Rattle.c_lang.specs.declared.tree.CExpr.{CExpr}
use Rattle.c_lang.specs.declared.tree.CExpr.TheVariants.{Num, Of, Bin}
use Rattle.c_lang.specs.declared.tree.Stmt.{Stmt}
use Rattle.c_lang.specs.declared.tree.Stmt.TheVariants.{If}
use Rattle.c_lang.specs.declared.tree.Var.TheVariants.{Pt}

-- the procedures, halved again and again: below the middle, or at it and above
pub data Tree : Type 0 where
  Leaf : (entry : ℕ) → Tree
  Node : (middle : ℕ) → (low high : Tree) → Tree

-- the procedure that a target leads to
abbrev pub leaf_of : Tree → ℕ → ℕ
leaf_of (Leaf entry) x = entry
leaf_of (Node middle low high) x = if nat_lt x middle then leaf_of low x else leaf_of high x

-- how many conditions stand inside one another
abbrev pub levels : Tree → ℕ
levels (Leaf entry) = 0
levels (Node middle low high) = suc (max (levels low) (levels high))

abbrev pub is_low : ℕ → CExpr
is_low middle = Bin Lt (Of Pt) (Num middle)

abbrev pub is_high : ℕ → CExpr
is_high middle = Bin Le (Num middle) (Of Pt)

-- statements for the procedure that `pt` leads to, and then some more
abbrev pub choose_c : (ℕ → List Stmt → List Stmt) → Tree → List Stmt → List Stmt
choose_c leaf (Leaf entry) rest = leaf entry rest
choose_c leaf (Node middle low high) rest = If (is_low middle) (choose_c leaf low []) ∷ If (is_high middle) (choose_c leaf high []) ∷ rest
