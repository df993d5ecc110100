-- Expressions as data that definitions go over by cases: the same forms as `Expr`, without its boxes.
use Rattle.std.specs.Prelude.{ℕ, ◌+◌, ◌-◌, ◌*◌, List, slice_index}
use Rattle.rtl_core.specs.declared.expr.Un.{Un}
use Rattle.rtl_core.specs.declared.expr.Bin.{Bin}
use Rattle.rtl_core.specs.declared.expr.Expr.{Expr, fold-Expr}
use Rattle.rtl_core.specs.declared.expr.Expr.TheOpen.{Expr-F}
use Rattle.rtl_core.specs.Arithmetic.{result_width}

pub data Term : Type 0 where
  Const : (width n : ℕ) → Term
  Cell : (c : ℕ) → Term
  Load : (bytes : ℕ) → Term → Term
  Unary : Un → Term → Term
  Binary : Bin → Term → Term → Term
  Slice : Term → (lo hi : ℕ) → Term
  Zext : (width : ℕ) → Term → Term
  Sext : (width : ℕ) → Term → Term
  Choice : Term → Term → Term → Term

abbrev node_term : Expr-F Term → Term
node_term (Expr-F.Const w n) = Const w n
node_term (Expr-F.Cell c) = Cell c
node_term (Expr-F.Load b a) = Load b a
node_term (Expr-F.Un op a) = Unary op a
node_term (Expr-F.Bin op a b) = Binary op a b
node_term (Expr-F.Slice a lo hi) = Slice a lo hi
node_term (Expr-F.Zext w a) = Zext w a
node_term (Expr-F.Sext w a) = Sext w a
node_term (Expr-F.If c a b) = Choice c a b

-- the expression as a term
unfoldable pub term_of : Expr → Term
term_of = fold-Expr Term node_term

-- the width of a term's value, where cells have these widths
abbrev pub width_of : List ℕ → Term → ℕ
width_of widths (Const w n) = w
width_of widths (Cell c) = slice_index widths c
width_of widths (Load b a) = 8 * b
width_of widths (Unary op a) = width_of widths a
width_of widths (Binary op a b) = result_width op (width_of widths a)
width_of widths (Slice a lo hi) = hi + 1 - lo
width_of widths (Zext w a) = w
width_of widths (Sext w a) = w
width_of widths (Choice c a b) = width_of widths a
