-- Expressions of templates as data that definitions go over by cases: the same forms as `TExpr`, without its boxes.
use Rattle.std.specs.Prelude.{ℕ}
use Rattle.rtl_core.specs.declared.expr.Un.{Un}
use Rattle.rtl_core.specs.declared.expr.Bin.{Bin}
use Rattle.rtl_core.specs.declared.template.TExpr.{TExpr, fold-TExpr}
use Rattle.rtl_core.specs.declared.template.TExpr.TheOpen.{TExpr-F}

pub data TTerm : Type 0 where
  Const : (width n : ℕ) → TTerm
  Cell : (c : ℕ) → TTerm
  Load : (bytes : ℕ) → TTerm → TTerm
  Unary : Un → TTerm → TTerm
  Binary : Bin → TTerm → TTerm → TTerm
  Slice : TTerm → (lo hi : ℕ) → TTerm
  Zext : (width : ℕ) → TTerm → TTerm
  Sext : (width : ℕ) → TTerm → TTerm
  Choice : TTerm → TTerm → TTerm → TTerm
  Operand : (k : ℕ) → TTerm
  FileAt : (f k : ℕ) → TTerm
  Pc : TTerm
  Next : TTerm

abbrev node_tterm : TExpr-F TTerm → TTerm
node_tterm (TExpr-F.Const w n) = Const w n
node_tterm (TExpr-F.Cell c) = Cell c
node_tterm (TExpr-F.Load b a) = Load b a
node_tterm (TExpr-F.Un op a) = Unary op a
node_tterm (TExpr-F.Bin op a b) = Binary op a b
node_tterm (TExpr-F.Slice a lo hi) = Slice a lo hi
node_tterm (TExpr-F.Zext w a) = Zext w a
node_tterm (TExpr-F.Sext w a) = Sext w a
node_tterm (TExpr-F.If c a b) = Choice c a b
node_tterm (TExpr-F.Operand k) = Operand k
node_tterm (TExpr-F.FileAt f k) = FileAt f k
node_tterm TExpr-F.Pc = Pc
node_tterm TExpr-F.Next = Next

-- the expression as a term
unfoldable pub tterm_of : TExpr → TTerm
tterm_of = fold-TExpr TTerm node_tterm
