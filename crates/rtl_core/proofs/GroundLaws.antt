-- The equations of `ground_expr`, one for each form.
use Rattle.std.proofs.Common.{◌≡◌, ℕ, rules}
use Rattle.rtl_core.specs.declared.expr.Un.{Un}
use Rattle.rtl_core.specs.declared.expr.Bin.{Bin as BinOp}
use Rattle.rtl_core.specs.declared.expr.Expr.TheVariants as E
use Rattle.rtl_core.specs.declared.machine.Machine.{Machine}
use Rattle.rtl_core.specs.declared.template.TExpr.{TExpr, the_lemmas}
use Rattle.rtl_core.specs.declared.template.TExpr.TheVariants as T
use Rattle.rtl_core.specs.Grounding.{Site, ground_expr, argument_value, argument_at, place_value, file_place}

pub ground-Const : (m : Machine) (site : Site) (w n : ℕ) → ground_expr m site (T.Const w n) ≡ E.Const w n
unfolding ground_expr
ground-Const m site w n = search (rules, the_lemmas)

pub ground-Cell : (m : Machine) (site : Site) (c : ℕ) → ground_expr m site (T.Cell c) ≡ E.Cell c
unfolding ground_expr
ground-Cell m site c = search (rules, the_lemmas)

pub ground-Load : (m : Machine) (site : Site) (n : ℕ) (a : TExpr) → ground_expr m site (T.Load n a) ≡ E.Load n (ground_expr m site a)
unfolding ground_expr
ground-Load m site n a = search (rules, the_lemmas)

pub ground-Un : (m : Machine) (site : Site) (op : Un) (a : TExpr) → ground_expr m site (T.Un op a) ≡ E.Un op (ground_expr m site a)
unfolding ground_expr
ground-Un m site op a = search (rules, the_lemmas)

pub ground-Bin : (m : Machine) (site : Site) (op : BinOp) (a b : TExpr) → ground_expr m site (T.Bin op a b) ≡ E.Bin op (ground_expr m site a) (ground_expr m site b)
unfolding ground_expr
ground-Bin m site op a b = search (rules, the_lemmas)

pub ground-Slice : (m : Machine) (site : Site) (a : TExpr) (lo hi : ℕ) → ground_expr m site (T.Slice a lo hi) ≡ E.Slice (ground_expr m site a) lo hi
unfolding ground_expr
ground-Slice m site a lo hi = search (rules, the_lemmas)

pub ground-Zext : (m : Machine) (site : Site) (w : ℕ) (a : TExpr) → ground_expr m site (T.Zext w a) ≡ E.Zext w (ground_expr m site a)
unfolding ground_expr
ground-Zext m site w a = search (rules, the_lemmas)

pub ground-Sext : (m : Machine) (site : Site) (w : ℕ) (a : TExpr) → ground_expr m site (T.Sext w a) ≡ E.Sext w (ground_expr m site a)
unfolding ground_expr
ground-Sext m site w a = search (rules, the_lemmas)

pub ground-If : (m : Machine) (site : Site) (c a b : TExpr) → ground_expr m site (T.If c a b) ≡ E.If (ground_expr m site c) (ground_expr m site a) (ground_expr m site b)
unfolding ground_expr
ground-If m site c a b = search (rules, the_lemmas)

pub ground-Operand : (m : Machine) (site : Site) (k : ℕ) → ground_expr m site (T.Operand k) ≡ argument_value (argument_at site k)
unfolding ground_expr
ground-Operand m site k = search (rules, the_lemmas)

pub ground-FileAt : (m : Machine) (site : Site) (f k : ℕ) → ground_expr m site (T.FileAt f k) ≡ place_value (file_place m site f k)
unfolding ground_expr
ground-FileAt m site f k = search (rules, the_lemmas)

pub ground-Pc : (m : Machine) (site : Site) → ground_expr m site T.Pc ≡ E.Const 32 site.pc
unfolding ground_expr
ground-Pc m site = search (rules, the_lemmas)

pub ground-Next : (m : Machine) (site : Site) → ground_expr m site T.Next ≡ E.Const 32 site.next
unfolding ground_expr
ground-Next m site = search (rules, the_lemmas)

pub ruleset ground_laws = (ground-Const, ground-Cell, ground-Load, ground-Un, ground-Bin, ground-Slice, ground-Zext, ground-Sext, ground-If, ground-Operand, ground-FileAt, ground-Pc, ground-Next)
