-- The equations of `tterm_of`, one for each form.
use Rattle.std.proofs.Common.{◌≡◌, ℕ, rules}
use Rattle.rtl_core.specs.declared.expr.Un.{Un}
use Rattle.rtl_core.specs.declared.expr.Bin.{Bin as BinOp}
use Rattle.rtl_core.specs.declared.template.TExpr.{TExpr, the_lemmas}
use Rattle.rtl_core.specs.declared.template.TExpr.TheVariants as T
use Rattle.rtl_core.specs.TemplateTerms.{Const, Cell, Load, Unary, Binary, Slice, Zext, Sext, Choice, Operand, FileAt, Pc, Next, tterm_of}

pub tterm-Const : (w n : ℕ) → tterm_of (T.Const w n) ≡ Const w n
unfolding tterm_of
tterm-Const w n = search (rules, the_lemmas)

pub tterm-Cell : (c : ℕ) → tterm_of (T.Cell c) ≡ Cell c
unfolding tterm_of
tterm-Cell c = search (rules, the_lemmas)

pub tterm-Load : (n : ℕ) (a : TExpr) → tterm_of (T.Load n a) ≡ Load n (tterm_of a)
unfolding tterm_of
tterm-Load n a = search (rules, the_lemmas)

pub tterm-Un : (op : Un) (a : TExpr) → tterm_of (T.Un op a) ≡ Unary op (tterm_of a)
unfolding tterm_of
tterm-Un op a = search (rules, the_lemmas)

pub tterm-Bin : (op : BinOp) (a b : TExpr) → tterm_of (T.Bin op a b) ≡ Binary op (tterm_of a) (tterm_of b)
unfolding tterm_of
tterm-Bin op a b = search (rules, the_lemmas)

pub tterm-Slice : (a : TExpr) (lo hi : ℕ) → tterm_of (T.Slice a lo hi) ≡ Slice (tterm_of a) lo hi
unfolding tterm_of
tterm-Slice a lo hi = search (rules, the_lemmas)

pub tterm-Zext : (w : ℕ) (a : TExpr) → tterm_of (T.Zext w a) ≡ Zext w (tterm_of a)
unfolding tterm_of
tterm-Zext w a = search (rules, the_lemmas)

pub tterm-Sext : (w : ℕ) (a : TExpr) → tterm_of (T.Sext w a) ≡ Sext w (tterm_of a)
unfolding tterm_of
tterm-Sext w a = search (rules, the_lemmas)

pub tterm-If : (c a b : TExpr) → tterm_of (T.If c a b) ≡ Choice (tterm_of c) (tterm_of a) (tterm_of b)
unfolding tterm_of
tterm-If c a b = search (rules, the_lemmas)

pub tterm-Operand : (k : ℕ) → tterm_of (T.Operand k) ≡ Operand k
unfolding tterm_of
tterm-Operand k = search (rules, the_lemmas)

pub tterm-FileAt : (f k : ℕ) → tterm_of (T.FileAt f k) ≡ FileAt f k
unfolding tterm_of
tterm-FileAt f k = search (rules, the_lemmas)

pub tterm-Pc : tterm_of T.Pc ≡ Pc
unfolding tterm_of
tterm-Pc = search (rules, the_lemmas)

pub tterm-Next : tterm_of T.Next ≡ Next
unfolding tterm_of
tterm-Next = search (rules, the_lemmas)

pub ruleset tterm_laws = (tterm-Const, tterm-Cell, tterm-Load, tterm-Un, tterm-Bin, tterm-Slice, tterm-Zext, tterm-Sext, tterm-If, tterm-Operand, tterm-FileAt, tterm-Pc, tterm-Next)
