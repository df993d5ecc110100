-- The equations of `term_of`, one for each form.
use Rattle.std.proofs.Common.{◌≡◌, ℕ, rules}
use Rattle.rtl_core.specs.declared.expr.Un.{Un}
use Rattle.rtl_core.specs.declared.expr.Bin.{Bin as BinOp}
use Rattle.rtl_core.specs.declared.expr.Expr.{Expr, the_lemmas}
use Rattle.rtl_core.specs.declared.expr.Expr.TheVariants as E
use Rattle.rtl_core.specs.Terms.{Const, Cell, Load, Unary, Binary, Slice, Zext, Sext, Choice, term_of}

pub term-Const : (w n : ℕ) → term_of (E.Const w n) ≡ Const w n
unfolding term_of
term-Const w n = search (rules, the_lemmas)

pub term-Cell : (c : ℕ) → term_of (E.Cell c) ≡ Cell c
unfolding term_of
term-Cell c = search (rules, the_lemmas)

pub term-Load : (n : ℕ) (a : Expr) → term_of (E.Load n a) ≡ Load n (term_of a)
unfolding term_of
term-Load n a = search (rules, the_lemmas)

pub term-Un : (op : Un) (a : Expr) → term_of (E.Un op a) ≡ Unary op (term_of a)
unfolding term_of
term-Un op a = search (rules, the_lemmas)

pub term-Bin : (op : BinOp) (a b : Expr) → term_of (E.Bin op a b) ≡ Binary op (term_of a) (term_of b)
unfolding term_of
term-Bin op a b = search (rules, the_lemmas)

pub term-Slice : (a : Expr) (lo hi : ℕ) → term_of (E.Slice a lo hi) ≡ Slice (term_of a) lo hi
unfolding term_of
term-Slice a lo hi = search (rules, the_lemmas)

pub term-Zext : (w : ℕ) (a : Expr) → term_of (E.Zext w a) ≡ Zext w (term_of a)
unfolding term_of
term-Zext w a = search (rules, the_lemmas)

pub term-Sext : (w : ℕ) (a : Expr) → term_of (E.Sext w a) ≡ Sext w (term_of a)
unfolding term_of
term-Sext w a = search (rules, the_lemmas)

pub term-If : (c a b : Expr) → term_of (E.If c a b) ≡ Choice (term_of c) (term_of a) (term_of b)
unfolding term_of
term-If c a b = search (rules, the_lemmas)

pub ruleset term_laws = (term-Const, term-Cell, term-Load, term-Un, term-Bin, term-Slice, term-Zext, term-Sext, term-If)
