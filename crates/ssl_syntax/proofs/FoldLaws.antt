-- The equations of a fold over expressions, one for each form, whatever it gives.
use Rattle.std.proofs.Common.{◌≡◌, ℕ, List, map, sym, ap, ◌∙◌}
use Rattle.ssl_syntax.specs.declared.line.SslExpr.{SslExpr, fold-SslExpr, fold-roll-SslExpr}
use Rattle.ssl_syntax.specs.declared.line.SslExpr.TheVariants as E
use Rattle.ssl_syntax.specs.declared.line.SslExpr.TheOpen.{SslExpr-F}

module _ {A : Type 0} (node : SslExpr-F A → A) where
  abbrev of : SslExpr → A
  of = fold-SslExpr A node

  pub fold-Number : (v w : ℕ) → of (E.Number v w) ≡ node (SslExpr-F.Number v w)
  fold-Number v w = ap of (sym (E.rolls-Number v w)) ∙ fold-roll-SslExpr A node (SslExpr-F.Number v w)

  pub fold-Named : (x : List ℕ) → of (E.Named x) ≡ node (SslExpr-F.Named x)
  fold-Named x = ap of (sym (E.rolls-Named x)) ∙ fold-roll-SslExpr A node (SslExpr-F.Named x)

  pub fold-At : (x : List ℕ) (i : ℕ) → of (E.At x i) ≡ node (SslExpr-F.At x i)
  fold-At x i = ap of (sym (E.rolls-At x i)) ∙ fold-roll-SslExpr A node (SslExpr-F.At x i)

  pub fold-AtOp : (x op : List ℕ) → of (E.AtOp x op) ≡ node (SslExpr-F.AtOp x op)
  fold-AtOp x op = ap of (sym (E.rolls-AtOp x op)) ∙ fold-roll-SslExpr A node (SslExpr-F.AtOp x op)

  pub fold-Load : (n : ℕ) (a : SslExpr) → of (E.Load n a) ≡ node (SslExpr-F.Load n (of a))
  fold-Load n a = ap of (sym (E.rolls-Load n a)) ∙ fold-roll-SslExpr A node (SslExpr-F.Load n a)

  pub fold-Not : (a : SslExpr) → of (E.Not a) ≡ node (SslExpr-F.Not (of a))
  fold-Not a = ap of (sym (E.rolls-Not a)) ∙ fold-roll-SslExpr A node (SslExpr-F.Not a)

  pub fold-Neg : (a : SslExpr) → of (E.Neg a) ≡ node (SslExpr-F.Neg (of a))
  fold-Neg a = ap of (sym (E.rolls-Neg a)) ∙ fold-roll-SslExpr A node (SslExpr-F.Neg a)

  pub fold-Bin : (op : ℕ) (a b : SslExpr) → of (E.Bin op a b) ≡ node (SslExpr-F.Bin op (of a) (of b))
  fold-Bin op a b = ap of (sym (E.rolls-Bin op a b)) ∙ fold-roll-SslExpr A node (SslExpr-F.Bin op a b)

  pub fold-Bits : (a : SslExpr) (lo hi : ℕ) → of (E.Bits a lo hi) ≡ node (SslExpr-F.Bits (of a) lo hi)
  fold-Bits a lo hi = ap of (sym (E.rolls-Bits a lo hi)) ∙ fold-roll-SslExpr A node (SslExpr-F.Bits a lo hi)

  pub fold-Zext : (w : ℕ) (a : SslExpr) → of (E.Zext w a) ≡ node (SslExpr-F.Zext w (of a))
  fold-Zext w a = ap of (sym (E.rolls-Zext w a)) ∙ fold-roll-SslExpr A node (SslExpr-F.Zext w a)

  pub fold-Sext : (w : ℕ) (a : SslExpr) → of (E.Sext w a) ≡ node (SslExpr-F.Sext w (of a))
  fold-Sext w a = ap of (sym (E.rolls-Sext w a)) ∙ fold-roll-SslExpr A node (SslExpr-F.Sext w a)

  pub fold-If : (c a b : SslExpr) → of (E.If c a b) ≡ node (SslExpr-F.If (of c) (of a) (of b))
  fold-If c a b = ap of (sym (E.rolls-If c a b)) ∙ fold-roll-SslExpr A node (SslExpr-F.If c a b)

  pub fold-Call : (x : List ℕ) (es : List SslExpr) → of (E.Call x es) ≡ node (SslExpr-F.Call x (map of es))
  fold-Call x es = ap of (sym (E.rolls-Call x es)) ∙ fold-roll-SslExpr A node (SslExpr-F.Call x es)

  pub fold-Pc : of E.Pc ≡ node SslExpr-F.Pc
  fold-Pc = ap of (sym E.rolls-Pc) ∙ fold-roll-SslExpr A node SslExpr-F.Pc

  pub fold-Next : of E.Next ≡ node SslExpr-F.Next
  fold-Next = ap of (sym E.rolls-Next) ∙ fold-roll-SslExpr A node SslExpr-F.Next

-- all but that of a call, whose parts are a list
pub ruleset fold_laws = (fold-Number, fold-Named, fold-At, fold-AtOp, fold-Load, fold-Not, fold-Neg, fold-Bin, fold-Bits, fold-Zext, fold-Sext, fold-If, fold-Pc, fold-Next)
