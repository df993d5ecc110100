-- Induction over expressions, by their forms.
use Rattle.std.proofs.Common.{ℕ, sym, subst, List, [], ◌∷◌, map}
use Rattle.ssl_syntax.specs.declared.line.SslExpr.{SslExpr, ind-SslExpr, roll-SslExpr, map-SslExpr}
use Rattle.ssl_syntax.specs.declared.line.SslExpr.TheVariants as E
use Rattle.ssl_syntax.specs.declared.line.SslExpr.TheOpen.{SslExpr-F}
use Rattle.line_reading.proofs.ListReads.{Each}

each : {B : Type 0} (P : SslExpr → Type 0) (f : B → SslExpr) → ((b : B) → P (f b)) → (bs : List B) → Each P (map f bs)
each P f all [] = tt
each P f all (b ∷ bs) = (all b, each P f all bs)

-- a case for each form
pub record Cases (P : SslExpr → Type 0) : Type 0 where
  pub on_number : (v w : ℕ) → P (E.Number v w)
  pub on_named : (x : List ℕ) → P (E.Named x)
  pub on_at : (x : List ℕ) (i : ℕ) → P (E.At x i)
  pub on_at_op : (x op : List ℕ) → P (E.AtOp x op)
  pub on_load : (n : ℕ) (a : SslExpr) → P a → P (E.Load n a)
  pub on_not : (a : SslExpr) → P a → P (E.Not a)
  pub on_neg : (a : SslExpr) → P a → P (E.Neg a)
  pub on_bin : (op : ℕ) (a b : SslExpr) → P a → P b → P (E.Bin op a b)
  pub on_bits : (a : SslExpr) (lo hi : ℕ) → P a → P (E.Bits a lo hi)
  pub on_zext : (w : ℕ) (a : SslExpr) → P a → P (E.Zext w a)
  pub on_sext : (w : ℕ) (a : SslExpr) → P a → P (E.Sext w a)
  pub on_if : (c a b : SslExpr) → P c → P a → P b → P (E.If c a b)
  pub on_call : (x : List ℕ) (es : List SslExpr) → Each P es → P (E.Call x es)
  pub on_pc : P E.Pc
  pub on_next : P E.Next

pub induct-SslExpr : (P : SslExpr → Type 0) → Cases P → (e : SslExpr) → P e
induct-SslExpr P s = ind-SslExpr P (λ x y e.
    let Q : SslExpr-F SslExpr → Type 0 = λ z. P (roll-SslExpr z) in
    subst Q e (elim y as (λ z. Q (map-SslExpr _ SslExpr (λ e. e.0) z)) [
      | SslExpr-F.Number v w ↦ subst P (sym (E.rolls-Number v w)) (s.on_number v w)
      | SslExpr-F.Named x ↦ subst P (sym (E.rolls-Named x)) (s.on_named x)
      | SslExpr-F.At x i ↦ subst P (sym (E.rolls-At x i)) (s.on_at x i)
      | SslExpr-F.AtOp x op ↦ subst P (sym (E.rolls-AtOp x op)) (s.on_at_op x op)
      | SslExpr-F.Load n a ↦ subst P (sym (E.rolls-Load n a.0)) (s.on_load n a.0 a.1)
      | SslExpr-F.Not a ↦ subst P (sym (E.rolls-Not a.0)) (s.on_not a.0 a.1)
      | SslExpr-F.Neg a ↦ subst P (sym (E.rolls-Neg a.0)) (s.on_neg a.0 a.1)
      | SslExpr-F.Bin op a b ↦ subst P (sym (E.rolls-Bin op a.0 b.0)) (s.on_bin op a.0 b.0 a.1 b.1)
      | SslExpr-F.Bits a lo hi ↦ subst P (sym (E.rolls-Bits a.0 lo hi)) (s.on_bits a.0 lo hi a.1)
      | SslExpr-F.Zext w a ↦ subst P (sym (E.rolls-Zext w a.0)) (s.on_zext w a.0 a.1)
      | SslExpr-F.Sext w a ↦ subst P (sym (E.rolls-Sext w a.0)) (s.on_sext w a.0 a.1)
      | SslExpr-F.If c a b ↦ subst P (sym (E.rolls-If c.0 a.0 b.0)) (s.on_if c.0 a.0 b.0 c.1 a.1 b.1)
      | SslExpr-F.Call x es ↦ subst P (sym (E.rolls-Call x (map (λ e. e.0) es))) (s.on_call x (map (λ e. e.0) es) (each P (λ e. e.0) (λ e. e.1) es))
      | SslExpr-F.Pc ↦ subst P (sym E.rolls-Pc) s.on_pc
      | SslExpr-F.Next ↦ subst P (sym E.rolls-Next) s.on_next
    ]))
