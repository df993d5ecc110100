-- Induction over expressions of templates, by their forms.
use Rattle.std.proofs.Common.{ℕ, sym, subst}
use Rattle.rtl_core.specs.declared.expr.Un.{Un}
use Rattle.rtl_core.specs.declared.expr.Bin.{Bin as BinOp}
use Rattle.rtl_core.specs.declared.template.TExpr.{TExpr, ind-TExpr, roll-TExpr, map-TExpr}
use Rattle.rtl_core.specs.declared.template.TExpr.TheVariants as T
use Rattle.rtl_core.specs.declared.template.TExpr.TheOpen.{TExpr-F}

-- a case for each form
pub record Cases (P : TExpr → Type 0) : Type 0 where
  pub on_const : (w n : ℕ) → P (T.Const w n)
  pub on_cell : (c : ℕ) → P (T.Cell c)
  pub on_load : (n : ℕ) (a : TExpr) → P a → P (T.Load n a)
  pub on_un : (op : Un) (a : TExpr) → P a → P (T.Un op a)
  pub on_bin : (op : BinOp) (a b : TExpr) → P a → P b → P (T.Bin op a b)
  pub on_slice : (a : TExpr) (lo hi : ℕ) → P a → P (T.Slice a lo hi)
  pub on_zext : (w : ℕ) (a : TExpr) → P a → P (T.Zext w a)
  pub on_sext : (w : ℕ) (a : TExpr) → P a → P (T.Sext w a)
  pub on_if : (c a b : TExpr) → P c → P a → P b → P (T.If c a b)
  pub on_operand : (k : ℕ) → P (T.Operand k)
  pub on_file : (f k : ℕ) → P (T.FileAt f k)
  pub on_pc : P T.Pc
  pub on_next : P T.Next

pub induct-TExpr : (P : TExpr → Type 0) → Cases P → (e : TExpr) → P e
induct-TExpr P s = ind-TExpr P (λ x y e.
    let Q : TExpr-F TExpr → Type 0 = λ z. P (roll-TExpr z) in
    subst Q e (elim y as (λ z. Q (map-TExpr _ TExpr (λ e. e.0) z)) [
      | TExpr-F.Const w n ↦ subst P (sym (T.rolls-Const w n)) (s.on_const w n)
      | TExpr-F.Cell c ↦ subst P (sym (T.rolls-Cell c)) (s.on_cell c)
      | TExpr-F.Load n a ↦ subst P (sym (T.rolls-Load n a.0)) (s.on_load n a.0 a.1)
      | TExpr-F.Un op a ↦ subst P (sym (T.rolls-Un op a.0)) (s.on_un op a.0 a.1)
      | TExpr-F.Bin op a b ↦ subst P (sym (T.rolls-Bin op a.0 b.0)) (s.on_bin op a.0 b.0 a.1 b.1)
      | TExpr-F.Slice a lo hi ↦ subst P (sym (T.rolls-Slice a.0 lo hi)) (s.on_slice a.0 lo hi a.1)
      | TExpr-F.Zext w a ↦ subst P (sym (T.rolls-Zext w a.0)) (s.on_zext w a.0 a.1)
      | TExpr-F.Sext w a ↦ subst P (sym (T.rolls-Sext w a.0)) (s.on_sext w a.0 a.1)
      | TExpr-F.If c a b ↦ subst P (sym (T.rolls-If c.0 a.0 b.0)) (s.on_if c.0 a.0 b.0 c.1 a.1 b.1)
      | TExpr-F.Operand k ↦ subst P (sym (T.rolls-Operand k)) (s.on_operand k)
      | TExpr-F.FileAt f k ↦ subst P (sym (T.rolls-FileAt f k)) (s.on_file f k)
      | TExpr-F.Pc ↦ subst P (sym T.rolls-Pc) s.on_pc
      | TExpr-F.Next ↦ subst P (sym T.rolls-Next) s.on_next
    ]))
