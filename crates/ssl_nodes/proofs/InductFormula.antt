-- Induction over expanded expressions, by their forms.
use Rattle.std.proofs.Common.{ℕ, sym, subst}
use Rattle.rtl_core.specs.declared.expr.Un.{Un}
use Rattle.rtl_core.specs.declared.expr.Bin.{Bin}
use Rattle.ssl_rules.specs.declared.formula.Leaf.{Leaf}
use Rattle.ssl_rules.specs.declared.formula.Formula.{Formula, ind-Formula, roll-Formula, map-Formula}
use Rattle.ssl_rules.specs.declared.formula.Formula.TheVariants as F
use Rattle.ssl_rules.specs.declared.formula.Formula.TheOpen.{Formula-F}

-- a case for each form
pub record Cases (P : Formula → Type 0) : Type 0 where
  pub on_param : (k : ℕ) → P (F.Param k)
  pub on_leaf : (l : Leaf) → P (F.Leaf l)
  pub on_load : (n : ℕ) (a : Formula) → P a → P (F.Load n a)
  pub on_un : (op : Un) (a : Formula) → P a → P (F.Un op a)
  pub on_bin : (op : Bin) (a b : Formula) → P a → P b → P (F.Bin op a b)
  pub on_slice : (a : Formula) (lo hi : ℕ) → P a → P (F.Slice a lo hi)
  pub on_zext : (w : ℕ) (a : Formula) → P a → P (F.Zext w a)
  pub on_sext : (w : ℕ) (a : Formula) → P a → P (F.Sext w a)
  pub on_if : (c a b : Formula) → P c → P a → P b → P (F.If c a b)

pub induct-Formula : (P : Formula → Type 0) → Cases P → (f : Formula) → P f
induct-Formula P s = ind-Formula P (λ x y e.
    let Q : Formula-F Formula → Type 0 = λ z. P (roll-Formula z) in
    subst Q e (elim y as (λ z. Q (map-Formula _ Formula (λ f. f.0) z)) [
      | Formula-F.Param k ↦ subst P (sym (F.rolls-Param k)) (s.on_param k)
      | Formula-F.Leaf l ↦ subst P (sym (F.rolls-Leaf l)) (s.on_leaf l)
      | Formula-F.Load n a ↦ subst P (sym (F.rolls-Load n a.0)) (s.on_load n a.0 a.1)
      | Formula-F.Un op a ↦ subst P (sym (F.rolls-Un op a.0)) (s.on_un op a.0 a.1)
      | Formula-F.Bin op a b ↦ subst P (sym (F.rolls-Bin op a.0 b.0)) (s.on_bin op a.0 b.0 a.1 b.1)
      | Formula-F.Slice a lo hi ↦ subst P (sym (F.rolls-Slice a.0 lo hi)) (s.on_slice a.0 lo hi a.1)
      | Formula-F.Zext w a ↦ subst P (sym (F.rolls-Zext w a.0)) (s.on_zext w a.0 a.1)
      | Formula-F.Sext w a ↦ subst P (sym (F.rolls-Sext w a.0)) (s.on_sext w a.0 a.1)
      | Formula-F.If c a b ↦ subst P (sym (F.rolls-If c.0 a.0 b.0)) (s.on_if c.0 a.0 b.0 c.1 a.1 b.1)
    ]))
