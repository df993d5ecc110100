-- Expanded expressions as values and as places: the equations, one for each form.
use Rattle.std.proofs.Common.{◌≡◌, ℕ, rules}
use Rattle.rtl_core.specs.declared.expr.Un.{Un}
use Rattle.rtl_core.specs.declared.expr.Bin.{Bin}
use Rattle.rtl_core.specs.declared.template.TExpr.TheVariants as T
use Rattle.ssl_rules.specs.declared.formula.Leaf.{Leaf}
use Rattle.ssl_rules.specs.declared.formula.Formula.{Formula, out-Formula, the_lemmas}
use Rattle.ssl_rules.specs.declared.formula.Formula.TheVariants as F
use Rattle.ssl_rules.specs.declared.formula.Formula.TheOpen.{Formula-F}
use Rattle.ssl_rules.specs.Formulas.{leaf_value, value}
use Rattle.ssl_nodes.proofs.FormulaLaws.{nodes-Leaf, nodes-Load}

pub value-Param : (k : ℕ) → value (F.Param k) ≡ T.Const 1 0
unfolding value
value-Param k = search (rules, the_lemmas)

pub value-Leaf : (l : Leaf) → value (F.Leaf l) ≡ leaf_value l
unfolding value
value-Leaf l = search (rules, the_lemmas)

pub value-Load : (n : ℕ) (a : Formula) → value (F.Load n a) ≡ T.Load n (value a)
unfolding value
value-Load n a = search (rules, the_lemmas)

pub value-Un : (op : Un) (a : Formula) → value (F.Un op a) ≡ T.Un op (value a)
unfolding value
value-Un op a = search (rules, the_lemmas)

pub value-Bin : (op : Bin) (a b : Formula) → value (F.Bin op a b) ≡ T.Bin op (value a) (value b)
unfolding value
value-Bin op a b = search (rules, the_lemmas)

pub value-Slice : (a : Formula) (lo hi : ℕ) → value (F.Slice a lo hi) ≡ T.Slice (value a) lo hi
unfolding value
value-Slice a lo hi = search (rules, the_lemmas)

pub value-Zext : (w : ℕ) (a : Formula) → value (F.Zext w a) ≡ T.Zext w (value a)
unfolding value
value-Zext w a = search (rules, the_lemmas)

pub value-Sext : (w : ℕ) (a : Formula) → value (F.Sext w a) ≡ T.Sext w (value a)
unfolding value
value-Sext w a = search (rules, the_lemmas)

pub value-If : (c a b : Formula) → value (F.If c a b) ≡ T.If (value c) (value a) (value b)
unfolding value
value-If c a b = search (rules, the_lemmas)

pub out-Param : (k : ℕ) → out-Formula (F.Param k) ≡ Formula-F.Param k
out-Param k = search (rules, the_lemmas)

pub out-Leaf : (l : Leaf) → out-Formula (F.Leaf l) ≡ Formula-F.Leaf l
out-Leaf l = search (rules, the_lemmas)

pub out-Load : (n : ℕ) (a : Formula) → out-Formula (F.Load n a) ≡ Formula-F.Load n a
out-Load n a = search (rules, the_lemmas)

pub out-Un : (op : Un) (a : Formula) → out-Formula (F.Un op a) ≡ Formula-F.Un op a
out-Un op a = search (rules, the_lemmas)

pub out-Bin : (op : Bin) (a b : Formula) → out-Formula (F.Bin op a b) ≡ Formula-F.Bin op a b
out-Bin op a b = search (rules, the_lemmas)

pub out-Slice : (a : Formula) (lo hi : ℕ) → out-Formula (F.Slice a lo hi) ≡ Formula-F.Slice a lo hi
out-Slice a lo hi = search (rules, the_lemmas)

pub out-Zext : (w : ℕ) (a : Formula) → out-Formula (F.Zext w a) ≡ Formula-F.Zext w a
out-Zext w a = search (rules, the_lemmas)

pub out-Sext : (w : ℕ) (a : Formula) → out-Formula (F.Sext w a) ≡ Formula-F.Sext w a
out-Sext w a = search (rules, the_lemmas)

pub out-If : (c a b : Formula) → out-Formula (F.If c a b) ≡ Formula-F.If c a b
out-If c a b = search (rules, the_lemmas)

pub ruleset value_laws = (value-Param, value-Leaf, value-Load, value-Un, value-Bin, value-Slice, value-Zext, value-Sext, value-If)

pub ruleset out_laws = (out-Param, out-Leaf, out-Load, out-Un, out-Bin, out-Slice, out-Zext, out-Sext, out-If)

pub ruleset assigned_laws = (out-Param, out-Leaf, out-Load, out-Un, out-Bin, out-Slice, out-Zext, out-Sext, out-If, nodes-Leaf, nodes-Load)
