-- The equations of `nodes_with`, one for each form.
use Rattle.std.proofs.Common.{◌≡◌, ℕ, ◌+◌, List, map, Option, Some, None, sym, ap, ◌∙◌}
use Rattle.std.specs.Prelude.{slice_get, unwrap_or}
use Rattle.rtl_core.specs.declared.expr.Un.{Un}
use Rattle.rtl_core.specs.declared.expr.Bin.{Bin}
use Rattle.ssl_rules.specs.declared.formula.Leaf.{Leaf}
use Rattle.ssl_rules.specs.declared.formula.Formula.{Formula, fold-roll-Formula}
use Rattle.ssl_rules.specs.declared.formula.Formula.TheVariants as F
use Rattle.ssl_rules.specs.declared.formula.Formula.TheOpen.{Formula-F}
use Rattle.ssl_rules.specs.Formulas.{leaf_nodes}
use Rattle.ssl_nodes.proofs.FewLemmas.{few-1, few-2, few-3}
use Rattle.ssl_nodes.specs.Sums.{nodes_with, node_sum}

pub with-Param : (ns : List ℕ) (k : ℕ) → nodes_with ns (F.Param k) ≡ unwrap_or (slice_get ns k) 1
unfolding nodes_with
with-Param ns k = ap (nodes_with ns) (sym (F.rolls-Param k)) ∙ fold-roll-Formula ℕ (node_sum ns) (Formula-F.Param k)

pub with-Leaf : (ns : List ℕ) (l : Leaf) → nodes_with ns (F.Leaf l) ≡ leaf_nodes l
unfolding nodes_with
with-Leaf ns l = ap (nodes_with ns) (sym (F.rolls-Leaf l)) ∙ fold-roll-Formula ℕ (node_sum ns) (Formula-F.Leaf l)

pub with-Load : (ns : List ℕ) (n : ℕ) (a : Formula) → nodes_with ns (F.Load n a) ≡ 1 + nodes_with ns a
unfolding nodes_with
with-Load ns n a = ap (nodes_with ns) (sym (F.rolls-Load n a)) ∙ fold-roll-Formula ℕ (node_sum ns) (Formula-F.Load n a)

pub with-Un : (ns : List ℕ) (op : Un) (a : Formula) → nodes_with ns (F.Un op a) ≡ 1 + nodes_with ns a
unfolding nodes_with
with-Un ns op a = ap (nodes_with ns) (sym (F.rolls-Un op a)) ∙ fold-roll-Formula ℕ (node_sum ns) (Formula-F.Un op a)

pub with-Bin : (ns : List ℕ) (op : Bin) (a b : Formula) → nodes_with ns (F.Bin op a b) ≡ 1 + nodes_with ns a + nodes_with ns b
unfolding nodes_with
with-Bin ns op a b = ap (nodes_with ns) (sym (F.rolls-Bin op a b)) ∙ fold-roll-Formula ℕ (node_sum ns) (Formula-F.Bin op a b)

pub with-Slice : (ns : List ℕ) (a : Formula) (lo hi : ℕ) → nodes_with ns (F.Slice a lo hi) ≡ 1 + nodes_with ns a
unfolding nodes_with
with-Slice ns a lo hi = ap (nodes_with ns) (sym (F.rolls-Slice a lo hi)) ∙ fold-roll-Formula ℕ (node_sum ns) (Formula-F.Slice a lo hi)

pub with-Zext : (ns : List ℕ) (w : ℕ) (a : Formula) → nodes_with ns (F.Zext w a) ≡ 1 + nodes_with ns a
unfolding nodes_with
with-Zext ns w a = ap (nodes_with ns) (sym (F.rolls-Zext w a)) ∙ fold-roll-Formula ℕ (node_sum ns) (Formula-F.Zext w a)

pub with-Sext : (ns : List ℕ) (w : ℕ) (a : Formula) → nodes_with ns (F.Sext w a) ≡ 1 + nodes_with ns a
unfolding nodes_with
with-Sext ns w a = ap (nodes_with ns) (sym (F.rolls-Sext w a)) ∙ fold-roll-Formula ℕ (node_sum ns) (Formula-F.Sext w a)

pub with-If : (ns : List ℕ) (c a b : Formula) → nodes_with ns (F.If c a b) ≡ 1 + nodes_with ns c + nodes_with ns a + nodes_with ns b
unfolding nodes_with
with-If ns c a b = ap (nodes_with ns) (sym (F.rolls-If c a b)) ∙ fold-roll-Formula ℕ (node_sum ns) (Formula-F.If c a b)

pub ruleset body_laws = (with-Param, with-Leaf, with-Load, with-Un, with-Bin, with-Slice, with-Zext, with-Sext, with-If, few-1, few-2, few-3)
