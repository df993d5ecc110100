-- The equations of `nodes` and `put_in`, one for each form.
use Rattle.std.proofs.Common.{◌≡◌, ℕ, ◌+◌, List, Option, Some, None, rules}
use Rattle.std.specs.Prelude.{slice_get, unwrap_or}
use Rattle.rtl_core.specs.declared.expr.Un.{Un}
use Rattle.rtl_core.specs.declared.expr.Bin.{Bin}
use Rattle.ssl_rules.specs.declared.formula.Leaf.{Leaf}
use Rattle.ssl_rules.specs.declared.formula.Formula.{Formula, the_lemmas}
use Rattle.ssl_rules.specs.declared.formula.Formula.TheVariants as F
use Rattle.ssl_rules.specs.Formulas.{leaf_nodes, nodes, put_in, nothing}

pub nodes-Param : (k : ℕ) → nodes (F.Param k) ≡ 1
unfolding nodes
nodes-Param k = search (rules, the_lemmas)

pub nodes-Leaf : (l : Leaf) → nodes (F.Leaf l) ≡ leaf_nodes l
unfolding nodes
nodes-Leaf l = search (rules, the_lemmas)

pub nodes-Load : (n : ℕ) (a : Formula) → nodes (F.Load n a) ≡ 1 + nodes a
unfolding nodes
nodes-Load n a = search (rules, the_lemmas)

pub nodes-Un : (op : Un) (a : Formula) → nodes (F.Un op a) ≡ 1 + nodes a
unfolding nodes
nodes-Un op a = search (rules, the_lemmas)

pub nodes-Bin : (op : Bin) (a b : Formula) → nodes (F.Bin op a b) ≡ 1 + nodes a + nodes b
unfolding nodes
nodes-Bin op a b = search (rules, the_lemmas)

pub nodes-Slice : (a : Formula) (lo hi : ℕ) → nodes (F.Slice a lo hi) ≡ 1 + nodes a
unfolding nodes
nodes-Slice a lo hi = search (rules, the_lemmas)

pub nodes-Zext : (w : ℕ) (a : Formula) → nodes (F.Zext w a) ≡ 1 + nodes a
unfolding nodes
nodes-Zext w a = search (rules, the_lemmas)

pub nodes-Sext : (w : ℕ) (a : Formula) → nodes (F.Sext w a) ≡ 1 + nodes a
unfolding nodes
nodes-Sext w a = search (rules, the_lemmas)

pub nodes-If : (c a b : Formula) → nodes (F.If c a b) ≡ 1 + nodes c + nodes a + nodes b
unfolding nodes
nodes-If c a b = search (rules, the_lemmas)

pub put-Param : (args : List Formula) (k : ℕ) → put_in args (F.Param k) ≡ unwrap_or (slice_get args k) nothing
unfolding put_in
put-Param args k = search (rules, the_lemmas)

pub put-Leaf : (args : List Formula) (l : Leaf) → put_in args (F.Leaf l) ≡ F.Leaf l
unfolding put_in
put-Leaf args l = search (rules, the_lemmas)

pub put-Load : (args : List Formula) (n : ℕ) (a : Formula) → put_in args (F.Load n a) ≡ F.Load n (put_in args a)
unfolding put_in
put-Load args n a = search (rules, the_lemmas)

pub put-Un : (args : List Formula) (op : Un) (a : Formula) → put_in args (F.Un op a) ≡ F.Un op (put_in args a)
unfolding put_in
put-Un args op a = search (rules, the_lemmas)

pub put-Bin : (args : List Formula) (op : Bin) (a b : Formula) → put_in args (F.Bin op a b) ≡ F.Bin op (put_in args a) (put_in args b)
unfolding put_in
put-Bin args op a b = search (rules, the_lemmas)

pub put-Slice : (args : List Formula) (a : Formula) (lo hi : ℕ) → put_in args (F.Slice a lo hi) ≡ F.Slice (put_in args a) lo hi
unfolding put_in
put-Slice args a lo hi = search (rules, the_lemmas)

pub put-Zext : (args : List Formula) (w : ℕ) (a : Formula) → put_in args (F.Zext w a) ≡ F.Zext w (put_in args a)
unfolding put_in
put-Zext args w a = search (rules, the_lemmas)

pub put-Sext : (args : List Formula) (w : ℕ) (a : Formula) → put_in args (F.Sext w a) ≡ F.Sext w (put_in args a)
unfolding put_in
put-Sext args w a = search (rules, the_lemmas)

pub put-If : (args : List Formula) (c a b : Formula) → put_in args (F.If c a b) ≡ F.If (put_in args c) (put_in args a) (put_in args b)
unfolding put_in
put-If args c a b = search (rules, the_lemmas)
