-- The nodes of a body with arguments put in are sums over those of the arguments, also where many count as 257.
use Rattle.std.proofs.Common.{◌≡◌, ℕ, zero, suc, ◌+◌, min, List, [], ◌∷◌, map, Option, Some, None, refl, sym, ap, ◌∙◌, arith}
use Rattle.std.specs.Prelude.{slice_get, unwrap_or}
use Rattle.rtl_core.specs.declared.expr.Un.{Un}
use Rattle.rtl_core.specs.declared.expr.Bin.{Bin}
use Rattle.ssl_rules.specs.declared.formula.Leaf.{Leaf}
use Rattle.ssl_rules.specs.declared.formula.Leaf.TheVariants as leaf
use Rattle.ssl_rules.specs.declared.formula.Formula.{Formula}
use Rattle.ssl_rules.specs.declared.formula.Formula.TheVariants as F
use Rattle.ssl_rules.specs.Formulas.{leaf_nodes, nodes, put_in, nothing}
use Rattle.ssl_nodes.specs.Sums.{few, nodes_with}
use Rattle.ssl_nodes.proofs.FewLemmas.{few-1, few-2, few-3, few-few}
use Rattle.ssl_nodes.proofs.FormulaLaws.{nodes-Param, nodes-Leaf, nodes-Load, nodes-Un, nodes-Bin, nodes-Slice, nodes-Zext, nodes-Sext, nodes-If, put-Param, put-Leaf, put-Load, put-Un, put-Bin, put-Slice, put-Zext, put-Sext, put-If}
use Rattle.ssl_nodes.proofs.BodyLaws.{with-Param, with-Leaf, with-Load, with-Un, with-Bin, with-Slice, with-Zext, with-Sext, with-If}
use Rattle.ssl_nodes.proofs.InductFormula.{Cases, induct-Formula}

-- the nodes of the argument at a place
at-nodes : (args : List Formula) (k : ℕ) → nodes (unwrap_or (slice_get args k) nothing) ≡ unwrap_or (slice_get (map nodes args) k) 1
at-nodes [] k = nodes-Leaf (leaf.Const 1 0)
at-nodes (a ∷ args) zero = refl
at-nodes (a ∷ args) (suc k) = at-nodes args k

abbrev IsSum : List Formula → Formula → Type 0
IsSum args f = nodes (put_in args f) ≡ nodes_with (map nodes args) f

pub nodes-put_in : (args : List Formula) (f : Formula) → IsSum args f
nodes-put_in args = induct-Formula (IsSum args) (record {
  on_param = λ k. ap nodes (put-Param args k) ∙ at-nodes args k ∙ sym (with-Param (map nodes args) k);
  on_leaf = λ l. ap nodes (put-Leaf args l) ∙ nodes-Leaf l ∙ sym (with-Leaf (map nodes args) l);
  on_load = λ n a p. ap nodes (put-Load args n a) ∙ nodes-Load n (put_in args a) ∙ ap (λ n. 1 + n) p ∙ sym (with-Load (map nodes args) n a);
  on_un = λ op a p. ap nodes (put-Un args op a) ∙ nodes-Un op (put_in args a) ∙ ap (λ n. 1 + n) p ∙ sym (with-Un (map nodes args) op a);
  on_bin = λ op a b p q. ap nodes (put-Bin args op a b) ∙ nodes-Bin op (put_in args a) (put_in args b) ∙ ap (λ n. 1 + n + nodes (put_in args b)) p ∙ ap (λ n. 1 + nodes_with (map nodes args) a + n) q ∙ sym (with-Bin (map nodes args) op a b);
  on_slice = λ a lo hi p. ap nodes (put-Slice args a lo hi) ∙ nodes-Slice (put_in args a) lo hi ∙ ap (λ n. 1 + n) p ∙ sym (with-Slice (map nodes args) a lo hi);
  on_zext = λ w a p. ap nodes (put-Zext args w a) ∙ nodes-Zext w (put_in args a) ∙ ap (λ n. 1 + n) p ∙ sym (with-Zext (map nodes args) w a);
  on_sext = λ w a p. ap nodes (put-Sext args w a) ∙ nodes-Sext w (put_in args a) ∙ ap (λ n. 1 + n) p ∙ sym (with-Sext (map nodes args) w a);
  on_if = λ c a b p q r. ap nodes (put-If args c a b) ∙ nodes-If (put_in args c) (put_in args a) (put_in args b) ∙ ap (λ n. 1 + n + nodes (put_in args a) + nodes (put_in args b)) p
      ∙ ap (λ n. 1 + nodes_with (map nodes args) c + n + nodes (put_in args b)) q ∙ ap (λ n. 1 + nodes_with (map nodes args) c + nodes_with (map nodes args) a + n) r ∙ sym (with-If (map nodes args) c a b);
})

at-few : (ns : List ℕ) (k : ℕ) → few (unwrap_or (slice_get (map few ns) k) 1) ≡ few (unwrap_or (slice_get ns k) 1)
at-few [] k = refl
at-few (n ∷ ns) zero = few-few n
at-few (n ∷ ns) (suc k) = at-few ns k

abbrev IsFew : List ℕ → Formula → Type 0
IsFew ns f = few (nodes_with (map few ns) f) ≡ few (nodes_with ns f)

-- one, two and three parts
one : (x y : ℕ) → few x ≡ few y → few (1 + x) ≡ few (1 + y)
one x y e = sym (few-1 x) ∙ ap (λ n. few (1 + n)) e ∙ few-1 y

two : (x y u v : ℕ) → few x ≡ few y → few u ≡ few v → few (1 + x + u) ≡ few (1 + y + v)
two x y u v e f = sym (few-2 x u) ∙ ap (λ n. few (1 + n + few u)) e ∙ ap (λ n. few (1 + few y + n)) f ∙ few-2 y v

three : (x y u v s t : ℕ) → few x ≡ few y → few u ≡ few v → few s ≡ few t → few (1 + x + u + s) ≡ few (1 + y + v + t)
three x y u v s t e f g =
    sym (few-3 x u s) ∙ ap (λ n. few (1 + n + few u + few s)) e ∙ ap (λ n. few (1 + few y + n + few s)) f ∙ ap (λ n. few (1 + few y + few v + n)) g ∙ few-3 y v t

pub few-with : (ns : List ℕ) (f : Formula) → IsFew ns f
few-with ns = induct-Formula (IsFew ns) (record {
  on_param = λ k. ap few (with-Param (map few ns) k) ∙ at-few ns k ∙ sym (ap few (with-Param ns k));
  on_leaf = λ l. ap few (with-Leaf (map few ns) l) ∙ sym (ap few (with-Leaf ns l));
  on_load = λ n a p. ap few (with-Load (map few ns) n a) ∙ one (nodes_with (map few ns) a) (nodes_with ns a) p ∙ sym (ap few (with-Load ns n a));
  on_un = λ op a p. ap few (with-Un (map few ns) op a) ∙ one (nodes_with (map few ns) a) (nodes_with ns a) p ∙ sym (ap few (with-Un ns op a));
  on_bin = λ op a b p q. ap few (with-Bin (map few ns) op a b) ∙ two (nodes_with (map few ns) a) (nodes_with ns a) (nodes_with (map few ns) b) (nodes_with ns b) p q ∙ sym (ap few (with-Bin ns op a b));
  on_slice = λ a lo hi p. ap few (with-Slice (map few ns) a lo hi) ∙ one (nodes_with (map few ns) a) (nodes_with ns a) p ∙ sym (ap few (with-Slice ns a lo hi));
  on_zext = λ w a p. ap few (with-Zext (map few ns) w a) ∙ one (nodes_with (map few ns) a) (nodes_with ns a) p ∙ sym (ap few (with-Zext ns w a));
  on_sext = λ w a p. ap few (with-Sext (map few ns) w a) ∙ one (nodes_with (map few ns) a) (nodes_with ns a) p ∙ sym (ap few (with-Sext ns w a));
  on_if = λ c a b p q r. ap few (with-If (map few ns) c a b) ∙ three (nodes_with (map few ns) c) (nodes_with ns c) (nodes_with (map few ns) a) (nodes_with ns a) (nodes_with (map few ns) b) (nodes_with ns b) p q r ∙ sym (ap few (with-If ns c a b));
})
