-- Arguments that a body has no parameter for may be anything.
use Rattle.std.proofs.Common.{◌≡◌, ℕ, zero, suc, ◌||◌, Bool, true, false, List, [], ◌∷◌, ◌++◌, length, refl, sym, ap, ◌∙◌, rules}
use Rattle.std.specs.Prelude.{◌==◌, slice_get, unwrap_or}
use Rattle.std.proofs.lemmas.Bool.{eqb-false, or_parts}
use Rattle.rtl_core.specs.declared.expr.Un.{Un}
use Rattle.rtl_core.specs.declared.expr.Bin.{Bin}
use Rattle.ssl_rules.specs.declared.formula.Leaf.{Leaf}
use Rattle.ssl_rules.specs.declared.formula.Formula.{Formula, the_lemmas}
use Rattle.ssl_rules.specs.declared.formula.Formula.TheVariants as F
use Rattle.ssl_rules.specs.Formulas.{put_in, nothing}
use Rattle.ssl_nodes.proofs.FormulaLaws.{put-Param, put-Leaf, put-Load, put-Un, put-Bin, put-Slice, put-Zext, put-Sext, put-If}
use Rattle.ssl_nodes.proofs.InductFormula.{induct-Formula}
use Rattle.ssl_templates.specs.Params.{has_param}

pub ruleset put_laws = (put-Param, put-Leaf, put-Load, put-Un, put-Bin, put-Slice, put-Zext, put-Sext, put-If)

-- ---- the equations of `has_param`, one for each form

pub has-Param : (i : ℕ) (k : ℕ) → has_param i (F.Param k) ≡ (k == i)
unfolding has_param
has-Param i k = search (rules, the_lemmas)

pub has-Leaf : (i : ℕ) (l : Leaf) → has_param i (F.Leaf l) ≡ false
unfolding has_param
has-Leaf i l = search (rules, the_lemmas)

pub has-Load : (i : ℕ) (n : ℕ) (a : Formula) → has_param i (F.Load n a) ≡ has_param i a
unfolding has_param
has-Load i n a = search (rules, the_lemmas)

pub has-Un : (i : ℕ) (op : Un) (a : Formula) → has_param i (F.Un op a) ≡ has_param i a
unfolding has_param
has-Un i op a = search (rules, the_lemmas)

pub has-Bin : (i : ℕ) (op : Bin) (a b : Formula) → has_param i (F.Bin op a b) ≡ (has_param i a || has_param i b)
unfolding has_param
has-Bin i op a b = search (rules, the_lemmas)

pub has-Slice : (i : ℕ) (a : Formula) (lo hi : ℕ) → has_param i (F.Slice a lo hi) ≡ has_param i a
unfolding has_param
has-Slice i a lo hi = search (rules, the_lemmas)

pub has-Zext : (i : ℕ) (w : ℕ) (a : Formula) → has_param i (F.Zext w a) ≡ has_param i a
unfolding has_param
has-Zext i w a = search (rules, the_lemmas)

pub has-Sext : (i : ℕ) (w : ℕ) (a : Formula) → has_param i (F.Sext w a) ≡ has_param i a
unfolding has_param
has-Sext i w a = search (rules, the_lemmas)

pub has-If : (i : ℕ) (c a b : Formula) → has_param i (F.If c a b) ≡ (has_param i c || (has_param i a || has_param i b))
unfolding has_param
has-If i c a b = search (rules, the_lemmas)

pub ruleset param_laws = (has-Param, has-Leaf, has-Load, has-Un, has-Bin, has-Slice, has-Zext, has-Sext, has-If)

-- ---- an argument that the body does not have

elsewhere : (xs ys : List Formula) (f g : Formula) (k : ℕ) → (k ≡ length xs → ⊥) → slice_get (xs ++ f ∷ ys) k ≡ slice_get (xs ++ g ∷ ys) k
elsewhere [] ys f g zero other = absurd (other refl)
elsewhere [] ys f g (suc k) other = refl
elsewhere (x ∷ xs) ys f g zero other = refl
elsewhere (x ∷ xs) ys f g (suc k) other = elsewhere xs ys f g k (λ e. other (ap suc e))

-- what stands at that place makes no difference
abbrev IsUnused : List Formula → List Formula → Formula → Formula → Formula → Type 0
IsUnused xs ys f g body = has_param (length xs) body ≡ false → put_in (xs ++ f ∷ ys) body ≡ put_in (xs ++ g ∷ ys) body

put-unused : (xs ys : List Formula) (f g body : Formula) → IsUnused xs ys f g body
put-unused xs ys f g =
    let i : ℕ = length xs in
    let first : List Formula = xs ++ f ∷ ys in
    let second : List Formula = xs ++ g ∷ ys in
    induct-Formula (IsUnused xs ys f g) (record {
      on_param = λ k h. put-Param first k ∙ ap (λ o. unwrap_or o nothing) (elsewhere xs ys f g k (eqb-false k i (sym (has-Param i k) ∙ h))) ∙ sym (put-Param second k);
      on_leaf = λ l h. put-Leaf first l ∙ sym (put-Leaf second l);
      on_load = λ n a p h. put-Load first n a ∙ ap (F.Load n) (p (sym (has-Load i n a) ∙ h)) ∙ sym (put-Load second n a);
      on_un = λ op a p h. put-Un first op a ∙ ap (F.Un op) (p (sym (has-Un i op a) ∙ h)) ∙ sym (put-Un second op a);
      on_bin = λ op a b p q h.
          let no : (has_param i a || has_param i b) ≡ false = sym (has-Bin i op a b) ∙ h in
          put-Bin first op a b ∙ ap (λ x. F.Bin op x (put_in first b)) (p (or_parts (has_param i a) (has_param i b) no).0)
          ∙ ap (F.Bin op (put_in second a)) (q (or_parts (has_param i a) (has_param i b) no).1) ∙ sym (put-Bin second op a b);
      on_slice = λ a lo hi p h. put-Slice first a lo hi ∙ ap (λ x. F.Slice x lo hi) (p (sym (has-Slice i a lo hi) ∙ h)) ∙ sym (put-Slice second a lo hi);
      on_zext = λ w a p h. put-Zext first w a ∙ ap (F.Zext w) (p (sym (has-Zext i w a) ∙ h)) ∙ sym (put-Zext second w a);
      on_sext = λ w a p h. put-Sext first w a ∙ ap (F.Sext w) (p (sym (has-Sext i w a) ∙ h)) ∙ sym (put-Sext second w a);
      on_if = λ c a b p q r h.
          let no : (has_param i c || (has_param i a || has_param i b)) ≡ false = sym (has-If i c a b) ∙ h in
          let rest : (has_param i a || has_param i b) ≡ false = (or_parts (has_param i c) (has_param i a || has_param i b) no).1 in
          put-If first c a b ∙ ap (λ x. F.If x (put_in first a) (put_in first b)) (p (or_parts (has_param i c) (has_param i a || has_param i b) no).0)
          ∙ ap (λ x. F.If (put_in second c) x (put_in first b)) (q (or_parts (has_param i a) (has_param i b) rest).0)
          ∙ ap (F.If (put_in second c) (put_in second a)) (r (or_parts (has_param i a) (has_param i b) rest).1) ∙ sym (put-If second c a b);
    })

-- an argument that is exact where the body has its parameter
pub put-one : (xs ys : List Formula) (f g body : Formula) → (has_param (length xs) body ≡ true → f ≡ g) → put_in (xs ++ f ∷ ys) body ≡ put_in (xs ++ g ∷ ys) body
put-one xs ys f g body same = by (has_param (length xs) body) refl
  where
    by : (b : Bool) → has_param (length xs) body ≡ b → put_in (xs ++ f ∷ ys) body ≡ put_in (xs ++ g ∷ ys) body
    by true e = ap (λ x. put_in (xs ++ x ∷ ys) body) (same e)
    by false e = put-unused xs ys f g body e
