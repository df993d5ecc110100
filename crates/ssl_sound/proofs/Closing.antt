-- What closes an expanded expression: nothing, as in a template, or arguments in place of the parameters.
use Rattle.std.proofs.Common.{◌≡◌, ℕ, zero, suc, List, [], ◌∷◌, map, refl, sym, ap, ◌∙◌}
use Rattle.std.specs.Prelude.{slice_get, unwrap_or}
use Rattle.rtl_core.specs.declared.expr.Un.{Un}
use Rattle.rtl_core.specs.declared.expr.Bin.{Bin as BinOp}
use Rattle.ssl_rules.specs.declared.formula.Leaf.{Leaf}
use Rattle.ssl_rules.specs.declared.formula.Leaf.TheVariants as leaf
use Rattle.ssl_rules.specs.declared.formula.Formula.{Formula}
use Rattle.ssl_rules.specs.declared.formula.Formula.TheVariants as F
use Rattle.ssl_rules.specs.Formulas.{put_in, nothing}
use Rattle.ssl_nodes.proofs.FormulaLaws.{put-Param, put-Leaf, put-Load, put-Un, put-Bin, put-Slice, put-Zext, put-Sext, put-If}
use Rattle.ssl_nodes.proofs.InductFormula.{induct-Formula}

-- it goes into each part
pub record Closes (close : Formula → Formula) : Type 0 where
  pub on_leaf : (l : Leaf) → close (F.Leaf l) ≡ F.Leaf l
  pub on_load : (n : ℕ) (a : Formula) → close (F.Load n a) ≡ F.Load n (close a)
  pub on_un : (op : Un) (a : Formula) → close (F.Un op a) ≡ F.Un op (close a)
  pub on_bin : (op : BinOp) (a b : Formula) → close (F.Bin op a b) ≡ F.Bin op (close a) (close b)
  pub on_slice : (a : Formula) (lo hi : ℕ) → close (F.Slice a lo hi) ≡ F.Slice (close a) lo hi
  pub on_zext : (w : ℕ) (a : Formula) → close (F.Zext w a) ≡ F.Zext w (close a)
  pub on_sext : (w : ℕ) (a : Formula) → close (F.Sext w a) ≡ F.Sext w (close a)
  pub on_if : (c a b : Formula) → close (F.If c a b) ≡ F.If (close c) (close a) (close b)
  pub on_call : (args : List Formula) (f : Formula) → close (put_in args f) ≡ put_in (map close args) f

-- ---- nothing

map-same : (xs : List Formula) → map (λ x. x) xs ≡ xs
map-same [] = refl
map-same (x ∷ xs) = ap (λ l. x ∷ l) (map-same xs)

pub closes-nothing : Closes (λ f. f)
closes-nothing = record {
  on_leaf = λ l. refl;
  on_load = λ n a. refl;
  on_un = λ op a. refl;
  on_bin = λ op a b. refl;
  on_slice = λ a lo hi. refl;
  on_zext = λ w a. refl;
  on_sext = λ w a. refl;
  on_if = λ c a b. refl;
  on_call = λ args f. ap (λ l. put_in l f) (sym (map-same args));
}

-- ---- arguments

at-put : (args inner : List Formula) (k : ℕ) → put_in args (unwrap_or (slice_get inner k) nothing) ≡ unwrap_or (slice_get (map (put_in args) inner) k) nothing
at-put args [] k = put-Leaf args (leaf.Const 1 0)
at-put args (a ∷ inner) zero = refl
at-put args (a ∷ inner) (suc k) = at-put args inner k

abbrev IsJoined : List Formula → List Formula → Formula → Type 0
IsJoined args inner f = put_in args (put_in inner f) ≡ put_in (map (put_in args) inner) f

-- arguments put into a body with arguments put in
joined : (args inner : List Formula) (f : Formula) → IsJoined args inner f
joined args inner = induct-Formula (IsJoined args inner) (record {
  on_param = λ k. ap (put_in args) (put-Param inner k) ∙ at-put args inner k ∙ sym (put-Param (map (put_in args) inner) k);
  on_leaf = λ l. ap (put_in args) (put-Leaf inner l) ∙ put-Leaf args l ∙ sym (put-Leaf (map (put_in args) inner) l);
  on_load = λ n a p. ap (put_in args) (put-Load inner n a) ∙ put-Load args n (put_in inner a) ∙ ap (F.Load n) p ∙ sym (put-Load (map (put_in args) inner) n a);
  on_un = λ op a p. ap (put_in args) (put-Un inner op a) ∙ put-Un args op (put_in inner a) ∙ ap (F.Un op) p ∙ sym (put-Un (map (put_in args) inner) op a);
  on_bin = λ op a b p q. ap (put_in args) (put-Bin inner op a b) ∙ put-Bin args op (put_in inner a) (put_in inner b)
      ∙ ap (λ x. F.Bin op x (put_in args (put_in inner b))) p ∙ ap (F.Bin op (put_in (map (put_in args) inner) a)) q ∙ sym (put-Bin (map (put_in args) inner) op a b);
  on_slice = λ a lo hi p. ap (put_in args) (put-Slice inner a lo hi) ∙ put-Slice args (put_in inner a) lo hi ∙ ap (λ x. F.Slice x lo hi) p ∙ sym (put-Slice (map (put_in args) inner) a lo hi);
  on_zext = λ w a p. ap (put_in args) (put-Zext inner w a) ∙ put-Zext args w (put_in inner a) ∙ ap (F.Zext w) p ∙ sym (put-Zext (map (put_in args) inner) w a);
  on_sext = λ w a p. ap (put_in args) (put-Sext inner w a) ∙ put-Sext args w (put_in inner a) ∙ ap (F.Sext w) p ∙ sym (put-Sext (map (put_in args) inner) w a);
  on_if = λ c a b p q r. ap (put_in args) (put-If inner c a b) ∙ put-If args (put_in inner c) (put_in inner a) (put_in inner b)
      ∙ ap (λ x. F.If x (put_in args (put_in inner a)) (put_in args (put_in inner b))) p
      ∙ ap (λ x. F.If (put_in (map (put_in args) inner) c) x (put_in args (put_in inner b))) q
      ∙ ap (F.If (put_in (map (put_in args) inner) c) (put_in (map (put_in args) inner) a)) r ∙ sym (put-If (map (put_in args) inner) c a b);
})

pub closes-args : (args : List Formula) → Closes (put_in args)
closes-args args = record {
  on_leaf = put-Leaf args;
  on_load = put-Load args;
  on_un = put-Un args;
  on_bin = put-Bin args;
  on_slice = put-Slice args;
  on_zext = put-Zext args;
  on_sext = put-Sext args;
  on_if = put-If args;
  on_call = joined args;
}
