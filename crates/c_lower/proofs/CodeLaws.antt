-- What is pushed for an expression, form by form.
use Rattle.std.proofs.Common.{◌≡◌, ℕ, ◌+◌, Bool, true, false, List, [], ◌∷◌, ◌++◌, append_assoc, refl, sym, ap, ◌∙◌}
use Rattle.rtl_core.specs.declared.expr.Un.{Un as UnOp}
use Rattle.rtl_core.specs.declared.expr.Bin.{Bin as BinOp}
use Rattle.rtl_core.specs.declared.expr.Expr.{Expr}
use Rattle.rtl_core.specs.declared.expr.Expr.TheVariants as E
use Rattle.rtl_core.specs.declared.machine.Machine.{Machine}
use Rattle.rtl_core.specs.Arithmetic.{is_division}
use Rattle.rtl_core.specs.Terms.{Term, term_of, width_of}
use Rattle.rtl_core.proofs.TermLaws.{term-Const, term-Cell, term-Load, term-Un, term-Bin, term-Slice, term-Zext, term-Sext, term-If}
use Rattle.c_lang.specs.declared.tree.Var.TheVariants.{Temp}
use Rattle.c_lang.specs.declared.tree.CExpr.TheVariants.{Num, Choose}
use Rattle.c_lang.specs.declared.tree.Stmt.{Stmt}
use Rattle.c_lang.specs.declared.tree.Stmt.TheVariants.{Set, Load as LoadInto}
use Rattle.c_lower.specs.Cells.{cell_c}
use Rattle.c_lower.specs.Code.{temp, code, guarded}
use Rattle.c_lower.specs.Formula.{binary_c, unary_c, bits_c, sign_extended_c}
use Rattle.c_lower.proofs.Appends.{code_on}

-- what is pushed behind some statements stands before their rest
pub onto : (f : List Stmt → List Stmt) → ((r : List Stmt) → f [] ++ r ≡ f r) → (x0 x1 x2 g : List Stmt) → x1 ≡ x0 ++ f [] → x2 ≡ x1 ++ g → x2 ≡ x0 ++ f g
onto f law x0 x1 x2 g first then_g = then_g ∙ ap (λ l. l ++ g) first ∙ append_assoc x0 (f []) g ∙ ap (λ l. x0 ++ l) (law g)

guarded_then : (t : Bool) (pc k : ℕ) (r : List Stmt) → guarded t pc k [] ++ r ≡ guarded t pc k r
guarded_then true pc k r = refl
guarded_then false pc k r = refl

module _ (m : Machine) (pc k : ℕ) (x0 : List Stmt) where
  -- the term's statements, and then g
  pub coded : (t : Term) (x1 x2 g : List Stmt) → x1 ≡ x0 ++ code m pc t k [] → x2 ≡ x1 ++ g → x2 ≡ x0 ++ code m pc t k g
  coded t = onto (code m pc t k) (code_on m pc t k []) x0

  as_term : (e : Expr) (t : Term) → term_of e ≡ t → x0 ++ code m pc t k [] ≡ x0 ++ code m pc (term_of e) k []
  as_term e t is = ap (λ t. x0 ++ code m pc t k []) (sym is)

  pub code_Const : (e : Expr) (w n : ℕ) → e ≡ E.Const w n → x0 ++ Set (Temp k) (Num n) ∷ [] ≡ x0 ++ code m pc (term_of e) k []
  code_Const e w n is = as_term e _ (ap term_of is ∙ term-Const w n)

  pub code_Cell : (e : Expr) (c : ℕ) → e ≡ E.Cell c → x0 ++ Set (Temp k) (cell_c m.zero c) ∷ [] ≡ x0 ++ code m pc (term_of e) k []
  code_Cell e c is = as_term e _ (ap term_of is ∙ term-Cell c)

  pub code_Load : (e : Expr) (b : ℕ) (a : Expr) (x1 : List Stmt) → e ≡ E.Load b a → x1 ≡ x0 ++ code m pc (term_of a) k [] → x1 ++ LoadInto (Temp k) b (temp k) ∷ [] ≡ x0 ++ code m pc (term_of e) k []
  code_Load e b a x1 is h = coded (term_of a) x1 _ (LoadInto (Temp k) b (temp k) ∷ []) h refl ∙ as_term e _ (ap term_of is ∙ term-Load b a)

  pub code_Un : (e : Expr) (op : UnOp) (a : Expr) (x1 : List Stmt) → e ≡ E.Un op a → x1 ≡ x0 ++ code m pc (term_of a) k [] →
      x1 ++ Set (Temp k) (unary_c op (width_of m.widths (term_of a)) (temp k)) ∷ [] ≡ x0 ++ code m pc (term_of e) k []
  code_Un e op a x1 is h = coded (term_of a) x1 _ (Set (Temp k) (unary_c op (width_of m.widths (term_of a)) (temp k)) ∷ []) h refl ∙ as_term e _ (ap term_of is ∙ term-Un op a)

  pub code_Slice : (e a : Expr) (lo hi : ℕ) (x1 : List Stmt) → e ≡ E.Slice a lo hi → x1 ≡ x0 ++ code m pc (term_of a) k [] → x1 ++ Set (Temp k) (bits_c lo hi (temp k)) ∷ [] ≡ x0 ++ code m pc (term_of e) k []
  code_Slice e a lo hi x1 is h = coded (term_of a) x1 _ (Set (Temp k) (bits_c lo hi (temp k)) ∷ []) h refl ∙ as_term e _ (ap term_of is ∙ term-Slice a lo hi)

  pub code_Zext : (e : Expr) (w : ℕ) (a : Expr) (x1 : List Stmt) → e ≡ E.Zext w a → x1 ≡ x0 ++ code m pc (term_of a) k [] → x1 ≡ x0 ++ code m pc (term_of e) k []
  code_Zext e w a x1 is h = h ∙ as_term e _ (ap term_of is ∙ term-Zext w a)

  pub code_Sext : (e : Expr) (w : ℕ) (a : Expr) (x1 : List Stmt) → e ≡ E.Sext w a → x1 ≡ x0 ++ code m pc (term_of a) k [] →
      x1 ++ Set (Temp k) (sign_extended_c (width_of m.widths (term_of a)) w (temp k)) ∷ [] ≡ x0 ++ code m pc (term_of e) k []
  code_Sext e w a x1 is h = coded (term_of a) x1 _ (Set (Temp k) (sign_extended_c (width_of m.widths (term_of a)) w (temp k)) ∷ []) h refl ∙ as_term e _ (ap term_of is ∙ term-Sext w a)

module _ (m : Machine) (pc k : ℕ) (x0 x1 x2 x3 : List Stmt) where
  pub code_Bin : (e : Expr) (op : BinOp) (a b : Expr) → e ≡ E.Bin op a b → x1 ≡ x0 ++ code m pc (term_of a) k [] → x2 ≡ x1 ++ code m pc (term_of b) (k + 1) [] → x3 ≡ x2 ++ guarded (is_division op) pc (k + 1) [] →
      x3 ++ Set (Temp k) (binary_c op (width_of m.widths (term_of a)) (temp k) (temp (k + 1))) ∷ [] ≡ x0 ++ code m pc (term_of e) k []
  code_Bin e op a b is h1 h2 h3 =
      let s = Set (Temp k) (binary_c op (width_of m.widths (term_of a)) (temp k) (temp (k + 1))) in
      let g3 = onto (guarded (is_division op) pc (k + 1)) (guarded_then (is_division op) pc (k + 1)) x2 x3 (x3 ++ s ∷ []) (s ∷ []) h3 refl in
      let g2 = coded m pc (k + 1) x1 (term_of b) x2 _ (guarded (is_division op) pc (k + 1) (s ∷ [])) h2 g3 in
      coded m pc k x0 (term_of a) x1 _ (code m pc (term_of b) (k + 1) (guarded (is_division op) pc (k + 1) (s ∷ []))) h1 g2 ∙ as_term m pc k x0 e _ (ap term_of is ∙ term-Bin op a b)

  pub code_If : (e c a b : Expr) → e ≡ E.If c a b → x1 ≡ x0 ++ code m pc (term_of c) k [] → x2 ≡ x1 ++ code m pc (term_of a) (k + 1) [] → x3 ≡ x2 ++ code m pc (term_of b) (k + 2) [] →
      x3 ++ Set (Temp k) (Choose (temp k) (temp (k + 1)) (temp (k + 2))) ∷ [] ≡ x0 ++ code m pc (term_of e) k []
  code_If e c a b is h1 h2 h3 =
      let s = Set (Temp k) (Choose (temp k) (temp (k + 1)) (temp (k + 2))) in
      let g3 = coded m pc (k + 2) x2 (term_of b) x3 (x3 ++ s ∷ []) (s ∷ []) h3 refl in
      let g2 = coded m pc (k + 1) x1 (term_of a) x2 _ (code m pc (term_of b) (k + 2) (s ∷ [])) h2 g3 in
      coded m pc k x0 (term_of c) x1 _ (code m pc (term_of a) (k + 1) (code m pc (term_of b) (k + 2) (s ∷ []))) h1 g2 ∙ as_term m pc k x0 e _ (ap term_of is ∙ term-If c a b)

pub ruleset code_laws = (code_Const, code_Cell, code_Load, code_Un, code_Slice, code_Zext, code_Sext, code_Bin, code_If)
