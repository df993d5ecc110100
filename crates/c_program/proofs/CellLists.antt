-- Statements over lists of cells, one cell after another.
use Rattle.std.proofs.Common.{◌≡◌, ℕ, Bool, true, false, not, if◌then◌else◌, List, [], ◌∷◌, ◌++◌, append_assoc, refl, sym, ap, ◌∙◌}
use Rattle.c_lang.specs.declared.tree.CExpr.TheVariants.{Of}
use Rattle.c_lang.specs.declared.tree.Stmt.{Stmt}
use Rattle.c_lang.specs.declared.tree.Stmt.TheVariants.{Set}
use Rattle.c_lang.specs.declared.tree.Var.TheVariants.{Cell, Result}
use Rattle.c_lang.specs.State.{has}
use Rattle.c_control.specs.Pieces.{take_c, give_c, without}

-- what is pushed behind some statements stands before their rest
pub onto : (f : List Stmt → List Stmt) → ((r : List Stmt) → f r ≡ f [] ++ r) → (x0 x1 x2 g : List Stmt) → x1 ≡ x0 ++ f [] → x2 ≡ x1 ++ g → x2 ≡ x0 ++ f g
onto f law x0 x1 x2 g first then_g = then_g ∙ ap (λ l. l ++ g) first ∙ append_assoc x0 (f []) g ∙ ap (λ l. x0 ++ l) (sym (law g))

pub take-rest : (cells : List ℕ) (r : List Stmt) → take_c cells r ≡ take_c cells [] ++ r
take-rest [] r = refl
take-rest (c ∷ cells) r = ap (λ l. Set (Cell c) (Of (Result c)) ∷ l) (take-rest cells r)

pub give-rest : (cells : List ℕ) (r : List Stmt) → give_c cells r ≡ give_c cells [] ++ r
give-rest [] r = refl
give-rest (c ∷ cells) r = ap (λ l. Set (Result c) (Of (Cell c)) ∷ l) (give-rest cells r)

-- the members of a list with one more in front
pub without-cons : (c : ℕ) (cells but : List ℕ) (r : List Stmt) → give_c (without (c ∷ cells) but) r ≡ give_c (without (c ∷ []) but) (give_c (without cells but) r)
without-cons c cells but r = by (has but c)
  where
    by : (b : Bool) → give_c (if not b then c ∷ without cells but else without cells but) r ≡ give_c (if not b then c ∷ [] else []) (give_c (without cells but) r)
    by true = refl
    by false = refl
