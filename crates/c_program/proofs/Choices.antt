-- What is pushed for a choice among procedures.
use Rattle.std.proofs.Common.{◌≡◌, ◌≢◌, ℕ, zero, suc, ◌+◌, ◌-◌, ◌/◌, ◌<◌, ◌≤◌, List, [], ◌∷◌, ◌++◌, length, take, drop, get_or, arith, sym, ap, ◌∙◌, if◌then◌else◌, subst}
use Rattle.std.proofs.Math.ListN.{length-map}
use Rattle.std.proofs.lemmas.Bool.{lt-ltb}
use Rattle.std.proofs.lemmas.List.{get_or-map, take-map, drop-map, get_or-drop}
use Rattle.points.specs.declared.graph.Summary.{Summary}
use Rattle.c_lang.specs.declared.tree.Stmt.{Stmt}
use Rattle.c_lang.specs.declared.tree.Stmt.TheVariants.{If}
use Rattle.c_control.specs.Choice.{Tree, Leaf, Node, choose_c, is_low, is_high}
use Rattle.c_control.specs.Pieces.{leaf_c}
use Rattle.c_program.specs.Shown.{entries_of}
use Rattle.c_program.specs.Trees.{tree_by}

suc-zero : (n : ℕ) → suc n ≡ 0 → ⊥
suc-zero n e = omega arith

-- no condition may stand there, or there is only one procedure
pub one-leaf : (levels : ℕ) (sums : List Summary) (s : Summary) → 1 ≤ length sums → s ≡ get_or sums 0 s → (levels ≢ 0 → length sums < 2) → tree_by levels (entries_of sums) ≡ Leaf s.entry
unfolding tree_by
one-leaf zero [] s some is few = absurd (omega arith)
one-leaf zero (x ∷ xs) s some is few = ap (λ y. Leaf y.entry) (sym is)
one-leaf (suc n) [] s some is few = absurd (omega arith)
one-leaf (suc n) (x ∷ []) s some is few = ap (λ y. Leaf y.entry) (sym is)
one-leaf (suc n) (x ∷ y ∷ ys) s some is few = let lt : suc (suc (length ys)) < 2 = few (λ e. suc-zero n e) in absurd (omega (arith, lt))

pub halved : (n : ℕ) (es : List ℕ) → 2 ≤ length es → tree_by (suc n) es ≡ Node (get_or es (length es / 2) 0) (tree_by n (take (length es / 2) es)) (tree_by n (drop (length es / 2) es))
unfolding tree_by
halved n es many =
    ap (λ b. if b then Node (get_or es (length es / 2) 0) (tree_by n (take (length es / 2) es)) (tree_by n (drop (length es / 2) es)) else Leaf (get_or es 0 0)) (lt-ltb 1 (length es) many)

node-same : (a b : ℕ) (t u v w : Tree) → a ≡ b → t ≡ u → v ≡ w → Node a t v ≡ Node b u w
node-same a b t u v w p q r = cc

module _ (n : ℕ) (sums front back : List Summary) (s : Summary) (many : 2 ≤ length sums) (low : front ≡ take (length sums / 2) sums) (high : back ≡ drop (length sums / 2) sums) (first : s ≡ get_or back 0 s) where
  abbrev half : ℕ
  half = length sums / 2

  abbrev entry : Summary → ℕ
  entry s = s.entry

  same-length : length (entries_of sums) ≡ length sums
  same-length = length-map sums entry

  lower : take (length (entries_of sums) / 2) (entries_of sums) ≡ entries_of front
  lower = ap (λ k. take (k / 2) (entries_of sums)) same-length ∙ take-map entry half sums ∙ sym (ap entries_of low)

  upper : drop (length (entries_of sums) / 2) (entries_of sums) ≡ entries_of back
  upper = ap (λ k. drop (k / 2) (entries_of sums)) same-length ∙ drop-map entry half sums ∙ sym (ap entries_of high)

  at-half : get_or sums half s ≡ s
  at-half = let e : half + 0 ≡ half = omega arith in sym (first ∙ ap (λ l. get_or l 0 s) high ∙ get_or-drop half sums 0 s ∙ ap (λ k. get_or sums k s) e)

  middle : get_or (entries_of sums) (length (entries_of sums) / 2) 0 ≡ s.entry
  middle = let lt : half < length sums = omega (arith, many) in ap (λ k. get_or (entries_of sums) (k / 2) 0) same-length ∙ get_or-map entry sums half s 0 lt ∙ ap entry at-half

  pub halves : tree_by (suc n) (entries_of sums) ≡ Node s.entry (tree_by n (entries_of front)) (tree_by n (entries_of back))
  halves = halved n (entries_of sums) (subst (λ k. 2 ≤ k) (sym same-length) many) ∙ node-same _ _ _ _ _ _ middle (ap (tree_by n) lower) (ap (tree_by n) upper)

-- two halves
pub two-halves : (levels n : ℕ) (sums front back : List Summary) (s : Summary) → levels ≢ 0 → n ≡ levels - 1 → 2 ≤ length sums → front ≡ take (length sums / 2) sums → back ≡ drop (length sums / 2) sums → s ≡ get_or back 0 s
    → tree_by levels (entries_of sums) ≡ Node s.entry (tree_by n (entries_of front)) (tree_by n (entries_of back))
two-halves levels n sums front back s ne is many low high first = let e : levels ≡ suc n = omega (arith, is) in ap (λ k. tree_by k (entries_of sums)) e ∙ halves n sums front back s many low high first

-- what is pushed onto nothing
pub from-none : (x0 x1 y : List Stmt) → x0 ≡ [] → x1 ≡ x0 ++ y → x1 ≡ y
from-none x0 x1 y none h = h ∙ ap (λ l. l ++ y) none

module _ (code : ℕ → List Stmt → List Stmt) (x0 : List Stmt) where
  pub leaf-pushed : (t : Tree) (e : ℕ) (x1 : List Stmt) → t ≡ Leaf e → x1 ≡ x0 ++ leaf_c code e [] → x1 ≡ x0 ++ choose_c (leaf_c code) t []
  leaf-pushed t e x1 is h = h ∙ ap (λ t. x0 ++ choose_c (leaf_c code) t []) (sym is)

  pub halves-pushed : (t l h : Tree) (middle : ℕ) (low high x1 : List Stmt) → t ≡ Node middle l h → low ≡ choose_c (leaf_c code) l [] → high ≡ choose_c (leaf_c code) h []
      → x1 ≡ x0 ++ If (is_low middle) low ∷ If (is_high middle) high ∷ [] → x1 ≡ x0 ++ choose_c (leaf_c code) t []
  halves-pushed t l h middle low high x1 is lows highs made =
      made ∙ ap (λ r. x0 ++ If (is_low middle) r ∷ If (is_high middle) high ∷ []) lows
      ∙ ap (λ r. x0 ++ If (is_low middle) (choose_c (leaf_c code) l []) ∷ If (is_high middle) r ∷ []) highs
      ∙ ap (λ t. x0 ++ choose_c (leaf_c code) t []) (sym is)
