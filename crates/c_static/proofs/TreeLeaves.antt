-- Each leaf of the choice among some procedures is one of them.
use Rattle.std.proofs.Common.{◌≡◌, ℕ, zero, suc, ◌+◌, ◌/◌, ◌<◌, ◌≤◌, Bool, true, false, if◌then◌else◌, List, length, take, drop, get_or, refl, sym, subst, arith}
use Rattle.std.specs.Prelude.{nat_lt}
use Rattle.std.specs.List.{Contains}
use Rattle.std.proofs.lemmas.Bool.{ltb-true}
use Rattle.std.proofs.lemmas.List.{get_or-take, get_or-drop, get_or_default, length-take-le, length-drop}
use Rattle.c_control.specs.Choice.{Leaf, Node}
use Rattle.c_program.specs.Trees.{tree_by, tree_of}
use Rattle.c_static.proofs.PieceSays.{AllLeaves}

module _ (Q : ℕ → Type 0) where
  -- Q holds of each number of a list, by its place
  abbrev Holds : List ℕ → Type 0
  Holds es = (i : ℕ) → i < length es → Q (get_or es i 0)

  low : (es : List ℕ) (h : ℕ) → h ≤ length es → Holds es → Holds (take h es)
  low es h within q i lt =
      let l = length-take-le h es within in
      let below : i < h = omega (arith, l, lt) in
      subst Q (sym (get_or-take h es i 0 below)) (q i (omega (arith, within, below)))

  high : (es : List ℕ) (h : ℕ) → h ≤ length es → Holds es → Holds (drop h es)
  high es h within q i lt =
      let l = length-drop h es in
      subst Q (sym (get_or-drop h es i 0)) (q (h + i) (omega (arith, l, lt, within)))

  leaves-by : (n : ℕ) (es : List ℕ) → 1 ≤ length es → Holds es → AllLeaves Q (tree_by n es)
  unfolding tree_by
  leaves-by zero es some q = q 0 (omega (arith, some))
  leaves-by (suc n) es some q = by (nat_lt 1 (length es)) refl (λ some q. leaves-by n (take (length es / 2) es) some q) (λ some q. leaves-by n (drop (length es / 2) es) some q)
    where
      by : (b : Bool) → nat_lt 1 (length es) ≡ b → (1 ≤ length (take (length es / 2) es) → Holds (take (length es / 2) es) → AllLeaves Q (tree_by n (take (length es / 2) es)))
          → (1 ≤ length (drop (length es / 2) es) → Holds (drop (length es / 2) es) → AllLeaves Q (tree_by n (drop (length es / 2) es)))
          → AllLeaves Q (if b then Node (get_or es (length es / 2) 0) (tree_by n (take (length es / 2) es)) (tree_by n (drop (length es / 2) es)) else Leaf (get_or es 0 0))
      by false e l r = q 0 (omega (arith, some))
      by true e l r =
          let many = ltb-true 1 (length es) e in
          let within : length es / 2 ≤ length es = omega arith in
          let low_length = length-take-le (length es / 2) es within in
          let high_length = length-drop (length es / 2) es in
          (l (omega (arith, low_length, many)) (low es (length es / 2) within q), r (omega (arith, high_length, many)) (high es (length es / 2) within q))

pub each-entry : (Q : ℕ → Type 0) (es : List ℕ) → 1 ≤ length es → ((x : ℕ) → Contains es x → Q x) → AllLeaves Q (tree_of es)
each-entry Q es some h = leaves-by Q 17 es some (λ i lt. h (get_or es i 0) (i, lt, get_or_default es i (get_or es i 0) 0 lt))
