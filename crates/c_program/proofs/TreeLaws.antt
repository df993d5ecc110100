-- The choice among ascending procedures leads each to itself.
use Rattle.std.proofs.Common.{◌≡◌, ℕ, zero, suc, ◌+◌, ◌-◌, ◌/◌, ◌^◌, ◌<◌, ◌≤◌, List, length, take, drop, get_or, arith, refl, sym, ap, ◌∙◌, if◌then◌else◌, Bool, true, false, ⊎_elim, ◌⊎◌, inl, inr}
use Rattle.std.specs.Prelude.{nat_lt}
use Rattle.std.specs.List.Sorted.{IsStrictlySortedBy}
use Rattle.std.specs.Ordering.{nat_cmp}
use Rattle.std.proofs.lemmas.Map.Keys.{below_from_sorted}
use Rattle.std.proofs.Math.Nat.{pow-suc}
use Rattle.std.proofs.lemmas.List.{get_or_default}
use Rattle.std.proofs.lemmas.Bool.{lt-ltb, le-ltb, cases_lt}
use Rattle.std.proofs.lemmas.List.{get_or-take, get_or-drop, length-take-le, length-drop}
use Rattle.c_control.specs.Choice.{Tree, Leaf, Node, leaf_of, levels}
use Rattle.c_program.specs.Choosing.{HalvesChoose}
use Rattle.c_program.specs.Trees.{tree_by}
use Rattle.c_program.proofs.Choices.{halved}

-- ---- levels
capped : (n e m : ℕ) (low high : Tree) (b : Bool) → levels low ≤ n → levels high ≤ n → levels (if b then Node m low high else Leaf e) ≤ suc n
capped n e m low high true l h = omega (arith, l, h)
capped n e m low high false l h = omega arith

under : (n : ℕ) (es : List ℕ) → levels (tree_by n es) ≤ n
unfolding tree_by
under zero es = omega arith
under (suc n) es =
    capped n (get_or es 0 0) (get_or es (length es / 2) 0) (tree_by n (take (length es / 2) es)) (tree_by n (drop (length es / 2) es)) (nat_lt 1 (length es))
    (under n (take (length es / 2) es)) (under n (drop (length es / 2) es))

-- ---- one procedure
lone : (n : ℕ) (es : List ℕ) → length es ≤ 1 → tree_by n es ≡ Leaf (get_or es 0 0)
unfolding tree_by
lone zero es few = refl
lone (suc n) es few =
    ap (λ b. if b then Node (get_or es (length es / 2) 0) (tree_by n (take (length es / 2) es)) (tree_by n (drop (length es / 2) es)) else Leaf (get_or es 0 0)) (le-ltb 1 (length es) few)

none : (es : List ℕ) → tree_by 0 es ≡ Leaf (get_or es 0 0)
unfolding tree_by
none es = refl

-- a place at which a number stands
record IsAt (es : List ℕ) (v : ℕ) : Type 0 where
  place : ℕ
  within : place < length es
  is : v ≡ get_or es place 0

-- each number is below those behind it
record Rises (es : List ℕ) : Type 0 where
  rises : (i j : ℕ) → i < j → j < length es → get_or es i 0 < get_or es j 0

-- ---- halves
module _ (es : List ℕ) (h : ℕ) (within : h ≤ length es) where
  low-length : length (take h es) ≡ h
  low-length = length-take-le h es within

  high-length : length (drop h es) ≡ length es - h
  high-length = length-drop h es

  low-at : (v : ℕ) → IsAt (take h es) v → IsAt es v
  low-at v at =
      let l = low-length in
      let lt : at.place < h = omega (arith, l, at.within) in
      record { place = at.place; within = omega (arith, within, lt); is = at.is ∙ get_or-take h es at.place 0 lt }

  high-at : (v : ℕ) → IsAt (drop h es) v → IsAt es v
  high-at v at = let l = high-length in record { place = h + at.place; within = omega (arith, l, at.within); is = at.is ∙ get_or-drop h es at.place 0 }

  low-rises : Rises es → Rises (take h es)
  low-rises r = record {
    rises = λ i j lt in_low.
        let l = low-length in
        let jh : j < h = omega (arith, l, in_low) in
        let ih : i < h = omega (arith, lt, jh) in
        let up = r.rises i j lt (omega (arith, within, jh)) in
        let a = get_or-take h es i 0 ih in
        let b = get_or-take h es j 0 jh in
        omega (arith, up, a, b);
  }

  high-rises : Rises es → Rises (drop h es)
  high-rises r = record {
    rises = λ i j lt in_high.
        let l = high-length in
        let up = r.rises (h + i) (h + j) (omega (arith, lt)) (omega (arith, l, in_high)) in
        let a = get_or-drop h es i 0 in
        let b = get_or-drop h es j 0 in
        omega (arith, up, a, b);
  }

-- where a target leads from two halves
led : (m x : ℕ) (low high : Tree) → ((x < m) × (leaf_of (Node m low high) x ≡ leaf_of low x)) ⊎ ((m ≤ x) × (leaf_of (Node m low high) x ≡ leaf_of high x))
led m x low high = ⊎_elim
    (λ lt. inl (lt, ap (λ b. if b then leaf_of low x else leaf_of high x) (lt-ltb x m lt)))
    (λ le. inr (le, ap (λ b. if b then leaf_of low x else leaf_of high x) (le-ltb x m le)))
    (cases_lt x m)

-- ---- each leaf is a procedure
leaf-at : (n : ℕ) (es : List ℕ) (x : ℕ) → 1 ≤ length es → IsAt es (leaf_of (tree_by n es) x)
leaf-at zero es x some = record { place = 0; within = omega (arith, some); is = ap (λ t. leaf_of t x) (none es) }
leaf-at (suc n) es x some = ⊎_elim
    (λ few. record { place = 0; within = omega (arith, some); is = ap (λ t. leaf_of t x) (lone (suc n) es (omega (arith, few))) })
    (λ many.
    let h : ℕ = length es / 2 in
    let within : h ≤ length es = omega arith in
    let low = low-at es h within _ (leaf-at n (take h es) x (let l = low-length es h within in omega (arith, l, many))) in
    let high = high-at es h within _ (leaf-at n (drop h es) x (let l = high-length es h in omega (arith, l, many))) in
    let tree = ap (λ t. leaf_of t x) (halved n es many) in
    ⊎_elim
    (λ is. record { place = low.place; within = low.within; is = tree ∙ is.1 ∙ low.is })
    (λ is. record { place = high.place; within = high.within; is = tree ∙ is.1 ∙ high.is })
    (led (get_or es h 0) x (tree_by n (take h es)) (tree_by n (drop h es))))
    (cases_lt (length es) 2)

-- ---- each procedure leads to itself
itself : (n : ℕ) (es : List ℕ) → length es ≤ 2 ^ n → Rises es → (i : ℕ) → i < length es → leaf_of (tree_by n es) (get_or es i 0) ≡ get_or es i 0
itself zero es few r i within = let first : i ≡ 0 = omega arith in ap (λ t. leaf_of t (get_or es i 0)) (none es) ∙ ap (λ k. get_or es k 0) (sym first)
itself (suc n) es few r i within = ⊎_elim
    (λ one. let first : i ≡ 0 = omega (arith, one, within) in ap (λ t. leaf_of t (get_or es i 0)) (lone (suc n) es (omega (arith, one))) ∙ ap (λ k. get_or es k 0) (sym first))
    (λ many.
    let h : ℕ = length es / 2 in
    let inside : h ≤ length es = omega arith in
    let x : ℕ = get_or es i 0 in
    let tree = ap (λ t. leaf_of t x) (halved n es many) in
    let twice = pow-suc 2 n in
    ⊎_elim
    (λ lt.
    let l = low-length es h inside in
    let at = get_or-take h es i 0 lt in
    let up = r.rises i h lt (omega (arith, many)) in
    let rec_ = itself n (take h es) (omega (arith, l, few, twice)) (low-rises es h inside r) i (omega (arith, l, lt)) in
    tree ∙ ap (λ b. if b then leaf_of (tree_by n (take h es)) x else leaf_of (tree_by n (drop h es)) x) (lt-ltb x (get_or es h 0) up)
    ∙ sym (ap (leaf_of (tree_by n (take h es))) at) ∙ rec_ ∙ at)
    (λ le.
    let l = high-length es h in
    let e : h + (i - h) ≡ i = omega (arith, le) in
    let at = get_or-drop h es (i - h) 0 ∙ ap (λ k. get_or es k 0) e in
    let rec_ = itself n (drop h es) (omega (arith, l, few, twice)) (high-rises es h inside r) (i - h) (omega (arith, l, le, within)) in
    tree ∙ ap (λ b. if b then leaf_of (tree_by n (take h es)) x else leaf_of (tree_by n (drop h es)) x) (le-ltb x (get_or es h 0) (up-to h i le within))
    ∙ sym (ap (leaf_of (tree_by n (drop h es))) at) ∙ rec_ ∙ at)
    (cases_lt i h))
    (cases_lt (length es) 2)
  where
    up-to : (h j : ℕ) → h ≤ j → j < length es → get_or es h 0 ≤ get_or es j 0
    up-to h j le lt = ⊎_elim (λ before. let up = r.rises h j before lt in omega arith) (λ after. let same : h ≡ j = omega arith in let e = ap (λ k. get_or es k 0) same in omega arith) (cases_lt h j)

risen : (es : List ℕ) → IsStrictlySortedBy nat_cmp es → Rises es
risen es sorted = record { rises = λ i j lt within. below_from_sorted es i j 0 sorted lt within }

pub choosing : HalvesChoose
choosing es some few sorted = record {
  leaves = λ x. let at = leaf-at 17 es x some in (at.place, at.within, get_or_default es at.place _ 0 at.within ∙ sym at.is);
  chosen = λ x there.
      let e = sym (get_or_default es there.0 x 0 there.1) ∙ there.2 in
      sym (ap (leaf_of (tree_by 17 es)) e) ∙ itself 17 es few (risen es sorted) there.0 there.1 ∙ e;
  few = under 17 es;
}
