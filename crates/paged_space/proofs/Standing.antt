-- Frames that stand in a pool, call by call.
use Rattle.std.proofs.Common.{◌≡◌, ℕ, ◌+◌, ◌-◌, ◌≤◌, ◌<◌, List, [], ◌∷◌, length, set, get_or-set_same, get_or-set_other, refl, sym, ap, subst, ◌∙◌, arith, inl, inr}
use Rattle.std.specs.Prelude.{◌==◌, slice_index, count_by}
use Rattle.std.proofs.lemmas.Bool.{cases_eq, cases_lt, eq-eqb, ne_eqb}
use Rattle.page_pool.specs.Frames.{Frames, HasJoined, HoldsAlone, IsHeld, IsTaken, holders_of}
use Rattle.paged_space.specs.Moves.{StandIn, one_if}
use Rattle.paged_space.proofs.OneWrite.{split_keeps}
use Rattle.paged_space.proofs.WholeSpace.{drop_one, standing_held}

-- one number of holders changed
stand_set : (n v : ℕ) (gs : List ℕ) (a b : Frames) → b.holders ≡ set a.holders n v → n < length a.holders → count_by (λ f. f == n) gs ≤ v → ((x : ℕ) → (x ≡ n → ⊥) → count_by (λ f. f == x) gs ≤ holders_of a x) → StandIn gs b
stand_set n v gs a b e l here others = λ x. elim (cases_eq x n) [
  | inl q ↦
      let k = ap (λ hs. slice_index hs x) e ∙ ap (slice_index (set a.holders n v)) q ∙ get_or-set_same a.holders n v 0 l in
      let c = ap (λ y. count_by (λ f. f == y) gs) q in
      omega (arith, k, c, here)
  | inr q ↦
      let k = ap (λ hs. slice_index hs x) e ∙ get_or-set_other a.holders n x v 0 q in
      let o = others x q in
      omega (arith, k, o)
]

pub stand_taken : (n : ℕ) (page : ℕ → ℕ) (fs : List ℕ) (a b : Frames) → IsTaken a b n page → StandIn fs a → StandIn (n ∷ fs) b
stand_taken n page fs a b t c = stand_set n 1 (n ∷ fs) a b t.holders t.within
    (let d = drop_one n n fs in let y = ap one_if (eq-eqb n n refl) in let z = t.free in let k = c n in omega (arith, d, y, z, k))
    (λ x q. let d = drop_one x n fs in let y = ap one_if (ne_eqb n x (λ e. q (sym e))) in let k = c x in omega (arith, d, y, k))

pub stand_joined : (n : ℕ) (fs : List ℕ) (a b : Frames) → HasJoined a b n → n < length a.holders → StandIn fs a → StandIn (n ∷ fs) b
stand_joined n fs a b j l c = stand_set n (holders_of a n + 1) (n ∷ fs) a b (ap (λ (f : Frames). f.holders) j.1) l
    (let d = drop_one n n fs in let y = ap one_if (eq-eqb n n refl) in let k = c n in omega (arith, d, y, k))
    (λ x q. let d = drop_one x n fs in let y = ap one_if (ne_eqb n x (λ e. q (sym e))) in let k = c x in omega (arith, d, y, k))

pub stand_given : (n : ℕ) (fs : List ℕ) (a b : Frames) → b ≡ record a { holders = set a.holders n (holders_of a n - 1) } → StandIn (n ∷ fs) a → StandIn fs b
stand_given n fs a b e c = stand_set n (holders_of a n - 1) fs a b (ap (λ (f : Frames). f.holders) e) (standing_held (n ∷ fs) 0 a c (omega arith)).0
    (let d = drop_one n n fs in let y = ap one_if (eq-eqb n n refl) in let k = c n in omega (arith, d, y, k))
    (λ x q. let d = drop_one x n fs in let k = c x in omega (arith, d, k))

pub stand_written : (n m : ℕ) (fs : List ℕ) (a b : Frames) → HoldsAlone a b n m → StandIn (n ∷ fs) a → StandIn (m ∷ fs) b
stand_written n m fs a b p c =
    let h = standing_held (n ∷ fs) 0 a c (omega arith) in
    let h1 = h.1 in
    elim (cases_lt (holders_of a n) 2) [
      | inl s ↦
          let one : holders_of a n ≡ 1 = omega (arith, s, h1) in
          let q = p.alone one in
          subst (λ (x : ℕ). StandIn (x ∷ fs) b) (sym q.0) (λ x. (let k = c x in let g = ap (λ hs. slice_index hs x) q.1 in omega (arith, k, g)))
      | inr s ↦
          let q = p.split s in
          (split_keeps (n ∷ []) 0 n m a b (omega arith) refl (record { shared = s; within = h.0; room = q.0; free = q.1; holders = q.2; spare = q.3 }) p.others fs c).0
    ]

-- the first two in the other order
pub stand_swap : (n m : ℕ) (fs : List ℕ) (s : Frames) → StandIn (n ∷ m ∷ fs) s → StandIn (m ∷ n ∷ fs) s
stand_swap n m fs s c = λ x.
    let k = c x in
    let a = drop_one x n (m ∷ fs) in
    let b = drop_one x m fs in
    let d = drop_one x m (n ∷ fs) in
    let e = drop_one x n fs in
    omega (arith, k, a, b, d, e)

pub stand_rest : (n : ℕ) (fs : List ℕ) (s : Frames) → StandIn (n ∷ fs) s → StandIn fs s
stand_rest n fs s c = λ x. let k = c x in let a = drop_one x n fs in omega (arith, k, a)

pub first_held : (n : ℕ) (fs : List ℕ) (s : Frames) → StandIn (n ∷ fs) s → IsHeld s n
first_held n fs s c = standing_held (n ∷ fs) 0 s c (omega arith)

pub second_held : (n m : ℕ) (fs : List ℕ) (s : Frames) → StandIn (n ∷ m ∷ fs) s → IsHeld s m
second_held n m fs s c = standing_held (n ∷ m ∷ fs) 1 s c (omega arith)
