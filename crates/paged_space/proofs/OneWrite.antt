-- One write through a frame, at the place j of the pages.
use Rattle.std.proofs.Common.{◌≡◌, ◌≢◌, ℕ, zero, suc, ◌+◌, ◌-◌, ◌≤◌, ◌<◌, Bool, true, false, not, List, [], ◌∷◌, ◌++◌, length, get_or, set, length-set, get_or-set_same, get_or-set_other, refl, sym, ap, subst, ◌∙◌, arith, inl, inr}
use Rattle.std.specs.Prelude.{◌==◌, ◌&&◌, slice_index, count_by}
use Rattle.std.proofs.lemmas.List.Sums.{sum_by-set, sum_by-append, sum_by-cons}
use Rattle.std.proofs.lemmas.Bool.{cases_eq, eq-eqb, ne_eqb}
use Rattle.page_pool.specs.Frames.{Frames, holders_of, spare_of, frame_byte}
use Rattle.paged_space.specs.Moves.{one_if, lost, moves, IsMoved, LeavesHolders}
use Rattle.paged_space.specs.FollowsLaws.{lost_none, moves_none}

abbrev times : ℕ → List ℕ → ℕ
times n xs = count_by (λ f. f == n) xs

pub one_yes : (b : Bool) → b ≡ true → one_if b ≡ 1
one_yes b e = ap one_if e

pub one_no : (b : Bool) → b ≡ false → one_if b ≡ 0
one_no b e = ap one_if e

none_of : (a b : Bool) → b ≡ false → one_if (a && b) ≡ 0
none_of a b e = elim a as (λ x. one_if (x && b) ≡ 0) [ true ↦ ap one_if e | false ↦ refl ]

pub times_set : (n m j : ℕ) (fs : List ℕ) → j < length fs → times n (set fs j m) + one_if (get_or fs j 0 == n) ≡ times n fs + one_if (m == n)
times_set n m j fs h = sum_by-set (λ f. one_if (f == n)) fs j m 0 h

pub times_join : (n : ℕ) (fs rest : List ℕ) → times n (fs ++ rest) ≡ times n fs + times n rest
times_join n fs rest = sum_by-append (λ f. one_if (f == n)) fs rest

pub times_some : (fs : List ℕ) (j : ℕ) → j < length fs → 1 ≤ times (get_or fs j 0) fs
times_some [] j h = absurd (omega arith)
times_some (f ∷ fs) zero h = let s = sum_by-cons (λ x. one_if (x == f)) f fs in let o = one_yes (f == f) (eq-eqb f f refl) in omega (arith, s, o)
times_some (f ∷ fs) (suc j) h =
    let k : j < length fs = omega arith in
    let r = times_some fs j k in
    let s = sum_by-cons (λ x. one_if (x == get_or fs j 0)) f fs in
    omega (arith, s, r)

pub lost_set : (n j m : ℕ) (fs : List ℕ) → j < length fs → lost n fs (set fs j m) ≡ one_if (not (get_or fs j 0 == m) && (get_or fs j 0 == n))
unfolding lost
lost_set n j m [] h = absurd (omega arith)
lost_set n zero m (f ∷ fs) h = let z = lost_none n fs in omega (arith, z)
lost_set n (suc j) m (f ∷ fs) h =
    let k : j < length fs = omega arith in
    let r = lost_set n j m fs k in
    let z : one_if (not (f == f) && (f == n)) ≡ 0 = rw (eq-eqb f f refl) refl in
    omega (arith, r, z)

pub moves_set : (j m : ℕ) (fs : List ℕ) → j < length fs → moves fs (set fs j m) ≡ one_if (not (get_or fs j 0 == m))
unfolding moves
moves_set j m [] h = absurd (omega arith)
moves_set zero m (f ∷ fs) h = let z = moves_none fs in omega (arith, z)
moves_set (suc j) m (f ∷ fs) h =
    let k : j < length fs = omega arith in
    let r = moves_set j m fs k in
    let z : one_if (not (f == f)) ≡ 0 = rw (eq-eqb f f refl) refl in
    omega (arith, r, z)

-- what a split leaves in the numbers of holders
pub record IsSplit (old new : Frames) (n m : ℕ) : Type 0 where
  pub shared : 2 ≤ holders_of old n
  pub within : n < length old.holders
  pub room : m < length old.holders
  pub free : holders_of old m ≡ 0
  pub holders : new.holders ≡ set (set old.holders n (holders_of old n - 1)) m 1
  pub spare : spare_of new + 1 ≡ spare_of old

pub split_apart : (old new : Frames) (n m : ℕ) → IsSplit old new n m → m ≡ n → ⊥
split_apart old new n m s e = let a = s.shared in let b = s.free in let c = ap (holders_of old) e in absurd (omega (arith, a, b, c))

pub split_new : (old new : Frames) (n m : ℕ) → IsSplit old new n m → holders_of new m ≡ 1
split_new old new n m s =
    let r : m < length (set old.holders n (holders_of old n - 1)) = let l = length-set old.holders n (holders_of old n - 1) in let q = s.room in omega (arith, l, q) in
    ap (λ hs. slice_index hs m) s.holders ∙ get_or-set_same (set old.holders n (holders_of old n - 1)) m 1 0 r

pub split_old : (old new : Frames) (n m : ℕ) → IsSplit old new n m → holders_of new n ≡ holders_of old n - 1
split_old old new n m s =
    let d : n ≡ m → ⊥ = λ e. split_apart old new n m s (sym e) in
    ap (λ hs. slice_index hs n) s.holders ∙ get_or-set_other (set old.holders n (holders_of old n - 1)) m n 1 0 d ∙ get_or-set_same old.holders n (holders_of old n - 1) 0 s.within

pub split_other : (old new : Frames) (n m x : ℕ) → IsSplit old new n m → (x ≡ n → ⊥) → (x ≡ m → ⊥) → holders_of new x ≡ holders_of old x
split_other old new n m x s a b =
    ap (λ hs. slice_index hs x) s.holders ∙ get_or-set_other (set old.holders n (holders_of old n - 1)) m x 1 0 b ∙ get_or-set_other old.holders n x (holders_of old n - 1) 0 a

pub split_moves : (ws : List Bool) (fs : List ℕ) (j n m : ℕ) (old new : Frames) → j < length fs → get_or fs j 0 ≡ n → get_or ws j false ≡ true → IsSplit old new n m → IsMoved ws fs (set fs j m) old new
split_moves ws fs j n m old new h e w s =
    let d = split_apart old new n m s in
    let sh = s.shared in
    let only : (i : ℕ) → (slice_index (set fs j m) i ≡ slice_index fs i → ⊥) → i ≡ j = λ i c. elim (cases_eq i j) [ inl q ↦ q | inr q ↦ absurd (c (get_or-set_other fs j i m 0 q)) ] in
    record {
      long = length-set fs j m;
      numbers = ap length s.holders ∙ length-set (set old.holders n (holders_of old n - 1)) m 1 ∙ length-set old.holders n (holders_of old n - 1);
      may = λ i c. ap (λ x. get_or ws x false) (only i c) ∙ w;
      fresh = λ i c.
          let g : slice_index (set fs j m) i ≡ m = ap (slice_index (set fs j m)) (only i c) ∙ get_or-set_same fs j m 0 h in
          (ap (holders_of old) g ∙ s.free, ap (holders_of new) g ∙ split_new old new n m s);
      stays = λ x k. elim (cases_eq x m) [
        | inl q ↦ let a = ap (holders_of new) q ∙ split_new old new n m s in omega (arith, a)
        | inr q ↦ elim (cases_eq x n) [
          | inl p ↦ let a = ap (holders_of new) p ∙ split_old old new n m s in omega (arith, a, sh)
          | inr p ↦ let a = split_other old new n m x s p q in omega (arith, a)
        ]
      ];
      loses = λ x k.
          let l = lost_set x j m fs h in
          elim (cases_eq x n) [
            | inl p ↦
                let a = ap (holders_of new) p ∙ split_old old new n m s in
                let b = ap (holders_of old) p in
                let u : (get_or fs j 0 == m) ≡ false = ne_eqb _ _ (λ v. d (sym v ∙ e)) in
                let v : (get_or fs j 0 == x) ≡ true = eq-eqb _ _ (e ∙ sym p) in
                let o : one_if (not (get_or fs j 0 == m) && (get_or fs j 0 == x)) ≡ 1 = rw (u, v) refl in
                omega (arith, a, b, l, o, sh)
            | inr p ↦
                let v : (get_or fs j 0 == x) ≡ false = ne_eqb _ _ (λ t. p (sym t ∙ e)) in
                let o : one_if (not (get_or fs j 0 == m) && (get_or fs j 0 == x)) ≡ 0 = none_of _ _ v in
                let q : x ≡ m → ⊥ = λ t. let f = s.free in let g = ap (holders_of old) t in absurd (omega (arith, f, g, k)) in
                let a = split_other old new n m x s p q in
                omega (arith, a, l, o)
          ];
      others = λ x z c.
          let p : x ≡ n → ⊥ = λ t. let g = ap (holders_of old) t in absurd (omega (arith, g, z, sh)) in
          let q : x ≡ m → ⊥ = λ t. p (sym (c j (get_or-set_same fs j m 0 h ∙ sym t)) ∙ e) in
          split_other old new n m x s p q ∙ z;
      spare =
          let u : (get_or fs j 0 == m) ≡ false = ne_eqb _ _ (λ v. d (sym v ∙ e)) in
          let o : one_if (not (get_or fs j 0 == m)) ≡ 1 = rw u refl in
          let a = moves_set j m fs h in
          let b = s.spare in
          omega (arith, a, b, o);
    }

pub split_keeps : (fs : List ℕ) (j n m : ℕ) (old new : Frames) → j < length fs → get_or fs j 0 ≡ n → IsSplit old new n m → ((x k : ℕ) → x ≢ m → k < 4096 → frame_byte new x k ≡ frame_byte old x k) → LeavesHolders fs (set fs j m) old new
split_keeps fs j n m old new h e s kept = λ rest o.
    let d = split_apart old new n m s in
    let sh = s.shared in
    let fr = s.free in (
      λ x.
          let c = o x in
          let a = times_set x m j fs h in
          let b = times_join x fs rest in
          let b2 = times_join x (set fs j m) rest in
          elim (cases_eq x m) [
            | inl q ↦
                let u = one_yes (m == x) (eq-eqb _ _ (sym q)) in
                let g = ap (holders_of old) q in
                let g2 = ap (holders_of new) q ∙ split_new old new n m s in
                omega (arith, a, b, b2, c, u, g, g2, fr)
            | inr q ↦
                let u = one_no (m == x) (ne_eqb _ _ (λ t. q (sym t))) in
                elim (cases_eq x n) [
                  | inl p ↦
                      let v = one_yes (get_or fs j 0 == x) (eq-eqb _ _ (e ∙ sym p)) in
                      let g = ap (holders_of old) p in
                      let g2 = ap (holders_of new) p ∙ split_old old new n m s in
                      omega (arith, a, b, b2, c, u, v, g, g2, sh)
                  | inr p ↦
                      let g = split_other old new n m x s p q in
                      omega (arith, a, b, b2, c, u, g)
                ]
          ],
      λ x k r l. kept x k (λ q.
          let c = o x in
          let b = times_join x fs rest in
          let g = ap (holders_of old) q in
          absurd (omega (arith, c, b, g, fr, r))) l,
    )

-- with no other holder the frame stays
pub alone_keeps : (fs : List ℕ) (j n : ℕ) (old new : Frames) → j < length fs → get_or fs j 0 ≡ n → holders_of old n ≡ 1 → new.holders ≡ old.holders → ((x k : ℕ) → x ≢ n → k < 4096 → frame_byte new x k ≡ frame_byte old x k) → LeavesHolders fs fs old new
alone_keeps fs j n old new h e one same kept = λ rest o. (
  λ x. let c = o x in let g = ap (λ hs. slice_index hs x) same in omega (arith, c, g),
  λ x k r l. kept x k (λ q.
      let c = o x in
      let b = times_join x fs rest in
      let t : 1 ≤ times x fs = subst (λ (v : ℕ). 1 ≤ times v fs) (e ∙ sym q) (times_some fs j h) in
      let g = ap (holders_of old) q in
      absurd (omega (arith, c, b, g, one, r, t))) l,
)

pub alone_moves : (ws : List Bool) (fs : List ℕ) (old new : Frames) → new.holders ≡ old.holders → IsMoved ws fs fs old new
alone_moves ws fs old new same = record {
  long = refl;
  numbers = ap length same;
  may = λ i c. absurd (c refl);
  fresh = λ i c. absurd (c refl);
  stays = λ x k. let g = ap (λ hs. slice_index hs x) same in omega (arith, g);
  loses = λ x k. let g = ap (λ hs. slice_index hs x) same in let z = lost_none x fs in omega (arith, g, z);
  others = λ x z c. ap (λ hs. slice_index hs x) same ∙ z;
  spare = let g = ap (times 0) same in let z = moves_none fs in omega (arith, g, z);
}
