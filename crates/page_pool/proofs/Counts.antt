-- Counts and places of frames.
use Rattle.std.proofs.Common.{◌≡◌, ◌≢◌, ℕ, suc, ◌+◌, ◌-◌, ◌≤◌, ◌<◌, Bool, cond, List, [], ◌∷◌, ◌++◌, length, take, get_or, set, length-set, get_or-set_same, get_or-set_other, refl, sym, ap, subst, ◌∙◌, arith, inl, inr}
use Rattle.std.specs.Prelude.{count_by, ◌==◌}
use Rattle.std.proofs.lemmas.Bool.{ne_eqb, eq-eqb, cases_eq}
use Rattle.std.proofs.Math.Seq.{take-suc, take-suc-set}
use Rattle.page_pool.specs.FreeList.{times, AreFree, ListsFree}
use Rattle.std.proofs.lemmas.List.Sums.{count_by-le-length, sum_by-set, sum_by-append, sum_by-cons}

abbrev one_if : Bool → ℕ
one_if b = cond b 1 0

-- one that has a holder is not counted
pub count_miss : (xs : List ℕ) (i : ℕ) → i < length xs → (get_or xs i 0 ≡ 0 → ⊥) → count_by (λ h. h == 0) xs + 1 ≤ length xs
count_miss xs i h n =
    let s = sum_by-set (λ x. one_if (x == 0)) xs i 0 0 h in
    let z : one_if (get_or xs i 0 == 0) ≡ 0 = ap one_if (ne_eqb _ _ n) in
    let l = count_by-le-length (λ x. x == 0) (set xs i 0) in
    let m = length-set xs i 0 in
    omega (arith, s, z, l, m)

times_one : (n x : ℕ) → times n (x ∷ []) ≡ one_if (x == n)
times_one n x = let s = sum_by-cons (λ y. one_if (y == n)) x [] in omega (arith, s)

times_last : (n x : ℕ) (xs : List ℕ) → times n (xs ++ x ∷ []) ≡ times n xs + one_if (x == n)
times_last n x xs = let s = sum_by-append (λ y. one_if (y == n)) xs (x ∷ []) in let o = times_one n x in omega (arith, s, o)

-- the last one free
pub last_free : (hs xs : List ℕ) (x : ℕ) → AreFree hs (xs ++ x ∷ []) → (x < length hs) × (get_or hs x 0 ≡ 0) × (times x xs ≡ 0)
last_free hs xs x f =
    let t = times_last x x xs in
    let o = ap one_if (eq-eqb x x refl) in
    let some : 1 ≤ times x (xs ++ x ∷ []) = omega (arith, t, o) in
    let r = f x some in
    let r2 = r.2 in
    (r.0, r.1, omega (arith, t, o, r2))

-- the others, once it has a holder
pub rest_free : (hs gs xs : List ℕ) (x : ℕ) → AreFree hs (xs ++ x ∷ []) → length gs ≡ length hs → ((n : ℕ) → n ≢ x → get_or hs n 0 ≡ 0 → get_or gs n 0 ≡ 0) → AreFree gs xs
rest_free hs gs xs x f l h = λ n o.
    let t = times_last n x xs in
    let some : 1 ≤ times n (xs ++ x ∷ []) = omega (arith, t, o) in
    let r = f n some in
    let r0 = r.0 in
    let r2 = r.2 in
    let z = (last_free hs xs x f).2 in
    let d : n ≢ x = λ e. let q = ap (λ m. times m xs) e in absurd (omega (arith, q, z, o)) in
    (omega (arith, r0, l), h n d r.1, omega (arith, t, o, r2))

-- one more, that had a holder
pub more_free : (hs gs xs : List ℕ) (x : ℕ) → AreFree hs xs → length gs ≡ length hs → x < length hs → (get_or hs x 0 ≡ 0 → ⊥) → get_or gs x 0 ≡ 0 → ((n : ℕ) → n ≢ x → get_or gs n 0 ≡ get_or hs n 0) → AreFree gs (xs ++ x ∷ [])
more_free hs gs xs x f l w k z h = λ n o.
    let t = times_last n x xs in
    elim (cases_eq n x) [
      | inl e ↦
          let u = ap one_if (eq-eqb x n (sym e)) in
          let none : times n xs ≡ 0 = elim (cases_eq (times n xs) 0) [
            | inl q ↦ q
            | inr q ↦ let some : 1 ≤ times n xs = omega (arith, q) in absurd (k (ap (λ m. get_or hs m 0) (sym e) ∙ (f n some).1))
          ] in
          (omega (arith, e, w, l), ap (λ m. get_or gs m 0) e ∙ z, omega (arith, t, u, none))
      | inr d ↦
          let u = ap one_if (ne_eqb x n (λ e. d (sym e))) in
          let some : 1 ≤ times n xs = omega (arith, t, u, o) in
          let r = f n some in
          let r0 = r.0 in
          let r2 = r.2 in
          (omega (arith, r0, l), h n d ∙ r.1, omega (arith, t, u, r2))
    ]

-- the top of a list of free numbers
pub top_split : (free : List ℕ) (spare k x : ℕ) → spare ≡ k + 1 → spare ≤ length free → x ≡ get_or free k 0 → take spare free ≡ take k free ++ x ∷ []
top_split free spare k x e l t =
    let s : spare ≡ suc k = omega (arith, e) in
    let w : k < length free = omega (arith, e, l) in
    ap (λ n. take n free) s ∙ take-suc free k 0 w ∙ ap (λ y. take k free ++ y ∷ []) (sym t)

pub spare_most : (hs : List ℕ) → count_by (λ h. h == 0) hs ≤ length hs
spare_most hs = count_by-le-length (λ x. x == 0) hs

pub count_set : (hs : List ℕ) (i v : ℕ) → i < length hs → count_by (λ h. h == 0) (set hs i v) + one_if (get_or hs i 0 == 0) ≡ count_by (λ h. h == 0) hs + one_if (v == 0)
count_set hs i v h = sum_by-set (λ x. one_if (x == 0)) hs i v 0 h

-- the number on top of the list of a pool that has spare ones
pub top_is : (hs free : List ℕ) (spare k x : ℕ) → ListsFree hs free spare → spare ≡ k + 1 → x ≡ get_or free k 0 → (x < length hs) × (get_or hs x 0 ≡ 0)
top_is hs free spare k x p e t =
    let c = p.counted in
    let m = spare_most hs in
    let r = p.room in
    let l : spare ≤ length free = omega (arith, c, m, r) in
    let q = last_free hs (take k free) x (subst (λ (ys : List ℕ). AreFree hs ys) (top_split free spare k x e l t) p.listed) in
    (q.0, q.1)

-- a number was taken off the list and has a holder
pub taken_kept : (hs free : List ℕ) (spare k x : ℕ) → ListsFree hs free spare → spare ≡ k + 1 → x ≡ get_or free k 0 → ListsFree (set hs x 1) free k
taken_kept hs free spare k x p e t =
    let c = p.counted in
    let m = spare_most hs in
    let r = p.room in
    let l : spare ≤ length free = omega (arith, c, m, r) in
    let f = subst (λ (ys : List ℕ). AreFree hs ys) (top_split free spare k x e l t) p.listed in
    let q = last_free hs (take k free) x f in
    let n = length-set hs x 1 in
    let s = count_set hs x 1 q.0 in
    let z = ap one_if (eq-eqb (get_or hs x 0) 0 q.1) in
    record {
      room = omega (arith, n, r);
      counted = omega (arith, s, z, c, e);
      listed = rest_free hs (set hs x 1) (take k free) x f n (λ y d g. get_or-set_other hs x y 1 0 d ∙ g);
    }

-- a number with holders got another number of them
pub changed_kept : (hs free : List ℕ) (spare x v : ℕ) → ListsFree hs free spare → x < length hs → (get_or hs x 0 ≡ 0 → ⊥) → (v ≡ 0 → ⊥) → ListsFree (set hs x v) free spare
changed_kept hs free spare x v p w k u =
    let n = length-set hs x v in
    let r = p.room in
    let c = p.counted in
    let s = count_set hs x v w in
    let z = ap one_if (ne_eqb (get_or hs x 0) 0 k) in
    let z2 = ap one_if (ne_eqb v 0 u) in
    record {
      room = omega (arith, n, r);
      counted = omega (arith, s, z, z2, c);
      listed = λ y o. let q = p.listed y o in let q0 = q.0 in
          (omega (arith, q0, n), get_or-set_other hs x y v 0 (λ e. k (ap (λ m. get_or hs m 0) (sym e) ∙ q.1)) ∙ q.1, q.2);
    }

-- a number lost its last holder
pub given_kept : (hs free : List ℕ) (spare x : ℕ) → ListsFree hs free spare → x < length hs → (get_or hs x 0 ≡ 0 → ⊥) → ListsFree (set hs x 0) (set free spare x) (spare + 1)
given_kept hs free spare x p w k =
    let n = length-set hs x 0 in
    let nf = length-set free spare x in
    let r = p.room in
    let c = p.counted in
    let s = count_set hs x 0 w in
    let z = ap one_if (ne_eqb (get_or hs x 0) 0 k) in
    let miss = count_miss hs x w k in
    let i : spare < length free = omega (arith, miss, c, r) in
    let e : spare + 1 ≡ suc spare = omega arith in
    let t : take (spare + 1) (set free spare x) ≡ take spare free ++ x ∷ [] = ap (λ m. take m (set free spare x)) e ∙ take-suc-set free spare x i in
    record {
      room = omega (arith, n, nf, r);
      counted = omega (arith, s, z, c);
      listed = subst (λ (ys : List ℕ). AreFree (set hs x 0) ys) (sym t)
          (more_free hs (set hs x 0) (take spare free) x p.listed n w k (get_or-set_same hs x 0 0 w) (λ y d. get_or-set_other hs x y 0 0 d));
    }

-- room on the list
pub given_room : (hs free : List ℕ) (spare x : ℕ) → ListsFree hs free spare → x < length hs → (get_or hs x 0 ≡ 0 → ⊥) → spare < length free
given_room hs free spare x p w k =
    let r = p.room in
    let c = p.counted in
    let miss = count_miss hs x w k in
    omega (arith, miss, c, r)

-- the first numbers, each once
once_below : (xs : List ℕ) (from n : ℕ) → ((k : ℕ) → k < length xs → get_or xs k 0 ≡ from + k) → 1 ≤ times n xs → (from ≤ n) × (n < from + length xs) × (times n xs ≡ 1)
once_below [] from n h o = absurd (omega (arith, o))
once_below (x ∷ xs) from n h o =
    let s = sum_by-cons (λ y. one_if (y == n)) x xs in
    let h0 = h 0 (omega arith) in
    let g : (k : ℕ) → k < length xs → get_or xs k 0 ≡ (from + 1) + k = λ k l. let q = h (suc k) (omega (arith, l)) in omega (arith, q) in
    elim (cases_eq (times n xs) 0) [
      | inl z ↦ elim (cases_eq x n) [
        | inl e ↦ let u = ap one_if (eq-eqb x n e) in (omega (arith, e, h0), omega (arith, e, h0), omega (arith, s, u, z))
        | inr d ↦ let u = ap one_if (ne_eqb x n d) in absurd (omega (arith, s, u, z, o))
      ]
      | inr z ↦
          let some : 1 ≤ times n xs = omega (arith, z) in
          let r = once_below xs (from + 1) n g some in
          let r0 = r.0 in
          let r1 = r.1 in
          let r2 = r.2 in
          let d : x ≢ n = λ e. absurd (omega (arith, e, h0, r0)) in
          let u = ap one_if (ne_eqb x n d) in
          (omega (arith, r0), omega (arith, r1), omega (arith, s, u, r2))
    ]

zeros_spare : (n : ℕ) (hs : List ℕ) → length hs ≡ n → ((k : ℕ) → get_or hs k 0 ≡ 0) → n ≡ count_by (λ h. h == 0) hs
zeros_spare n [] e h = omega (arith, e)
zeros_spare n (x ∷ xs) e h =
    let s = sum_by-cons (λ y. one_if (y == 0)) x xs in
    let k : length xs ≡ n - 1 = omega (arith, e) in
    let r = zeros_spare (n - 1) xs k (λ i. h (suc i)) in
    let u = ap one_if (eq-eqb x 0 (h 0)) in
    omega (arith, s, u, r, e)

-- a fresh pool
pub fresh_kept : (hs free : List ℕ) (n : ℕ) → length hs ≡ n → ((k : ℕ) → get_or hs k 0 ≡ 0) → length free ≡ n → ((k : ℕ) → k < n → get_or free k 0 ≡ k) → take n free ≡ free → ListsFree hs free n
fresh_kept hs free n l z f h t = record {
  room = f ∙ sym l;
  counted = zeros_spare n hs l z;
  listed = subst (λ (ys : List ℕ). AreFree hs ys) (sym t) (λ m o.
      let r = once_below free 0 m (λ k q. let u : k < n = omega (arith, q, f) in let v = h k u in omega (arith, v)) o in
      let r1 = r.1 in
      (omega (arith, r1, f, l), z m, r.2));
}
