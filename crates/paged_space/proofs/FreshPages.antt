-- Frames that are taken for pages.
use Rattle.std.proofs.Common.{◌≡◌, ℕ, zero, suc, ◌+◌, ◌-◌, ◌%◌, ◌*◌, ◌≤◌, ◌<◌, cond, List, [], ◌∷◌, ◌++◌, length, get_or, take, drop, length-set, length-append, get_or-set_same, get_or-set_other, refl, sym, ap, ◌∙◌, arith, inl, inr, append_assoc}
use Rattle.std.specs.Prelude.{◌==◌, min, slice_index}
use Rattle.std.proofs.lemmas.Bool.{cases_eq, cases_lt, eq-eqb, ne_eqb, cond-true, cond-false, lt-ltb, le-ltb}
use Rattle.std.proofs.lemmas.List.{append-nil, get_or_append_left, get_or-take, get_or-drop, length-take, length-drop, get_or-append_right}
use Rattle.std.proofs.lemmas.List.Sums.{sum_by-cons}
use Rattle.page_pool.specs.Frames.{Frames, holders_of, frame_byte, IsTaken, placed}
use Rattle.paged_space.specs.Moves.{one_if}
use Rattle.paged_space.specs.declared.range.Range.{Range}
use Rattle.paged_space.specs.LaidOut.{times, AreFresh, HasGrown, byte_wanted, address_at}
use Rattle.paged_space.proofs.OneWrite.{times_join, times_set}

pub fresh_none : (s : Frames) → AreFresh [] s s
fresh_none s = record {
  long = refl;
  free = λ n o. absurd (omega (arith, o));
  once = λ n. omega arith;
  counts = λ n. omega arith;
  bytes = λ n k z l. refl;
  spare = omega arith;
}

one_time : (n x : ℕ) → times n (x ∷ []) ≡ one_if (x == n)
one_time n x = let s = sum_by-cons (λ y. one_if (y == n)) x [] in omega (arith, s)

-- one frame taken
pub fresh_one : (old new : Frames) (x at : ℕ) (piece : List ℕ) → IsTaken old new x (placed at piece) → AreFresh (x ∷ []) old new
fresh_one old new x at piece t =
    let fr = t.free in
    let is_x : (n : ℕ) → 1 ≤ times n (x ∷ []) → n ≡ x = λ n o. elim (cases_eq x n) [
      | inl e ↦ sym e
      | inr d ↦ let s = one_time n x in let z = ap one_if (ne_eqb x n d) in absurd (omega (arith, s, z, o))
    ] in
    record {
      long = ap length t.holders ∙ length-set old.holders x 1;
      free = λ n o. ap (holders_of old) (is_x n o) ∙ t.free;
      once = λ n. (let s = one_time n x in elim (cases_eq x n) [ inl e ↦ let z = ap one_if (eq-eqb x n e) in omega (arith, s, z) | inr d ↦ let z = ap one_if (ne_eqb x n d) in omega (arith, s, z) ]);
      counts = λ n. (let s = one_time n x in elim (cases_eq n x) [
        | inl e ↦
            let z = ap one_if (eq-eqb x n (sym e)) in
            let a = ap (holders_of new) e ∙ ap (λ hs. slice_index hs x) t.holders ∙ get_or-set_same old.holders x 1 0 t.within in
            let b = ap (holders_of old) e in
            omega (arith, s, z, a, b, fr)
        | inr d ↦
            let z = ap one_if (ne_eqb x n (λ e. d (sym e))) in
            let a = ap (λ hs. slice_index hs n) t.holders ∙ get_or-set_other old.holders x n 1 0 d in
            omega (arith, s, z, a)
      ]);
      bytes = λ n k z l. t.others n k (λ e. let s = one_time n x in let y = ap one_if (eq-eqb x n (sym e)) in absurd (omega (arith, s, y, z))) l;
      spare =
          let s = t.spare in
          let l : length (x ∷ []) ≡ 1 = refl in
          omega (arith, s, l);
    }

-- then some more
pub fresh_on : (gs hs : List ℕ) (a b c : Frames) → AreFresh gs a b → AreFresh hs b c → AreFresh (gs ++ hs) a c
fresh_on gs hs a b c p q =
    let apart : (n : ℕ) → 1 ≤ times n hs → (times n gs ≡ 0) × (holders_of a n ≡ 0) = λ n o. (let f = q.free n o in let k = p.counts n in (omega (arith, f, k), omega (arith, f, k))) in
    record {
      long = q.long ∙ p.long;
      free = λ n o. (let j = times_join n gs hs in elim (cases_lt (times n gs) 1) [
        | inl l ↦ let w : 1 ≤ times n hs = omega (arith, j, o, l) in (apart n w).1
        | inr g ↦ p.free n g
      ]);
      once = λ n. (let j = times_join n gs hs in let x = p.once n in let y = q.once n in elim (cases_lt (times n hs) 1) [
        | inl l ↦ omega (arith, j, x, l)
        | inr g ↦ let z = (apart n g).0 in omega (arith, j, y, z)
      ]);
      counts = λ n. (let j = times_join n gs hs in let x = p.counts n in let y = q.counts n in omega (arith, j, x, y));
      bytes = λ n k z l. (let j = times_join n gs hs in let zg : times n gs ≡ 0 = omega (arith, j, z) in let zh : times n hs ≡ 0 = omega (arith, j, z) in q.bytes n k zh l ∙ p.bytes n k zg l);
      spare = let x = p.spare in let y = q.spare in let l = length-append gs hs in omega (arith, x, y, l);
    }

-- a frame taken before is not taken again
pub taken_apart : (gs hs : List ℕ) (a b c : Frames) (j : ℕ) → AreFresh gs a b → AreFresh hs b c → j < length gs → times (get_or gs j 0) hs ≡ 0
taken_apart gs hs a b c j p q l =
    let t = Rattle.paged_space.proofs.OneWrite.times_some gs j l in
    let k = p.counts (get_or gs j 0) in
    elim (cases_lt (times (get_or gs j 0) hs) 1) [
      | inl w ↦ omega (arith, w)
      | inr g ↦ let f = q.free (get_or gs j 0) g in absurd (omega (arith, t, k, f))
    ]

pub grown_none : (r : Range) (fs : List ℕ) (s : Frames) → HasGrown r 0 fs fs s s
grown_none r fs s = record {
  more = [];
  is = sym (append-nil fs);
  long = refl;
  fresh = fresh_none s;
  filled = λ j k l m. absurd (omega (arith, l));
}

pub grown_more : (r : Range) (count : ℕ) (fs gs : List ℕ) (a b c : Frames) (x at : ℕ) (piece : List ℕ) → HasGrown r count fs gs a b → IsTaken b c x (placed at piece) → ((k : ℕ) → k < 4096 → placed at piece k ≡ byte_wanted r count k) → HasGrown r (count + 1) fs (gs ++ x ∷ []) a c
grown_more r count fs gs a b c x at piece g t w =
    let one = fresh_one b c x at piece t in
    let lm = g.long in
    let la = length-append g.more (x ∷ []) in
    record {
      more = g.more ++ x ∷ [];
      is = ap (λ ys. ys ++ x ∷ []) g.is ∙ append_assoc fs g.more (x ∷ []);
      long = omega (arith, lm, la);
      fresh = fresh_on g.more (x ∷ []) a b c g.fresh one;
      filled = λ j k l m. elim (cases_lt j count) [
        | inl o ↦
            let jl : j < length g.more = omega (arith, o, lm) in
            ap (λ f. frame_byte c f k) (get_or_append_left g.more (x ∷ []) 0 j jl)
            ∙ one.bytes (get_or g.more j 0) k (taken_apart g.more (x ∷ []) a b c j g.fresh one jl) m
            ∙ g.filled j k o m
        | inr o ↦
            let e : j ≡ count = omega (arith, o, l) in
            let jl : length g.more ≤ j = omega (arith, o, lm) in
            let z : j - length g.more ≡ 0 = omega (arith, e, lm) in
            ap (λ f. frame_byte c f k) (get_or-append_right g.more (x ∷ []) (length g.more) j 0 refl jl ∙ ap (λ i. get_or (x ∷ []) i 0) z)
            ∙ t.filled k m ∙ w k m ∙ ap (λ i. byte_wanted r i k) (sym e)
      ];
    }

-- past the end of a list stands 0
past_zero : (xs : List ℕ) (i : ℕ) → length xs ≤ i → get_or xs i 0 ≡ 0
past_zero [] i l = refl
past_zero (x ∷ xs) zero l = absurd (omega (arith, l))
past_zero (x ∷ xs) (suc i) l = let m : length xs ≤ i = omega (arith, l) in past_zero xs i m

cut_at : (xs : List ℕ) (from n i : ℕ) → (i < n → get_or (take n (drop from xs)) i 0 ≡ get_or xs (from + i) 0)
cut_at xs from n i l = get_or-take n (drop from xs) i 0 l ∙ get_or-drop from xs i 0

piece_byte : (xs rest piece : List ℕ) (from n i : ℕ) → rest ≡ drop (min from (length xs)) xs → piece ≡ take (min n (length rest)) rest → i < n → get_or piece i 0 ≡ get_or xs (from + i) 0
piece_byte xs rest piece from n i er ep l =
    let lr : length rest ≡ length xs - min from (length xs) = ap length er ∙ length-drop (min from (length xs)) xs in
    let lp : length piece ≡ min (min n (length rest)) (length rest) = ap length ep ∙ length-take (min n (length rest)) rest in
    elim (cases_lt i (length rest)) [
      | inl o ↦
          let m : i < min n (length rest) = omega (arith, o, l) in
          let f : min from (length xs) + i ≡ from + i = omega (arith, o, lr) in
          ap (λ ys. get_or ys i 0) ep ∙ get_or-take (min n (length rest)) rest i 0 m ∙ ap (λ ys. get_or ys i 0) er ∙ get_or-drop (min from (length xs)) xs i 0 ∙ ap (λ q. get_or xs q 0) f
      | inr o ↦
          let a : length piece ≤ i = omega (arith, o, lp) in
          let b : length xs ≤ from + i = omega (arith, o, lr) in
          past_zero piece i a ∙ sym (past_zero xs (from + i) b)
    ]

-- a piece of the bytes on one page
pub piece_placed : (r : Range) (j at from k : ℕ) (rest piece : List ℕ) → at ≡ cond (j == 0) (r.base % 4096) 0 → from + r.base % 4096 ≡ 4096 * j + at → rest ≡ drop (min from (length r.bytes)) r.bytes → piece ≡ take (min (4096 - at) (length rest)) rest → k < 4096 → placed at piece k ≡ byte_wanted r j k
piece_placed r j at from k rest piece ea ef er ep l =
    elim (cases_lt k at) [
      | inl o ↦
          let j0 : j ≡ 0 = elim (cases_eq j 0) [ inl e ↦ e | inr n ↦ let z : at ≡ 0 = ea ∙ cond-false _ _ _ (ne_eqb j 0 n) in absurd (omega (arith, z, o)) ] in
          let a : at ≡ r.base % 4096 = ea ∙ cond-true _ _ _ (eq-eqb j 0 j0) in
          let low : address_at r j k < r.base = omega (arith, j0, a, o) in
          cond-true _ _ _ (lt-ltb k at o) ∙ sym (cond-true _ _ _ (lt-ltb _ _ low))
      | inr o ↦
          let high : r.base ≤ address_at r j k = elim (cases_eq j 0) [
            | inl e ↦ let a : at ≡ r.base % 4096 = ea ∙ cond-true _ _ _ (eq-eqb j 0 e) in omega (arith, e, a, o)
            | inr n ↦ omega (arith, n)
          ] in
          let i : k - at < 4096 - at = omega (arith, o, l) in
          let q : from + (k - at) ≡ address_at r j k - r.base = omega (arith, ef, o, high) in
          cond-false _ _ _ (le-ltb _ _ o)
          ∙ piece_byte r.bytes rest piece from (4096 - at) (k - at) er ep i
          ∙ ap (λ v. get_or r.bytes v 0) q
          ∙ sym (cond-false _ _ _ (le-ltb _ _ high))
    ]
