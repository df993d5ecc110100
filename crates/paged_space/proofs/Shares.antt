-- Frames that get one more holder each.
use Rattle.std.proofs.Common.{◌≡◌, ℕ, zero, suc, ◌+◌, ◌≤◌, ◌<◌, Bool, true, false, List, [], ◌∷◌, ◌++◌, length, get_or, set, take, drop, length-set, get_or-set_same, get_or-set_other, refl, sym, ap, subst, ◌∙◌, arith, inl, inr}
use Rattle.std.proofs.lemmas.List.{drop_all}
use Rattle.std.specs.Prelude.{◌==◌, ◌&&◌, leb, slice_index, count_by}
use Rattle.std.proofs.Math.Seq.{take-suc}
use Rattle.std.proofs.lemmas.Bool.{cases_eq, cases_lt, eq-eqb, ne_eqb, lt-leb}
use Rattle.std.proofs.lemmas.List.Sums.{sum_by-take-le, sum_by-cons}
use Rattle.std.proofs.lemmas.Grind.{get_or_default_zero}
use Rattle.page_pool.specs.Frames.{Frames, holders_of, spare_of, frame_byte, IsHeld}
use Rattle.paged_space.specs.PageTable.{PageTable, may_write}
use Rattle.paged_space.specs.Moves.{one_if, StandIn}
use Rattle.paged_space.specs.LaidOut.{AreFresh}
use Rattle.paged_space.specs.Follows.{shared_in}
use Rattle.paged_space.specs.Sharing.{IsShared}
use Rattle.paged_space.specs.Twins.{AreTwins, SharesHere, pairs, writable_pages}
use Rattle.paged_space.proofs.OneWrite.{times_join, times_some}
use Rattle.paged_space.proofs.WholeSpace.{standing_held, held_within}

-- a frame stands once, so not among those before it
pub not_before : (fs : List ℕ) (i : ℕ) → i < length fs → count_by (λ f. f == get_or fs i 0) fs ≤ 1 → count_by (λ f. f == get_or fs i 0) (take i fs) ≡ 0
not_before fs i l o =
    let t = ap (λ xs. count_by (λ f. f == get_or fs i 0) xs) (take-suc fs i 0 l) in
    let j = times_join (get_or fs i 0) (take i fs) (get_or fs i 0 ∷ []) in
    let s = sum_by-take-le (λ f. one_if (f == get_or fs i 0)) fs (suc i) in
    let y = ap one_if (eq-eqb (get_or fs i 0) (get_or fs i 0) refl) in
    let c = sum_by-cons (λ f. one_if (f == get_or fs i 0)) (get_or fs i 0) [] in
    omega (arith, t, j, s, y, c, o)

pub still_held : (fs : List ℕ) (i x : ℕ) (a b : Frames) → StandIn fs a → IsShared (take i fs) a b → i < length fs → x ≡ get_or fs i x → IsHeld b x
still_held fs i x a b c s l e =
    let z = e ∙ get_or_default_zero fs i x l in
    let h = standing_held fs i a c l in
    let k = s.counts (get_or fs i 0) in
    let n = s.long in
    let h0 = h.0 in
    let h1 = h.1 in
    subst (λ (f : ℕ). IsHeld b f) (sym z) (omega (arith, h0, n), omega (arith, h1, k))

pub still_room : (fs : List ℕ) (i x : ℕ) (a b : Frames) → ((n : ℕ) → count_by (λ f. f == n) fs ≤ 1) → ((k : ℕ) → k < length fs → holders_of a (slice_index fs k) < 65535) → IsShared (take i fs) a b → i < length fs → x ≡ get_or fs i x → holders_of b x < 65535
still_room fs i x a b o r s l e =
    let z = e ∙ get_or_default_zero fs i x l in
    let n = not_before fs i l (o (get_or fs i 0)) in
    let k = s.counts (get_or fs i 0) in
    let m = r i l in
    subst (λ (f : ℕ). holders_of b f < 65535) (sym z) (omega (arith, n, k, m))

-- one more
pub shared_more : (fs : List ℕ) (i x : ℕ) (a b c : Frames) → IsShared (take i fs) a b → IsHeld b x → i < length fs → x ≡ get_or fs i x → c ≡ record b { holders = set b.holders x (holders_of b x + 1) } → spare_of c ≡ spare_of b → IsShared (take (i + 1) fs) a c
shared_more fs i x a b c s h l e w sp =
    let z = e ∙ get_or_default_zero fs i x l in
    let u : i + 1 ≡ suc i = omega arith in
    let t : take (i + 1) fs ≡ take i fs ++ x ∷ [] = ap (λ n. take n fs) u ∙ take-suc fs i 0 l ∙ ap (λ y. take i fs ++ y ∷ []) (sym z) in
    record {
      long = ap (λ (f : Frames). length f.holders) w ∙ length-set b.holders x (holders_of b x + 1) ∙ s.long;
      bytes = ap (λ (f : Frames). f.bytes) w ∙ s.bytes;
      counts = λ n.
          let k = s.counts n in
          let q = ap (λ xs. count_by (λ f. f == n) xs) t in
          let j = times_join n (take i fs) (x ∷ []) in
          let d = sum_by-cons (λ f. one_if (f == n)) x [] in
          let v = ap (λ (f : Frames). holders_of f n) w in
          elim (cases_eq n x) [
            | inl p ↦
                let y = ap one_if (eq-eqb x n (sym p)) in
                let g = ap (λ m. slice_index (set b.holders x (holders_of b x + 1)) m) p ∙ get_or-set_same b.holders x (holders_of b x + 1) 0 h.0 in
                let hb = ap (holders_of b) p in
                omega (arith, k, q, j, d, v, y, g, hb)
            | inr p ↦
                let y = ap one_if (ne_eqb x n (λ m. p (sym m))) in
                let g = get_or-set_other b.holders x n (holders_of b x + 1) 0 p in
                omega (arith, k, q, j, d, v, y, g)
          ];
      spare = sp ∙ s.spare;
    }

same_pairs : (ws : List Bool) (fs : List ℕ) → length ws ≡ length fs → pairs ws fs fs ≤ writable_pages ws
unfolding pairs
same_pairs [] fs l = omega arith
same_pairs (w ∷ ws) [] l = omega arith
same_pairs (w ∷ ws) (f ∷ fs) l =
    let k : length ws ≡ length fs = omega (arith, l) in
    let r = same_pairs ws fs k in
    let s = sum_by-cons one_if w ws in
    let e : one_if (w && (f == f)) ≡ one_if w = rw (eq-eqb f f refl) (and_true w) in
    omega (arith, r, s, e)
  where
    and_true : (w : Bool) → one_if (w && true) ≡ one_if w
    and_true true = refl
    and_true false = refl

-- a space and its twin, where no third one shares their writable pages and each of these has a spare frame
pub fresh_twins : (t : PageTable) (a b : Frames) → length t.writes ≡ length t.frames → ((n : ℕ) → count_by (λ f. f == n) t.frames ≤ 1) → StandIn t.frames a → IsShared t.frames a b → ((i : ℕ) → may_write t.writes i ≡ true → holders_of a (slice_index t.frames i) ≤ 1) → writable_pages t.writes ≤ spare_of a → AreTwins t t b
fresh_twins t a b fl o c s alone room =
    let here : SharesHere t.writes t.frames t.frames b = λ i w two.
    let k = s.counts (slice_index t.frames i) in
    let n = o (slice_index t.frames i) in
    let h = alone i w in
    (refl, omega (arith, k, n, h, two)) in
    record {
      long = refl;
      flags = fl;
      writes = refl;
      stand = λ n. (let j = times_join n t.frames t.frames in let k = s.counts n in let d = c n in omega (arith, j, k, d));
      first = here;
      second = here;
      room = let p = same_pairs t.writes t.frames fl in let q = s.spare in omega (arith, p, q, room);
    }

pub held_last : (fs rest : List ℕ) (x : ℕ) (s : Frames) → StandIn fs s → fs ≡ rest ++ x ∷ [] → (x < length s.holders) × (1 ≤ holders_of s x)
held_last fs rest x s c e =
    let a = c x in
    let b : count_by (λ f. f == x) fs ≡ count_by (λ f. f == x) (rest ++ x ∷ []) = ap (λ ys. count_by (λ f. f == x) ys) e in
    let d = times_join x rest (x ∷ []) in
    let k : 1 ≤ count_by (λ f. f == x) (x ∷ []) = times_some (x ∷ []) 0 (omega arith) in
    let h : 1 ≤ holders_of s x = omega (arith, a, b, d, k) in
    (held_within s.holders x h, h)

-- fresh frames against others
pub fresh_whole : (fs : List ℕ) (a b : Frames) → AreFresh fs a b → StandIn fs b
fresh_whole fs a b f = λ n. let k = f.counts n in omega (arith, k)

pub fresh_together : (fs rest : List ℕ) (a b : Frames) → AreFresh fs a b → StandIn rest a → StandIn (fs ++ rest) b
fresh_together fs rest a b f c = λ n. let k = f.counts n in let d = c n in let j = times_join n fs rest in omega (arith, k, d, j)

pub fresh_kept : (fs rest : List ℕ) (a b : Frames) → AreFresh fs a b → StandIn rest a → (n k : ℕ) → 1 ≤ count_by (λ f. f == n) rest → k < 4096 → frame_byte b n k ≡ frame_byte a n k
fresh_kept fs rest a b f c n k o l = f.bytes n k (elim (cases_lt (count_by (λ x. x == n) fs) 1) [
  | inl w ↦ omega (arith, w)
  | inr g ↦ let z = f.free n g in let d = c n in absurd (omega (arith, z, d, o))
]) l

shared_zero : (ws : List Bool) (fs : List ℕ) (s : Frames) → ((i : ℕ) → i < length fs → holders_of s (get_or fs i 0) ≤ 1) → shared_in ws fs s ≡ 0
unfolding shared_in
shared_zero [] fs s h = refl
shared_zero (w ∷ ws) [] s h = refl
shared_zero (w ∷ ws) (f ∷ fs) s h =
    let r = shared_zero ws fs s (λ i l. h (suc i) (omega (arith, l))) in
    let a : holders_of s f ≤ 1 = h 0 (omega arith) in
    let b : holders_of s f < 2 = omega (arith, a) in
    let e : one_if (w && leb 2 (holders_of s f)) ≡ 0 = ap (λ x. one_if (w && x)) (lt-leb 2 (holders_of s f) b) ∙ and_not w in
    omega (arith, r, e)
  where
    and_not : (w : Bool) → one_if (w && false) ≡ 0
    and_not true = refl
    and_not false = refl

pub fresh_unshared : (ws : List Bool) (fs : List ℕ) (a b : Frames) → AreFresh fs a b → shared_in ws fs b ≡ 0
fresh_unshared ws fs a b f = shared_zero ws fs b (λ i l.
    let t = times_some fs i l in
    let z = f.free (get_or fs i 0) t in
    let k = f.counts (get_or fs i 0) in
    let o = f.once (get_or fs i 0) in
    omega (arith, z, k, o))

pub shared_together : (fs rest : List ℕ) (a b : Frames) → IsShared fs a b → StandIn (fs ++ rest) a → StandIn (fs ++ (fs ++ rest)) b
shared_together fs rest a b s c = λ n. let k = s.counts n in let d = c n in let j = times_join n fs (fs ++ rest) in omega (arith, k, d, j)

-- one page more
pub shared_next : (ws : List Bool) (fs : List ℕ) (k : ℕ) (s : Frames) → length ws ≡ length fs → k < length fs → shared_in (drop k ws) (drop k fs) s ≡ one_if (get_or ws k false && leb 2 (holders_of s (get_or fs k 0))) + shared_in (drop (suc k) ws) (drop (suc k) fs) s
unfolding shared_in
shared_next [] [] k s l h = absurd (omega (arith, h))
shared_next [] (f ∷ fs) k s l h = absurd (omega (arith, l))
shared_next (w ∷ ws) [] k s l h = absurd (omega (arith, h))
shared_next (w ∷ ws) (f ∷ fs) zero s l h = refl
shared_next (w ∷ ws) (f ∷ fs) (suc k) s l h =
    let m : length ws ≡ length fs = omega (arith, l) in
    let n : k < length fs = omega (arith, h) in
    shared_next ws fs k s m n

pub shared_most : (ws : List Bool) (fs : List ℕ) (s : Frames) → shared_in ws fs s ≤ length fs
unfolding shared_in
shared_most [] fs s = omega arith
shared_most (w ∷ ws) [] s = omega arith
shared_most (w ∷ ws) (f ∷ fs) s = let r = shared_most ws fs s in let b = most (w && leb 2 (holders_of s f)) in omega (arith, r, b)
  where
    most : (b : Bool) → one_if b ≤ 1
    most true = omega arith
    most false = omega arith

pub shared_end : (ws : List Bool) (fs : List ℕ) (k : ℕ) (s : Frames) → length ws ≡ length fs → length fs ≤ k → shared_in (drop k ws) (drop k fs) s ≡ 0
unfolding shared_in
shared_end ws fs k s l h = let m : length ws ≤ k = omega (arith, l, h) in ap (λ (xs : List Bool). shared_in xs (drop k fs) s) (drop_all k ws m)
