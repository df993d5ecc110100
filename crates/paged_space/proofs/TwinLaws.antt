-- Stores through either of two twins keep the spare that both ask.
use Rattle.std.proofs.Common.{◌≡◌, ℕ, zero, suc, ◌+◌, ◌≤◌, ◌<◌, Bool, true, false, not, List, [], ◌∷◌, ◌++◌, length, get_or, refl, sym, ap, subst, ◌∙◌, arith, inl, inr}
use Rattle.std.specs.Prelude.{◌==◌, ◌&&◌, slice_index, leb}
use Rattle.std.proofs.lemmas.Bool.{cases_eq, cases_Bool, eq-eqb, ne_eqb, leb-true}
use Rattle.page_pool.specs.Frames.{Frames, holders_of, spare_of}
use Rattle.paged_space.specs.PageTable.{PageTable}
use Rattle.paged_space.specs.Moves.{one_if, lost, moves, StandIn}
use Rattle.paged_space.specs.Follows.{Follows, shared_in, shared_of}
use Rattle.paged_space.specs.FollowsLaws.{lost_some}
use Rattle.paged_space.specs.Twins.{pairs, SharesHere, AreTwins}
use Rattle.paged_space.proofs.OneWrite.{times_join, times_some}

and_false : (w b : Bool) → b ≡ false → one_if (w && b) ≡ 0
and_false true b e = ap one_if e
and_false false b e = refl

-- where each shared writable page of the first is one of both, there are no more of them than pages of both
pub shared_pairs : (ws : List Bool) (fs gs : List ℕ) (s : Frames) → length gs ≡ length fs → SharesHere ws fs gs s → shared_in ws fs s ≤ pairs ws fs gs
unfolding shared_in pairs
shared_pairs [] fs gs s l h = omega arith
shared_pairs (w ∷ ws) [] gs s l h = omega arith
shared_pairs (w ∷ ws) (f ∷ fs) [] s l h = absurd (omega (arith, l))
shared_pairs (w ∷ ws) (f ∷ fs) (g ∷ gs) s l h =
    let k : length gs ≡ length fs = omega (arith, l) in
    let r = shared_pairs ws fs gs s k (λ i. h (suc i)) in
    let one : one_if (w && leb 2 (holders_of s f)) ≤ one_if (w && (f == g)) = head w f g s (h 0) in
    omega (arith, r, one)
  where
    head : (w : Bool) (f g : ℕ) (s : Frames) → (w ≡ true → 2 ≤ holders_of s f → (g ≡ f) × (holders_of s f ≡ 2)) → one_if (w && leb 2 (holders_of s f)) ≤ one_if (w && (f == g))
    head false f g s h = omega arith
    head true f g s h = elim (cases_Bool (leb 2 (holders_of s f))) [
      | inl t ↦ let e = (h refl (leb-true _ _ t)).0 in let y = ap one_if (eq-eqb f g (sym e)) in let z = ap one_if t in omega (arith, y, z)
      | inr n ↦ let z = ap one_if n in omega (arith, z)
    ]

pub pairs_swap : (ws : List Bool) (fs gs : List ℕ) → length gs ≡ length fs → pairs ws gs fs ≡ pairs ws fs gs
unfolding pairs
pairs_swap [] fs gs l = refl
pairs_swap (w ∷ ws) [] [] l = refl
pairs_swap (w ∷ ws) [] (g ∷ gs) l = absurd (omega (arith, l))
pairs_swap (w ∷ ws) (f ∷ fs) [] l = absurd (omega (arith, l))
pairs_swap (w ∷ ws) (f ∷ fs) (g ∷ gs) l =
    let k : length gs ≡ length fs = omega (arith, l) in
    let r = pairs_swap ws fs gs k in
    let e : one_if (w && (g == f)) ≡ one_if (w && (f == g)) = elim (cases_eq f g) [
      | inl e ↦ ap (λ b. one_if (w && b)) (eq-eqb g f (sym e)) ∙ sym (ap (λ b. one_if (w && b)) (eq-eqb f g e))
      | inr n ↦ ap (λ b. one_if (w && b)) (ne_eqb g f (λ e. n (sym e))) ∙ sym (ap (λ b. one_if (w && b)) (ne_eqb f g n))
    ] in
    omega (arith, r, e)

-- a page of both that got another frame is one of both no more
abbrev pub Parts : List Bool → List ℕ → List ℕ → List ℕ → Type 0
Parts ws fs hs gs = (i : ℕ) → (slice_index hs i ≡ slice_index fs i → ⊥) → (get_or ws i false ≡ true) × (slice_index gs i ≡ slice_index fs i) × (slice_index hs i ≡ slice_index gs i → ⊥)

pub pairs_fall : (ws : List Bool) (fs hs gs : List ℕ) → length ws ≡ length fs → length hs ≡ length fs → length gs ≡ length fs → Parts ws fs hs gs → pairs ws hs gs + moves fs hs ≤ pairs ws fs gs
unfolding pairs moves
pairs_fall [] [] hs gs v l m h = omega arith
pairs_fall [] (f ∷ fs) hs gs v l m h = absurd (omega (arith, v))
pairs_fall (w ∷ ws) [] hs gs v l m h = absurd (omega (arith, v))
pairs_fall (w ∷ ws) (f ∷ fs) [] gs v l m h = absurd (omega (arith, l))
pairs_fall (w ∷ ws) (f ∷ fs) (x ∷ hs) [] v l m h = absurd (omega (arith, m))
pairs_fall (w ∷ ws) (f ∷ fs) (x ∷ hs) (g ∷ gs) v l m h =
    let u : length ws ≡ length fs = omega (arith, v) in
    let k : length hs ≡ length fs = omega (arith, l) in
    let n : length gs ≡ length fs = omega (arith, m) in
    let r = pairs_fall ws fs hs gs u k n (λ i. h (suc i)) in
    let one : one_if (w && (x == g)) + one_if (not (f == x)) ≤ one_if (w && (f == g)) = elim (cases_eq x f) [
      | inl e ↦
          let a : one_if (not (f == x)) ≡ 0 = rw (eq-eqb f x (sym e)) refl in
          let b : one_if (w && (x == g)) ≡ one_if (w && (f == g)) = ap (λ y. one_if (w && (y == g))) e in
          omega (arith, a, b)
      | inr d ↦
          let q = h 0 d in
          let a : one_if (not (f == x)) ≡ 1 = rw (ne_eqb f x (λ e. d (sym e))) refl in
          let b : one_if (w && (x == g)) ≡ 0 = and_false w (x == g) (ne_eqb x g q.2) in
          let c : one_if (w && (f == g)) ≡ 1 = rw (q.0, eq-eqb f g (sym q.1)) refl in
          omega (arith, a, b, c)
    ] in
    omega (arith, r, one)

swap_standing : (fs gs : List ℕ) (s : Frames) → StandIn (fs ++ gs) s → StandIn (gs ++ fs) s
swap_standing fs gs s c = λ n.
    let a = c n in
    let b = times_join n fs gs in
    let d = times_join n gs fs in
    omega (arith, a, b, d)

pub swap_twins : (t u : PageTable) (s : Frames) → AreTwins t u s → AreTwins u t s
swap_twins t u s a =
    let r = a.room in
    let p = pairs_swap t.writes t.frames u.frames a.long in
    let m : pairs t.writes u.frames t.frames ≤ spare_of s = omega (arith, r, p) in
    record {
      long = sym a.long;
      flags = ap length a.writes ∙ a.flags ∙ sym a.long;
      writes = sym a.writes;
      stand = swap_standing t.frames u.frames s a.stand;
      first = subst (λ (ws : List Bool). SharesHere ws u.frames t.frames s) (sym a.writes) a.second;
      second = subst (λ (ws : List Bool). SharesHere ws t.frames u.frames s) (sym a.writes) a.first;
      room = subst (λ (ws : List Bool). pairs ws u.frames t.frames ≤ spare_of s) (sym a.writes) m;
    }

-- a frame that the second has is held
other_held : (fs gs : List ℕ) (s : Frames) (i : ℕ) → StandIn (fs ++ gs) s → i < length gs → 1 ≤ holders_of s (get_or gs i 0)
other_held fs gs s i c l =
    let a = c (get_or gs i 0) in
    let b = times_join (get_or gs i 0) fs gs in
    let d = times_some gs i l in
    omega (arith, a, b, d)

flag_within : (ws : List Bool) (i : ℕ) → get_or ws i false ≡ true → i < length ws
flag_within [] i e = cc
flag_within (w ∷ ws) zero e = omega arith
flag_within (w ∷ ws) (suc i) e = let r = flag_within ws i e in omega (arith, r)

-- a store through the first keeps all
pub twins_first : (t u v : PageTable) (old new : Frames) → AreTwins t u old → Follows t v old new → AreTwins v u new
twins_first t u v old new a f =
    let m = f.moved in
    let ws = t.writes in
    let first_is : SharesHere t.writes v.frames u.frames new = λ i w two.
    elim (cases_eq (slice_index v.frames i) (slice_index t.frames i)) [
      | inl e ↦
          let two2 : 2 ≤ holders_of new (slice_index t.frames i) = subst (λ (n : ℕ). 2 ≤ holders_of new n) e two in
          let st : 1 ≤ holders_of old (slice_index t.frames i) = other_held u.frames t.frames old i (swap_standing t.frames u.frames old a.stand) (let x = flag_within t.writes i w in let y = a.flags in omega (arith, x, y)) in
          let l = m.loses (slice_index t.frames i) st in
          let q : 2 ≤ holders_of old (slice_index t.frames i) = omega (arith, l, two2) in
          let r = a.first i w q in
          let r1 = r.1 in
          let z : holders_of new (slice_index t.frames i) ≡ 2 = omega (arith, l, r1, two2) in
          (r.0 ∙ sym e, ap (holders_of new) e ∙ z)
      | inr d ↦ let g = (m.fresh i d).1 in absurd (omega (arith, g, two))
    ] in
    let second_is : SharesHere t.writes u.frames v.frames new = λ i w two.
    let st : 1 ≤ holders_of old (slice_index u.frames i) = other_held t.frames u.frames old i a.stand (let x = flag_within t.writes i w in let y = a.flags in let z = a.long in omega (arith, x, y, z)) in
    let l = m.loses (slice_index u.frames i) st in
    let q : 2 ≤ holders_of old (slice_index u.frames i) = omega (arith, l, two) in
    let r = a.second i w q in
    let r1 = r.1 in
    elim (cases_eq (slice_index v.frames i) (slice_index t.frames i)) [
      | inl e ↦ let z : holders_of new (slice_index u.frames i) ≡ 2 = omega (arith, l, r1, two) in (e ∙ r.0, z)
      | inr d ↦
          let x : 1 ≤ lost (slice_index u.frames i) t.frames v.frames = subst (λ (n : ℕ). 1 ≤ lost n t.frames v.frames) r.0 (lost_some t.frames v.frames i m.long d) in
          absurd (omega (arith, l, r1, two, x))
    ] in
    let parts : Parts t.writes t.frames v.frames u.frames = λ i d.
    let w = m.may i d in
    let il : i < length t.frames = (let x = flag_within t.writes i w in let y = a.flags in omega (arith, x, y)) in
    let iu : i < length u.frames = (let z = a.long in omega (arith, il, z)) in
    let st : 1 ≤ holders_of old (slice_index t.frames i) = other_held u.frames t.frames old i (swap_standing t.frames u.frames old a.stand) il in
    let so : 1 ≤ holders_of old (slice_index u.frames i) = other_held t.frames u.frames old i a.stand iu in
    let l = m.loses (slice_index t.frames i) st in
    let x = lost_some t.frames v.frames i m.long d in
    let k = m.stays (slice_index t.frames i) st in
    let q : 2 ≤ holders_of old (slice_index t.frames i) = omega (arith, l, x, k) in
    let fr = (m.fresh i d).0 in
    (w, (a.first i w q).0, λ e. let g = ap (holders_of old) e in absurd (omega (arith, g, fr, so))) in
    let fall = pairs_fall t.writes t.frames v.frames u.frames a.flags m.long a.long parts in
    let sp = m.spare in
    let rm = a.room in
    let room_is : pairs t.writes v.frames u.frames ≤ spare_of new = omega (arith, fall, sp, rm) in
    record {
      long = a.long ∙ sym m.long;
      flags = ap length f.writes ∙ a.flags ∙ sym m.long;
      writes = a.writes ∙ sym f.writes;
      stand = (f.others u.frames a.stand).0;
      first = subst (λ (xs : List Bool). SharesHere xs v.frames u.frames new) (sym f.writes) first_is;
      second = subst (λ (xs : List Bool). SharesHere xs u.frames v.frames new) (sym f.writes) second_is;
      room = subst (λ (xs : List Bool). pairs xs v.frames u.frames ≤ spare_of new) (sym f.writes) room_is;
    }

pub twins_second : (t u v : PageTable) (old new : Frames) → AreTwins t u old → Follows u v old new → AreTwins t v new
twins_second t u v old new a f = swap_twins v t new (twins_first u t v old new (swap_twins t u old a) f)

-- what a store through either asks
pub twins_ready : (t u : PageTable) (s : Frames) → AreTwins t u s → (shared_of t s ≤ spare_of s) × (shared_of u s ≤ spare_of s)
twins_ready t u s a =
    let r = a.room in
    let p = shared_pairs t.writes t.frames u.frames s a.long a.first in
    let q = shared_pairs t.writes u.frames t.frames s (sym a.long) a.second in
    let w = pairs_swap t.writes t.frames u.frames a.long in
    let b : shared_in t.writes u.frames s ≤ spare_of s = omega (arith, r, q, w) in
    ((omega (arith, r, p)), subst (λ (ws : List Bool). shared_in ws u.frames s ≤ spare_of s) (sym a.writes) b)

front_stands : (fs gs : List ℕ) (s : Frames) → StandIn (fs ++ gs) s → StandIn fs s
front_stands fs gs s c = λ n. let a = c n in let b = times_join n fs gs in omega (arith, a, b)

pub twins_whole : (t u : PageTable) (s : Frames) → AreTwins t u s → (StandIn t.frames s) × (StandIn u.frames s)
twins_whole t u s a = (front_stands t.frames u.frames s a.stand, front_stands u.frames t.frames s (swap_standing t.frames u.frames s a.stand))
