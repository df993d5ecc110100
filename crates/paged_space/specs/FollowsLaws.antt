-- That following is reflexive and transitive.
use Rattle.std.proofs.Common.{◌≡◌, ℕ, zero, suc, ◌+◌, ◌≤◌, Bool, not, List, [], ◌∷◌, length, refl, sym, ap, subst, ◌∙◌, arith, inl, inr}
use Rattle.std.specs.Prelude.{◌==◌, ◌&&◌, slice_index}
use Rattle.std.proofs.lemmas.Bool.{cases_eq, eq-eqb, ne_eqb}
use Rattle.page_pool.specs.Frames.{Frames, holders_of}
use Rattle.paged_space.specs.PageTable.{PageTable}
use Rattle.paged_space.specs.Moves.{one_if, lost, moves, IsMoved, LeavesHolders}
use Rattle.paged_space.specs.Follows.{Follows}

lost_one : (f g n : ℕ) → f ≡ g → one_if (not (f == g) && (f == n)) ≡ 0
lost_one f g n e = rw (eq-eqb f g e) refl

moved_one : (f g : ℕ) → f ≡ g → one_if (not (f == g)) ≡ 0
moved_one f g e = rw (eq-eqb f g e) refl

pub lost_none : (n : ℕ) (fs : List ℕ) → lost n fs fs ≡ 0
unfolding lost
lost_none n [] = refl
lost_none n (f ∷ fs) = rw (lost_one f f n refl, lost_none n fs) refl

pub moves_none : (fs : List ℕ) → moves fs fs ≡ 0
unfolding moves
moves_none [] = refl
moves_none (f ∷ fs) = rw (moved_one f f refl, moves_none fs) refl

-- a page that changed is counted
pub lost_some : (fs gs : List ℕ) (i : ℕ) → length gs ≡ length fs → (slice_index gs i ≡ slice_index fs i → ⊥) → 1 ≤ lost (slice_index fs i) fs gs
unfolding lost
lost_some [] [] i l n = absurd (n refl)
lost_some [] (g ∷ gs) i l n = absurd (omega (arith, l))
lost_some (f ∷ fs) [] i l n = absurd (omega (arith, l))
lost_some (f ∷ fs) (g ∷ gs) zero l n = let x = ne_eqb f g (λ e. n (sym e)) in let y = eq-eqb f f refl in rw (x, y) (omega arith)
lost_some (f ∷ fs) (g ∷ gs) (suc i) l n =
    let k : length gs ≡ length fs = omega (arith, l) in
    let r = lost_some fs gs i k n in omega (arith, r)

pub lost_add : (n : ℕ) (fs gs hs : List ℕ) → length gs ≡ length fs → length hs ≡ length gs → ((i : ℕ) → (slice_index gs i ≡ slice_index fs i → ⊥) → slice_index hs i ≡ slice_index gs i) → lost n fs hs ≡ lost n fs gs + lost n gs hs
unfolding lost
lost_add n [] [] [] l m h = refl
lost_add n [] [] (x ∷ hs) l m h = absurd (omega (arith, m))
lost_add n [] (g ∷ gs) hs l m h = absurd (omega (arith, l))
lost_add n (f ∷ fs) [] hs l m h = absurd (omega (arith, l))
lost_add n (f ∷ fs) (g ∷ gs) [] l m h = absurd (omega (arith, m))
lost_add n (f ∷ fs) (g ∷ gs) (x ∷ hs) l m h =
    let k : length gs ≡ length fs = omega (arith, l) in
    let j : length hs ≡ length gs = omega (arith, m) in
    let r = lost_add n fs gs hs k j (λ i. h (suc i)) in
    elim (cases_eq g f) [
      | inl e ↦
          let z = lost_one f g n (sym e) in
          let s : one_if (not (f == x) && (f == n)) ≡ one_if (not (g == x) && (g == n)) = ap (λ v. one_if (not (v == x) && (v == n))) (sym e) in
          omega (arith, z, s, r)
      | inr d ↦
          let e : x ≡ g = h 0 d in
          let z = lost_one g x n (sym e) in
          let s : one_if (not (f == x) && (f == n)) ≡ one_if (not (f == g) && (f == n)) = ap (λ v. one_if (not (f == v) && (f == n))) e in
          omega (arith, z, s, r)
    ]

pub moves_add : (fs gs hs : List ℕ) → length gs ≡ length fs → length hs ≡ length gs → ((i : ℕ) → (slice_index gs i ≡ slice_index fs i → ⊥) → slice_index hs i ≡ slice_index gs i) → moves fs hs ≡ moves fs gs + moves gs hs
unfolding moves
moves_add [] [] [] l m h = refl
moves_add [] [] (x ∷ hs) l m h = absurd (omega (arith, m))
moves_add [] (g ∷ gs) hs l m h = absurd (omega (arith, l))
moves_add (f ∷ fs) [] hs l m h = absurd (omega (arith, l))
moves_add (f ∷ fs) (g ∷ gs) [] l m h = absurd (omega (arith, m))
moves_add (f ∷ fs) (g ∷ gs) (x ∷ hs) l m h =
    let k : length gs ≡ length fs = omega (arith, l) in
    let j : length hs ≡ length gs = omega (arith, m) in
    let r = moves_add fs gs hs k j (λ i. h (suc i)) in
    elim (cases_eq g f) [
      | inl e ↦
          let z = moved_one f g (sym e) in
          let s : one_if (not (f == x)) ≡ one_if (not (g == x)) = ap (λ v. one_if (not (v == x))) (sym e) in
          omega (arith, z, s, r)
      | inr d ↦
          let e : x ≡ g = h 0 d in
          let z = moved_one g x (sym e) in
          let s : one_if (not (f == x)) ≡ one_if (not (f == g)) = ap (λ v. one_if (not (f == v))) e in
          omega (arith, z, s, r)
    ]

pub moved_itself : (ws : List Bool) (fs : List ℕ) (s : Frames) → IsMoved ws fs fs s s
moved_itself ws fs s = record {
  long = refl;
  numbers = refl;
  may = λ i n. absurd (n refl);
  fresh = λ i n. absurd (n refl);
  stays = λ n h. h;
  loses = λ n h. let z = lost_none n fs in omega (arith, z);
  others = λ n e h. e;
  spare = let z = moves_none fs in omega (arith, z);
}

-- no page gets a second frame of its own
not_twice : (ws vs : List Bool) (fs gs hs : List ℕ) (a b c : Frames) → IsMoved ws fs gs a b → IsMoved vs gs hs b c → (i : ℕ) → (slice_index gs i ≡ slice_index fs i → ⊥) → slice_index hs i ≡ slice_index gs i
not_twice ws vs fs gs hs a b c p q i n = elim (cases_eq (slice_index hs i) (slice_index gs i)) [
  | inl e ↦ e
  | inr d ↦
      let o = (p.fresh i n).1 in
      let w : 1 ≤ holders_of b (slice_index gs i) = omega (arith, o) in
      let k = q.stays (slice_index gs i) w in
      let l = q.loses (slice_index gs i) w in
      let m = lost_some gs hs i q.long d in
      absurd (omega (arith, o, k, l, m))
]

pub moved_on : (ws : List Bool) (fs gs hs : List ℕ) (a b c : Frames) → IsMoved ws fs gs a b → IsMoved ws gs hs b c → IsMoved ws fs hs a c
moved_on ws fs gs hs a b c p q =
    let once = not_twice ws ws fs gs hs a b c p q in
    record {
      long = q.long ∙ p.long;
      numbers = q.numbers ∙ p.numbers;
      may = λ i n. elim (cases_eq (slice_index gs i) (slice_index fs i)) [ inl e ↦ q.may i (λ d. n (d ∙ e)) | inr d ↦ p.may i d ];
      fresh = λ i n. elim (cases_eq (slice_index gs i) (slice_index fs i)) [
        | inl e ↦
            let r = q.fresh i (λ d. n (d ∙ e)) in
            let z : holders_of a (slice_index hs i) ≡ 0 = elim (cases_eq (holders_of a (slice_index hs i)) 0) [
              | inl o ↦ o
              | inr o ↦ let u : 1 ≤ holders_of a (slice_index hs i) = omega arith in let v = p.stays (slice_index hs i) u in let w = r.0 in absurd (omega (arith, v, w))
            ] in
            (z, r.1)
        | inr d ↦
            let r = p.fresh i d in
            let e = once i d in
            let w = r.1 in
            let u : 1 ≤ holders_of b (slice_index gs i) = omega (arith, w) in
            let k = q.stays (slice_index gs i) u in
            let l = q.loses (slice_index gs i) u in
            let o : holders_of c (slice_index gs i) ≡ 1 = omega (arith, w, k, l) in
            (ap (holders_of a) e ∙ r.0, ap (holders_of c) e ∙ o)
      ];
      stays = λ n h. q.stays n (p.stays n h);
      loses = λ n h.
          let l = p.loses n h in
          let m = q.loses n (p.stays n h) in
          let k = lost_add n fs gs hs p.long q.long once in
          omega (arith, l, m, k);
      others = λ n z h.
          let o = p.others n z (λ i e. elim (cases_eq (slice_index hs i) (slice_index gs i)) [
            | inl s ↦ h i (s ∙ e)
            | inr d ↦ elim (cases_eq (slice_index gs i) (slice_index fs i)) [ inl s ↦ sym s ∙ e | inr t ↦ absurd (d (once i t)) ]
          ]) in
          q.others n o (λ i e. elim (cases_eq (slice_index hs i) (slice_index gs i)) [
            | inl s ↦ sym s ∙ e
            | inr d ↦ elim (cases_eq (slice_index gs i) (slice_index fs i)) [ inl s ↦ s ∙ h i e | inr t ↦ absurd (d (once i t)) ]
          ]);
      spare =
          let l = p.spare in
          let m = q.spare in
          let k = moves_add fs gs hs p.long q.long once in
          omega (arith, l, m, k);
    }

pub keeps_on : (fs gs hs : List ℕ) (a b c : Frames) → LeavesHolders fs gs a b → LeavesHolders gs hs b c → LeavesHolders fs hs a c
keeps_on fs gs hs a b c p q = λ rest o.
    let r = p rest o in
    let s = q rest r.0 in
    (s.0, λ n k h l. s.1 n k h l ∙ r.1 n k h l)

pub follows_same : (t : PageTable) (s : Frames) → Follows t t s s
follows_same t s = record {
  extents = refl;
  writes = refl;
  moved = moved_itself t.writes t.frames s;
  others = λ rest o. (o, λ n k h l. refl);
}

pub follows_next : (t u v : PageTable) (a b c : Frames) → Follows t u a b → Follows u v b c → Follows t v a c
follows_next t u v a b c p q = record {
  extents = q.extents ∙ p.extents;
  writes = q.writes ∙ p.writes;
  moved = moved_on t.writes t.frames u.frames v.frames a b c p.moved (subst (λ (ws : List Bool). IsMoved ws u.frames v.frames b c) p.writes q.moved);
  others = keeps_on t.frames u.frames v.frames a b c p.others q.others;
}
