-- One write through a page of a space.
use Rattle.std.proofs.Common.{◌≡◌, ℕ, zero, suc, ◌+◌, ◌≤◌, ◌<◌, Bool, true, false, cond, List, [], ◌∷◌, ◌++◌, length, get_or, set, refl, sym, ap, subst, ◌∙◌, arith, inl, inr}
use Rattle.std.specs.Prelude.{◌==◌, ◌&&◌, leb, slice_index, count_by}
use Rattle.std.proofs.lemmas.List.{set-get_or, append-nil}
use Rattle.std.proofs.lemmas.Bool.{cases_eq, cases_lt, le-leb, lt-leb}
use Rattle.page_pool.specs.Frames.{Frames, holders_of, spare_of, frame_byte, HoldsAlone}
use Rattle.paged_space.specs.Moves.{one_if, IsMoved, StandIn, LeavesHolders}
use Rattle.paged_space.specs.Follows.{shared_in}
use Rattle.paged_space.proofs.OneWrite.{IsSplit, split_moves, split_keeps, alone_moves, alone_keeps, times_some, split_new, split_old, split_other}

one_less : (w : Bool) (a b : ℕ) → a ≤ b → cond (w && leb 2 a) 1 0 ≤ cond (w && leb 2 b) 1 0
one_less true a b h = elim (cases_lt a 2) [
  | inl l ↦ let x : one_if (leb 2 a) ≡ 0 = ap one_if (lt-leb 2 a l) in omega (arith, x)
  | inr g ↦ let k : 2 ≤ b = omega (arith, g, h) in let y : one_if (leb 2 b) ≡ 1 = ap one_if (le-leb 2 b k) in let x : one_if (leb 2 a) ≡ 1 = ap one_if (le-leb 2 a g) in omega (arith, x, y)
]
one_less false a b h = omega arith

shared_none : (w : Bool) (a : ℕ) → a ≡ 1 → one_if (w && leb 2 a) ≡ 0
shared_none true a e = let l : a < 2 = omega (arith, e) in ap one_if (lt-leb 2 a l)
shared_none false a e = refl

shared_some : (w : Bool) (a : ℕ) → w ≡ true → 2 ≤ a → one_if (w && leb 2 a) ≡ 1
shared_some true a t h = ap one_if (le-leb 2 a h)
shared_some false a t h = cc

not_more : (old new : Frames) (n m x : ℕ) → IsSplit old new n m → 1 ≤ holders_of old x → holders_of new x ≤ holders_of old x
not_more old new n m x s h = elim (cases_eq x m) [
  | inl q ↦ let z = s.free in let g = ap (holders_of old) q in absurd (omega (arith, z, g, h))
  | inr q ↦ elim (cases_eq x n) [
    | inl p ↦ let a = ap (holders_of new) p ∙ split_old old new n m s in let b = ap (holders_of old) p in omega (arith, a, b)
    | inr p ↦ let a = split_other old new n m x s p q in omega (arith, a)
  ]
]

nil_right : (fs : List ℕ) (fm : Frames) → StandIn fs fm → StandIn (fs ++ []) fm
nil_right fs fm c = subst (λ (gs : List ℕ). StandIn gs fm) (sym (append-nil fs)) c

nil_left : (x : ℕ) (gs : List ℕ) (fm : Frames) → count_by (λ f. f == x) (gs ++ []) ≤ holders_of fm x → count_by (λ f. f == x) gs ≤ holders_of fm x
nil_left x gs fm h = subst (λ (ys : List ℕ). count_by (λ f. f == x) ys ≤ holders_of fm x) (append-nil gs) h

-- pages that are written through another frame are shared no more
shared_less : (ws : List Bool) (fs : List ℕ) (old new : Frames) → ((i : ℕ) → i < length fs → holders_of new (get_or fs i 0) ≤ holders_of old (get_or fs i 0)) → shared_in ws fs new ≤ shared_in ws fs old
unfolding shared_in
shared_less [] fs old new h = omega arith
shared_less (w ∷ ws) [] old new h = omega arith
shared_less (w ∷ ws) (f ∷ fs) old new h =
    let r = shared_less ws fs old new (λ i l. h (suc i) (omega (arith, l))) in
    let a : holders_of new f ≤ holders_of old f = h 0 (omega arith) in
    let b : cond (w && leb 2 (holders_of new f)) 1 0 ≤ cond (w && leb 2 (holders_of old f)) 1 0 = one_less w (holders_of new f) (holders_of old f) a in
    omega (arith, r, b)

pub shared_falls : (ws : List Bool) (fs : List ℕ) (j m : ℕ) (old new : Frames) → j < length fs → get_or ws j false ≡ true → 2 ≤ holders_of old (get_or fs j 0) → holders_of new m ≡ 1 → ((i : ℕ) → i < length fs → holders_of new (get_or fs i 0) ≤ holders_of old (get_or fs i 0)) → shared_in ws (set fs j m) new + 1 ≤ shared_in ws fs old
unfolding shared_in
shared_falls ws [] j m old new l w s o h = absurd (omega (arith, l))
shared_falls [] (f ∷ fs) j m old new l w s o h = cc
shared_falls (w ∷ ws) (f ∷ fs) zero m old new l e s o h =
    let t : w ≡ true = cc in
    let r = shared_less ws fs old new (λ i k. h (suc i) (omega (arith, k))) in
    let a : one_if (w && leb 2 (holders_of new m)) ≡ 0 = shared_none w (holders_of new m) o in
    let b : one_if (w && leb 2 (holders_of old f)) ≡ 1 = shared_some w (holders_of old f) t s in
    omega (arith, r, a, b)
shared_falls (w ∷ ws) (f ∷ fs) (suc j) m old new l e s o h =
    let k : j < length fs = omega (arith, l) in
    let r = shared_falls ws fs j m old new k e s o (λ i n. h (suc i) (omega (arith, n))) in
    let a : holders_of new f ≤ holders_of old f = h 0 (omega arith) in
    let b : cond (w && leb 2 (holders_of new f)) 1 0 ≤ cond (w && leb 2 (holders_of old f)) 1 0 = one_less w (holders_of new f) (holders_of old f) a in
    omega (arith, r, b)

-- all that the trait asks of a store, from one write where the frame had other holders
pub record IsStored (ws : List Bool) (fs gs : List ℕ) (old new : Frames) : Type 0 where
  pub moved : IsMoved ws fs gs old new
  pub others : LeavesHolders fs gs old new
  pub stands : StandIn gs new
  pub ready : shared_in ws gs new ≤ spare_of new

pub split_stores : (ws : List Bool) (fs : List ℕ) (j n m : ℕ) (old new : Frames) → j < length fs → get_or fs j 0 ≡ n → get_or ws j false ≡ true → IsSplit old new n m → StandIn fs old → shared_in ws fs old ≤ spare_of old → ((x k : ℕ) → (x ≡ m → ⊥) → k < 4096 → frame_byte new x k ≡ frame_byte old x k) → IsStored ws fs (set fs j m) old new
split_stores ws fs j n m old new h e w s c r kept =
    let keeps = split_keeps fs j n m old new h e s kept in
    let less : (i : ℕ) → i < length fs → holders_of new (get_or fs i 0) ≤ holders_of old (get_or fs i 0) = λ i l.
    let t = times_some fs i l in
    let a = c (get_or fs i 0) in
    let z = s.free in
    not_more old new n m (get_or fs i 0) s (omega (arith, t, a)) in
    let f = shared_falls ws fs j m old new h w (subst (λ (x : ℕ). 2 ≤ holders_of old x) (sym e) s.shared) (split_new old new n m s) less in
    let g = s.spare in
    record {
      moved = split_moves ws fs j n m old new h e w s;
      others = keeps;
      stands = λ x. (let a = (keeps [] (nil_right fs old c)).0 x in nil_left x (set fs j m) new a);
      ready = omega (arith, f, g, r);
    }

pub alone_stores : (ws : List Bool) (fs : List ℕ) (j n : ℕ) (old new : Frames) → j < length fs → get_or fs j 0 ≡ n → holders_of old n ≡ 1 → new.holders ≡ old.holders → StandIn fs old → shared_in ws fs old ≤ spare_of old → ((x k : ℕ) → (x ≡ n → ⊥) → k < 4096 → frame_byte new x k ≡ frame_byte old x k) → IsStored ws fs fs old new
alone_stores ws fs j n old new h e one same c r kept =
    let less = shared_less ws fs old new (λ i l. let g = ap (λ hs. slice_index hs (get_or fs i 0)) same in omega (arith, g)) in
    let q = ap (λ hs. count_by (λ x. x == 0) hs) same in
    record {
      moved = alone_moves ws fs old new same;
      others = alone_keeps fs j n old new h e one same kept;
      stands = λ x. let a = c x in let g = ap (λ hs. slice_index hs x) same in omega (arith, a, g);
      ready = omega (arith, less, q, r);
    }

-- either way
pub write_stores : (ws : List Bool) (fs : List ℕ) (j n m : ℕ) (old new : Frames) → j < length fs → n < length old.holders → get_or fs j 0 ≡ n → get_or ws j false ≡ true → StandIn fs old → shared_in ws fs old ≤ spare_of old → HoldsAlone old new n m → IsStored ws fs (set fs j m) old new
write_stores ws fs j n m old new h nl e w c r p =
    let t : 1 ≤ count_by (λ f. f == n) fs = subst (λ (x : ℕ). 1 ≤ count_by (λ f. f == x) fs) e (times_some fs j h) in
    let cn = c n in
    elim (cases_lt (holders_of old n) 2) [
      | inl s ↦
          let one : holders_of old n ≡ 1 = omega (arith, s, cn, t) in
          let q = p.alone one in
          let u : set fs j m ≡ fs = ap (λ x. set fs j x) (q.0 ∙ sym e) ∙ set-get_or fs j 0 in
          subst (λ (gs : List ℕ). IsStored ws fs gs old new) (sym u) (alone_stores ws fs j n old new h e one q.1 c r (λ x k d b. p.others x k (λ i. d (i ∙ q.0)) b))
      | inr s ↦
          let q = p.split s in
          split_stores ws fs j n m old new h e w (record { shared = s; within = nl; room = q.0; free = q.1; holders = q.2; spare = q.3 }) c r p.others
    ]

-- with the spare that ready asks no write is refused
pub not_refused : (ws : List Bool) (fs : List ℕ) (j : ℕ) (old : Frames) → j < length fs → get_or ws j false ≡ true → 2 ≤ holders_of old (get_or fs j 0) → 1 ≤ shared_in ws fs old
unfolding shared_in
not_refused ws [] j old l w s = absurd (omega (arith, l))
not_refused [] (f ∷ fs) j old l w s = cc
not_refused (w ∷ ws) (f ∷ fs) zero old l e s = let t : w ≡ true = cc in let b : one_if (w && leb 2 (holders_of old f)) ≡ 1 = shared_some w (holders_of old f) t s in omega (arith, b)
not_refused (w ∷ ws) (f ∷ fs) (suc j) old l e s = let k : j < length fs = omega (arith, l) in let r = not_refused ws fs j old k e s in omega (arith, r)
