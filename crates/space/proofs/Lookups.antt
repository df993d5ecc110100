-- What is mapped at the place where the search ends.
use Rattle.std.proofs.Common.{◌≡◌, ℕ, suc, ◌<◌, ◌≤◌, true, List, ◌∷◌, ◌++◌, length, take, drop, get_or, sym, ap, ◌∙◌, arith, drop-cons}
use Rattle.std.specs.Prelude.{Some, None}
use Rattle.std.proofs.lemmas.List.{take-append-drop, take_all}
use Rattle.space.specs.declared.range.Range.{Range}
use Rattle.space.specs.Ranges.{held, end_of, holds, memory_of}
use Rattle.space.specs.Order.{ascends, is_whole, IsPassed, IsAt}
use Rattle.space.proofs.Maps.{held_low, not_below, memory_here, memory_skip}
use Rattle.space.proofs.Rising.{first_whole, first_low, rest_ascends, end_after, front_ascends, back_ascends, below_none, past_none, past_front, passed_front}

-- a list cut at one of its ranges
pub cut : (rs : List Range) (n : ℕ) (r d : Range) → n < length rs → r ≡ get_or rs n d → take n rs ++ r ∷ drop (suc n) rs ≡ rs
cut rs n r d h e =
    ap (λ q. take n rs ++ q ∷ drop (suc n) rs) e
    ∙ sym (ap (λ ys. take n rs ++ ys) (drop-cons rs n d h))
    ∙ take-append-drop n rs

pub cut_ascends : (rs : List Range) (n : ℕ) (r d : Range) → n < length rs → r ≡ get_or rs n d → ascends 0 rs ≡ true → ascends 0 (take n rs ++ r ∷ drop (suc n) rs) ≡ true
cut_ascends rs n r d h e o = ap (ascends 0) (cut rs n r d h e) ∙ o

pub whole_in : (xs : List Range) (r : Range) (ys : List Range) → ascends 0 (xs ++ r ∷ ys) ≡ true → is_whole r ≡ true
whole_in xs r ys o = first_whole (end_after 0 xs) r ys (back_ascends 0 xs (r ∷ ys) o)

pub whole_at : (rs : List Range) (n : ℕ) (r d : Range) → ascends 0 rs ≡ true → n < length rs → r ≡ get_or rs n d → is_whole r ≡ true
whole_at rs n r d o h e = whole_in (take n rs) r (drop (suc n) rs) (cut_ascends rs n r d h e o)

pub mapped_in : (xs : List Range) (r : Range) (ys : List Range) (a : ℕ) → ascends 0 (xs ++ r ∷ ys) ≡ true → holds r a ≡ true → memory_of (xs ++ r ∷ ys) a ≡ Some (held r a)
mapped_in xs r ys a o h =
    let l = first_low (end_after 0 xs) r ys (back_ascends 0 xs (r ∷ ys) o) in
    let m = held_low r a h in
    let b : end_after 0 xs ≤ a = omega arith in
    past_front 0 xs (r ∷ ys) a (front_ascends 0 xs (r ∷ ys) o) b ∙ memory_here r ys a h

pub mapped_at : (rs : List Range) (n : ℕ) (r d : Range) (a : ℕ) → ascends 0 rs ≡ true → n < length rs → r ≡ get_or rs n d → holds r a ≡ true → memory_of rs a ≡ Some (held r a)
mapped_at rs n r d a o h e l =
    sym (ap (λ q. memory_of q a) (cut rs n r d h e))
    ∙ mapped_in (take n rs) r (drop (suc n) rs) a (cut_ascends rs n r d h e o) l

pub lies_at : (rs : List Range) (n : ℕ) (r : Range) (a : ℕ) → IsAt rs a n → r ≡ get_or rs n r → holds r a ≡ true
lies_at rs n r a p e = ap (λ q. holds q a) e ∙ p.lies r

-- behind the last range
pub unmapped_behind : (rs : List Range) (a n : ℕ) → ascends 0 rs ≡ true → IsPassed rs a n → n ≡ length rs → memory_of rs a ≡ None
unmapped_behind rs a n o p e =
    let g : length rs ≤ n = omega arith in
    let f = passed_front rs a n p in
    let t : end_after 0 (take n rs) ≡ end_after 0 rs = ap (end_after 0) (take_all n rs g) in
    let l : end_after 0 rs ≤ a = omega (arith, t, f) in
    past_none 0 rs a o l

-- between the ranges that end at or below an address and the next
pub unmapped_between : (rs : List Range) (n : ℕ) (r d : Range) (a : ℕ) → ascends 0 rs ≡ true → IsPassed rs a n → n < length rs → r ≡ get_or rs n d → a < r.base → memory_of rs a ≡ None
unmapped_between rs n r d a o p h e b =
    let s = cut_ascends rs n r d h e o in
    let t = back_ascends 0 (take n rs) (r ∷ drop (suc n) rs) s in
    let c : a < end_of r = omega arith in
    sym (ap (λ q. memory_of q a) (cut rs n r d h e))
    ∙ past_front 0 (take n rs) (r ∷ drop (suc n) rs) a (front_ascends 0 (take n rs) (r ∷ drop (suc n) rs) s) (passed_front rs a n p)
    ∙ memory_skip r (drop (suc n) rs) a (not_below r a b)
    ∙ below_none (end_of r) (drop (suc n) rs) a (rest_ascends (end_after 0 (take n rs)) r (drop (suc n) rs) t) c
