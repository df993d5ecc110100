-- A range put among those in order.
use Rattle.std.proofs.Common.{◌≡◌, ℕ, zero, suc, ◌+◌, ◌-◌, ◌<◌, ◌≤◌, true, false, List, [], ◌∷◌, ◌++◌, length, take, drop, get_or, refl, sym, ap, ◌∙◌, arith, inl, inr, length-append}
use Rattle.std.specs.Prelude.{Option, Some, None, min, max, replicate, slice_index}
use Rattle.std.specs.Option.{option_or}
use Rattle.std.specs.List.{list_any, insert}
use Rattle.std.proofs.lemmas.Bool.{ltb-false, lt-ltb, eq-eqb, and_from, cases_Bool, or_parts}
use Rattle.std.proofs.lemmas.List.{take-append-drop, get_or-drop, length-drop, length-replicate}
use Rattle.std.proofs.Math.Path.{fun_ext}
use Rattle.rtl_core.specs.Contents.{Held}
use Rattle.space.specs.declared.range.Range.{Range}
use Rattle.space.specs.Ranges.{held, HasRoom, end_of, holds, memory_of, shares}
use Rattle.space.specs.Order.{ascends, is_whole, IsPassed}
use Rattle.space.specs.Placed.{IsPlaced}
use Rattle.space.proofs.Maps.{held_low, held_high, memory_here, memory_skip, memory_nil, memory_append, or_none}
use Rattle.space.proofs.Rising.{whole_some, first_whole, rest_ascends, ascends_from, none_ascend, end_after, front_ascends, back_ascends, joined_ascends, below_none, past_front, passed_front}
use Rattle.space.proofs.Meetings.{front_apart}

-- a range with its zeros
abbrev pub filled : Range → Range
filled r = record r { bytes = r.bytes ++ replicate (r.len - length r.bytes) 0 }

zeros : (n k : ℕ) → slice_index (replicate n 0) k ≡ 0
zeros zero k = refl
zeros (suc n) zero = refl
zeros (suc n) (suc k) = zeros n k

zeros_behind : (bytes : List ℕ) (n k : ℕ) → slice_index (bytes ++ replicate n 0) k ≡ slice_index bytes k
zeros_behind [] n k = zeros n k
zeros_behind (b ∷ bytes) n zero = refl
zeros_behind (b ∷ bytes) n (suc k) = zeros_behind bytes n k

held_filled : (r : Range) (a : ℕ) → Some (held (filled r) a) ≡ Some (held r a)
held_filled r a = ap with_byte (zeros_behind r.bytes (r.len - length r.bytes) (a - r.base))
  where
    with_byte : ℕ → Option Held
    with_byte x = Some (record { byte = x; writes = r.write })

whole_filled : (r : Range) → HasRoom r → 0 < r.len → is_whole (filled r) ≡ true
whole_filled r h n =
    let l : length (r.bytes ++ replicate (r.len - length r.bytes) 0) ≡ r.len = omega (arith, length-append r.bytes (replicate (r.len - length r.bytes) 0), length-replicate {A = ℕ} (r.len - length r.bytes) 0) in
    and_from _ _ (lt-ltb _ _ n) (eq-eqb _ _ l)

-- those behind it begin at or above its end
ahead : (low : ℕ) (r : Range) (ys : List Range) → ascends low ys ≡ true → ((d : Range) → 0 < length ys → r.base < end_of (get_or ys 0 d)) → 0 < r.len → list_any (shares r) ys ≡ false → ascends (end_of r) ys ≡ true
ahead low r [] o h n f = none_ascend (end_of r)
ahead low r (y ∷ ys) o h n f =
    let some : 0 < length (y ∷ ys) = omega arith in
    let b : r.base < end_of y = h y some in
    let w = whole_some y (first_whole low y ys o) in
    let l : min (end_of r) (end_of y) ≤ max r.base y.base = ltb-false _ _ (or_parts _ _ f).0 in
    let e : end_of r ≤ y.base = omega arith in
    ascends_from (end_of r) y ys (first_whole low y ys o) e (rest_ascends low y ys o)

passed_back : (rs : List Range) (a n : ℕ) → IsPassed rs a n → (d : Range) → 0 < length (drop n rs) → a < end_of (get_or (drop n rs) 0 d)
passed_back rs a n p d h =
    let l = length-drop n rs in
    let within : n < length rs = omega arith in
    let z : n + 0 ≡ n = omega arith in
    let u : n ≤ n = omega arith in
    let above = p.above n d u within in
    let e : end_of (get_or (drop n rs) 0 d) ≡ end_of (get_or rs n d) = ap end_of (get_or-drop n rs 0 d ∙ ap (λ k. get_or rs k d) z) in
    omega (arith, above, e)

-- what stands on both sides of the place of a range
pub record Gap (rs : List Range) (r : Range) (n : ℕ) : Type 0 where
  pub front : ascends 0 (take n rs) ≡ true
  pub low : end_after 0 (take n rs) ≤ r.base
  pub back : ascends (end_of r) (drop n rs) ≡ true

pub gap_at : (rs : List Range) (r : Range) (n : ℕ) → ascends 0 rs ≡ true → IsPassed rs r.base n → 0 < r.len → list_any (shares r) rs ≡ false → Gap rs r n
gap_at rs r n o p some f =
    let s : ascends 0 (take n rs ++ drop n rs) ≡ true = ap (ascends 0) (take-append-drop n rs) ∙ o in
    let front = front_ascends 0 (take n rs) (drop n rs) s in
    let low = passed_front rs r.base n p in
    let g : list_any (shares r) (drop n rs) ≡ false = sym (front_apart 0 r (take n rs) (drop n rs) front low) ∙ ap (list_any (shares r)) (take-append-drop n rs) ∙ f in
    record {
      front = front;
      low = low;
      back = ahead (end_after 0 (take n rs)) r (drop n rs) (back_ascends 0 (take n rs) (drop n rs) s) (passed_back rs r.base n p) some g;
    }

insert_ascends : (rs : List Range) (r : Range) (n : ℕ) → Gap rs r n → HasRoom r → 0 < r.len → ascends 0 (insert rs n (filled r)) ≡ true
insert_ascends rs r n g h some =
    joined_ascends 0 (take n rs) (filled r ∷ drop n rs) g.front (ascends_from (end_after 0 (take n rs)) (filled r) (drop n rs) (whole_filled r h some) g.low g.back)

insert_here : (rs : List Range) (r : Range) (n a : ℕ) → Gap rs r n → holds r a ≡ true → memory_of (insert rs n (filled r)) a ≡ memory_of (rs ++ r ∷ []) a
insert_here rs r n a g h =
    let l = held_low r a h in
    let u = held_high r a h in
    let w = g.low in
    let b : end_after 0 (take n rs) ≤ a = omega arith in
    let back : memory_of (drop n rs) a ≡ None = below_none (end_of r) (drop n rs) a g.back u in
    let whole : memory_of rs a ≡ None = sym (ap (λ (xs : List Range). memory_of xs a) (take-append-drop n rs)) ∙ past_front 0 (take n rs) (drop n rs) a g.front b ∙ back in
    past_front 0 (take n rs) (filled r ∷ drop n rs) a g.front b
    ∙ memory_here (filled r) (drop n rs) a h
    ∙ held_filled r a
    ∙ sym (memory_here r [] a h)
    ∙ sym (ap (λ o. option_or o (memory_of (r ∷ []) a)) whole)
    ∙ sym (memory_append rs (r ∷ []) a)

pub nothing_more : (rs : List Range) (r : Range) (a : ℕ) → holds r a ≡ false → memory_of rs a ≡ memory_of (rs ++ r ∷ []) a
nothing_more rs r a f =
    sym (or_none (memory_of rs a))
    ∙ sym (ap (option_or (memory_of rs a)) (memory_skip r [] a f ∙ memory_nil a))
    ∙ sym (memory_append rs (r ∷ []) a)

insert_there : (rs : List Range) (r : Range) (n a : ℕ) → holds r a ≡ false → memory_of (insert rs n (filled r)) a ≡ memory_of (rs ++ r ∷ []) a
insert_there rs r n a f =
    memory_append (take n rs) (filled r ∷ drop n rs) a
    ∙ ap (option_or (memory_of (take n rs) a)) (memory_skip (filled r) (drop n rs) a f)
    ∙ sym (memory_append (take n rs) (drop n rs) a)
    ∙ ap (λ (xs : List Range). memory_of xs a) (take-append-drop n rs)
    ∙ nothing_more rs r a f

pub inserted : (rs : List Range) (r : Range) (n : ℕ) → Gap rs r n → HasRoom r → 0 < r.len → IsPlaced (rs ++ r ∷ []) (insert rs n (filled r))
inserted rs r n g h some = record {
  ordered = insert_ascends rs r n g h some;
  same = fun_ext (λ a. elim (cases_Bool (holds r a)) [ inl t ↦ insert_here rs r n a g t | inr f ↦ insert_there rs r n a f ]);
}

-- an empty range adds nothing
pub left_out : (rs : List Range) (r : Range) → ascends 0 rs ≡ true → r.len ≡ 0 → IsPlaced (rs ++ r ∷ []) rs
left_out rs r o e = record {
  ordered = o;
  same = fun_ext (λ a. nothing_more rs r a (none_lies a));
}
  where
    none_lies : (a : ℕ) → holds r a ≡ false
    none_lies a = elim (cases_Bool (holds r a)) [
      | inl t ↦ let l = held_low r a t in let u = held_high r a t in absurd (omega arith)
      | inr f ↦ f
    ]
