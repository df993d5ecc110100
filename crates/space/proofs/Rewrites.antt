-- One byte of a range written.
use Rattle.std.proofs.Common.{◌≡◌, ℕ, suc, ◌-◌, ◌<◌, Bool, true, false, List, ◌∷◌, ◌++◌, length, take, drop, get_or, set, refl, sym, ap, ◌∙◌, arith, inl, inr, length-set, get_or-set_same, get_or-set_other}
use Rattle.std.specs.Prelude.{Option, Some, None}
use Rattle.std.specs.Option.{option_or}
use Rattle.std.proofs.lemmas.Bool.{cond-true, cond-false, cases_Bool, cases_eq, eq-eqb, ne_eqb}
use Rattle.std.proofs.lemmas.List.{set_split}
use Rattle.std.proofs.Math.Path.{fun_ext}
use Rattle.rtl_core.specs.Contents.{Contents, Held, put, rewritten, is_writable}
use Rattle.space.specs.declared.range.Range.{Range}
use Rattle.space.specs.Ranges.{held, holds, memory_of}
use Rattle.space.specs.Order.{ascends, written}
use Rattle.space.proofs.Maps.{held_low, held_high, memory_here, memory_skip, memory_append}
use Rattle.space.proofs.Rising.{whole_full, end_after, front_ascends, back_ascends, joined_ascends}
use Rattle.space.proofs.Lookups.{cut, cut_ascends, whole_in, mapped_in, mapped_at}

abbrev range_of : ℕ → ℕ → Bool → List ℕ → Range
range_of b n w bytes = record { base = b; len = n; write = w; bytes = bytes }

holds_still : (w : Bool) (b n : ℕ) (bytes : List ℕ) (a v at : ℕ) → holds (written (range_of b n w bytes) a v) at ≡ holds (range_of b n w bytes) at
holds_still true b n bytes a v at = refl
holds_still false b n bytes a v at = refl

ascends_still : (w : Bool) (b n : ℕ) (bytes : List ℕ) (a v low : ℕ) (ys : List Range) → ascends low (range_of b n w bytes ∷ ys) ≡ true → ascends low (written (range_of b n w bytes) a v ∷ ys) ≡ true
unfolding ascends
ascends_still true b n bytes a v low ys o = rw (length-set bytes (a - b) v) o
ascends_still false b n bytes a v low ys o = o

written_held : (w : Bool) (b n : ℕ) (bytes : List ℕ) (a v : ℕ) → a - b < length bytes → Some (held (written (range_of b n w bytes) a v) a) ≡ rewritten (Some (held (range_of b n w bytes) a)) v
written_held true b n bytes a v i = ap (λ x. byte_of_held x) (get_or-set_same bytes (a - b) v 0 i)
  where
    byte_of_held : ℕ → Option Held
    byte_of_held x = Some (record { byte = x; writes = true })
written_held false b n bytes a v i = refl

other_held : (w : Bool) (b n : ℕ) (bytes : List ℕ) (a v at : ℕ) → (at - b ≡ a - b → ⊥) → Some (held (written (range_of b n w bytes) a v) at) ≡ Some (held (range_of b n w bytes) at)
other_held true b n bytes a v at d = ap (λ x. byte_of_held x) (get_or-set_other bytes (a - b) (at - b) v 0 d)
  where
    byte_of_held : ℕ → Option Held
    byte_of_held x = Some (record { byte = x; writes = true })
other_held false b n bytes a v at d = refl

holds_written : (r : Range) (a v at : ℕ) → holds (written r a v) at ≡ holds r at
holds_written r a v at = holds_still r.write r.base r.len r.bytes a v at

-- the list stays in order
pub ascends_written : (low : ℕ) (xs : List Range) (r : Range) (ys : List Range) (a v : ℕ) → ascends low (xs ++ r ∷ ys) ≡ true → ascends low (xs ++ written r a v ∷ ys) ≡ true
ascends_written low xs r ys a v o =
    joined_ascends low xs (written r a v ∷ ys) (front_ascends low xs (r ∷ ys) o)
    (ascends_still r.write r.base r.len r.bytes a v (end_after low xs) ys (back_ascends low xs (r ∷ ys) o))

-- the written byte, and the others
here_put : (xs : List Range) (r : Range) (ys : List Range) (a v : ℕ) → ascends 0 (xs ++ r ∷ ys) ≡ true → holds r a ≡ true → memory_of (xs ++ written r a v ∷ ys) a ≡ rewritten (memory_of (xs ++ r ∷ ys) a) v
here_put xs r ys a v o h =
    let f = whole_full r (whole_in xs r ys o) in
    let l = held_low r a h in
    let u = held_high r a h in
    let i : a - r.base < length r.bytes = omega arith in
    mapped_in xs (written r a v) ys a (ascends_written 0 xs r ys a v o) (holds_written r a v a ∙ h)
    ∙ written_held r.write r.base r.len r.bytes a v i
    ∙ ap (λ m. rewritten m v) (sym (mapped_in xs r ys a o h))

head_kept : (r : Range) (ys : List Range) (a v at : ℕ) → holds r a ≡ true → (at ≡ a → ⊥) → memory_of (written r a v ∷ ys) at ≡ memory_of (r ∷ ys) at
head_kept r ys a v at h n = elim (cases_Bool (holds r at)) [
  | inl t ↦
      let l = held_low r a h in
      let m = held_low r at t in
      let d : at - r.base ≡ a - r.base → ⊥ = λ e. n (omega arith) in
      memory_here (written r a v) ys at (holds_written r a v at ∙ t)
      ∙ other_held r.write r.base r.len r.bytes a v at d
      ∙ sym (memory_here r ys at t)
  | inr f ↦ memory_skip (written r a v) ys at (holds_written r a v at ∙ f) ∙ sym (memory_skip r ys at f)
]

there_kept : (xs : List Range) (r : Range) (ys : List Range) (a v at : ℕ) → holds r a ≡ true → (at ≡ a → ⊥) → memory_of (xs ++ written r a v ∷ ys) at ≡ memory_of (xs ++ r ∷ ys) at
there_kept xs r ys a v at h n =
    memory_append xs (written r a v ∷ ys) at
    ∙ ap (option_or (memory_of xs at)) (head_kept r ys a v at h n)
    ∙ sym (memory_append xs (r ∷ ys) at)

put_in : (xs : List Range) (r : Range) (ys : List Range) (a v at : ℕ) → ascends 0 (xs ++ r ∷ ys) ≡ true → holds r a ≡ true → memory_of (xs ++ written r a v ∷ ys) at ≡ put (memory_of (xs ++ r ∷ ys)) a v at
unfolding put
put_in xs r ys a v at o h = elim (cases_eq at a) [
  | inl s ↦
      ap (memory_of (xs ++ written r a v ∷ ys)) s
      ∙ here_put xs r ys a v o h
      ∙ ap (λ x. rewritten (memory_of (xs ++ r ∷ ys) x) v) (sym s)
      ∙ sym (cond-true _ _ _ (eq-eqb at a s))
  | inr n ↦ there_kept xs r ys a v at h n ∙ sym (cond-false _ _ _ (ne_eqb at a n))
]

-- the same at a place of a list
pub put_at_place : (rs : List Range) (n : ℕ) (r q d : Range) (a v : ℕ) → ascends 0 rs ≡ true → n < length rs → r ≡ get_or rs n d → holds r a ≡ true → q ≡ written r a v → memory_of (set rs n q) ≡ put (memory_of rs) a v
put_at_place rs n r q d a v o h e l w =
    let c = cut rs n r d h e in
    fun_ext (λ at.
    ap (λ (x : Range). memory_of (set rs n x) at) w
    ∙ ap (λ (xs : List Range). memory_of xs at) (set_split rs n (written r a v) h)
    ∙ put_in (take n rs) r (drop (suc n) rs) a v at (cut_ascends rs n r d h e o) l
    ∙ ap (λ (xs : List Range). put (memory_of xs) a v at) c)

pub order_at_place : (rs : List Range) (n : ℕ) (r q d : Range) (a v : ℕ) → ascends 0 rs ≡ true → n < length rs → r ≡ get_or rs n d → q ≡ written r a v → ascends 0 (set rs n q) ≡ true
order_at_place rs n r q d a v o h e w =
    ap (λ (x : Range). ascends 0 (set rs n x)) w
    ∙ ap (ascends 0) (set_split rs n (written r a v) h)
    ∙ ascends_written 0 (take n rs) r (drop (suc n) rs) a v (cut_ascends rs n r d h e o)

pub answer_at_place : (rs : List Range) (n : ℕ) (r d : Range) (a : ℕ) → ascends 0 rs ≡ true → n < length rs → r ≡ get_or rs n d → holds r a ≡ true → r.write ≡ is_writable (memory_of rs a)
answer_at_place rs n r d a o h e l = sym (ap is_writable (mapped_at rs n r d a o h e l))

-- where nothing is mapped nothing is written
pub put_nowhere : (m : Contents) (a v : ℕ) → m a ≡ None → m ≡ put m a v
unfolding put
put_nowhere m a v e = fun_ext (λ at. elim (cases_eq at a) [
  | inl s ↦
      let k : m at ≡ None = ap m s ∙ e in
      k ∙ ap (λ o. rewritten o v) (sym k) ∙ sym (cond-true _ _ _ (eq-eqb at a s))
  | inr n ↦ sym (cond-false _ _ _ (ne_eqb at a n))
])
