-- The memory of ranges that share no address, range by range.
use Rattle.std.proofs.Common.{◌≡◌, ℕ, zero, suc, Bool, true, false, List, [], ◌∷◌, ◌++◌, length, refl, sym, ap, ◌∙◌, inl, inr, append_assoc}
use Rattle.std.specs.Prelude.{Option, Some, None, slice_get, if◌then◌else◌}
use Rattle.std.specs.List.{list_any}
use Rattle.std.specs.Option.{option_or}
use Rattle.std.proofs.lemmas.Bool.{cases_Bool, both_ways, or_parts}
use Rattle.rtl_core.specs.Contents.{Contents, Held, is_mapped}
use Rattle.space.specs.declared.range.Range.{Range}
use Rattle.space.specs.declared.fault.SpaceFault.{SpaceFault}
use Rattle.space.specs.declared.fault.SpaceFault.TheVariants.{PastEnd, Overlap}
use Rattle.space.specs.Ranges.{IsMapOf, held, holds, memory_of, shares}
use Rattle.space.specs.Faults.{passes_end, told, range_fault, ranges_fault}
use Rattle.space.proofs.Maps.{memory_here, memory_skip, memory_nil, memory_append}
use Rattle.space.proofs.Meetings.{any_from}

-- a range without a fault meets none of the earlier ones
pub meets_none : (e : Bool) (earlier : List Range) (index : ℕ) (r : Range) → (if e then Some (PastEnd index) else if list_any (shares r) earlier then Some (Overlap index) else None) ≡ None → list_any (shares r) earlier ≡ false
meets_none e earlier index r n = elim (cases_Bool (list_any (shares r) earlier)) [
  | inl t ↦ absurd (some_fault e (list_any (shares r) earlier) t n)
  | inr f ↦ f
]
  where
    some_fault : (e b : Bool) → b ≡ true → (if e then Some (PastEnd index) else if b then Some (Overlap index) else None) ≡ None → ⊥
    some_fault true b t n = cc
    some_fault false true t n = cc
    some_fault false false t n = cc

first_none : (o p : Option SpaceFault) → option_or o p ≡ None → o ≡ None
first_none None p n = refl
first_none (Some f) p n = cc

second_none : (o p : Option SpaceFault) → option_or o p ≡ None → p ≡ None
second_none None p n = n
second_none (Some f) p n = cc

-- what shares no address with ranges lies where they map nothing
free_none : (r : Range) (xs : List Range) (a : ℕ) → list_any (shares r) xs ≡ false → holds r a ≡ true → memory_of xs a ≡ None
free_none r xs a f h = by (memory_of xs a) refl
  where
    by : (o : Option Held) → memory_of xs a ≡ o → memory_of xs a ≡ None
    by None e = e
    by (Some m) e = absurd (both_ways _ f (any_from r xs a h (ap is_mapped e)))

first_holds : (earlier : List Range) (q : Range) (qs : List Range) (index a : ℕ) → range_fault earlier index q ≡ None → holds q a ≡ true → memory_of (earlier ++ q ∷ qs) a ≡ Some (held q a)
first_holds earlier q qs index a n h =
    memory_append earlier (q ∷ qs) a
    ∙ ap (λ o. option_or o (memory_of (q ∷ qs) a)) (free_none q earlier a (meets_none (passes_end q) earlier index q n) h)
    ∙ memory_here q qs a h

inside : (earlier rs : List Range) (k : ℕ) (r : Range) (a : ℕ) → ranges_fault earlier rs ≡ None → slice_get rs k ≡ Some r → holds r a ≡ true → memory_of (earlier ++ rs) a ≡ Some (held r a)
unfolding ranges_fault
inside earlier [] k r a n g h = cc
inside earlier (q ∷ qs) zero r a n g h =
    let e : r ≡ q = cc in
    let f = first_none (range_fault earlier (told (length earlier)) q) (ranges_fault (earlier ++ q ∷ []) qs) n in
    first_holds earlier q qs (told (length earlier)) a f (ap (λ x. holds x a) (sym e) ∙ h) ∙ ap (λ x. Some (held x a)) (sym e)
inside earlier (q ∷ qs) (suc k) r a n g h =
    let f = second_none (range_fault earlier (told (length earlier)) q) (ranges_fault (earlier ++ q ∷ []) qs) n in
    sym (ap (λ xs. memory_of xs a) (append_assoc earlier (q ∷ []) qs)) ∙ inside (earlier ++ q ∷ []) qs k r a f g h

outside : (rs : List Range) (a : ℕ) → list_any (λ r. holds r a) rs ≡ false → memory_of rs a ≡ None
outside [] a f = memory_nil a
outside (r ∷ rs) a f = memory_skip r rs a (or_parts _ _ f).0 ∙ outside rs a (or_parts _ _ f).1

pub map_of : (rs : List Range) (m : Contents) → ranges_fault [] rs ≡ None → m ≡ memory_of rs → IsMapOf rs m
map_of rs m n e = record {
  inside = λ k r a g h. ap (λ (c : Contents). c a) e ∙ inside [] rs k r a n g h;
  outside = λ a f. ap (λ (c : Contents). c a) e ∙ outside rs a f;
}
