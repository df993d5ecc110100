-- What the ranges of segments, of the heap and of the stack map at an address.
use Rattle.std.proofs.Common.{◌≡◌, ℕ, zero, suc, ◌+◌, ◌-◌, ◌<◌, true, false, List, [], ◌∷◌, ◌++◌, length, get_or, map, All, AllPairs, refl, ap, ◌∙◌, inl, inr, arith}
use Rattle.std.specs.Prelude.{◌⊎◌, Some, None}
use Rattle.std.specs.Option.{option_or}
use Rattle.std.proofs.lemmas.Bool.{leb-true, lt-ltb, ltb-true, le-leb, and_parts, and_from, cond-true, cond-false, cases_Bool, both_ways, false_from_ne_true}
use Rattle.std.proofs.lemmas.List.Elements.{All-nil, All-cons, All-head, All-tail}
use Rattle.rtl_core.specs.declared.conv.Conv.{Conv}
use Rattle.rtl_core.specs.FirstMemory.{part_at, parts_memory, areas}
use Rattle.elf32.specs.declared.elf.Segment.{Segment}
use Rattle.elf32.specs.Reading.{IsIn, AreApart}
use Rattle.space.specs.declared.range.Range.{Range}
use Rattle.space.specs.Ranges.{held, holds, part_of, memory_of}
use Rattle.load_image.specs.Areas.{range_of, heap, stack, IsInHeap, IsInStack}
use Rattle.load_image.specs.Mapped.{segment_part, held_by, held_zero}
use Rattle.load_image.specs.Made.{ranges_of}
use Rattle.load_image.proofs.Overlaps.{LiesIn}

-- ---- one range

pub lies_held : (r : Range) (a : ℕ) → LiesIn a r → holds r a ≡ true
lies_held r a inside = and_from _ _ (le-leb _ _ inside.0) (lt-ltb _ _ inside.1)

pub held_lies : (r : Range) (a : ℕ) → holds r a ≡ true → LiesIn a r
held_lies r a test = let parts = and_parts _ _ test in (leb-true _ _ parts.0, ltb-true _ _ parts.1)

pub not_held : (r : Range) (a : ℕ) → ¬ LiesIn a r → holds r a ≡ false
not_held r a outside = false_from_ne_true (holds r a) (λ test. outside (held_lies r a test))

memory_cons : (r : Range) (rs : List Range) (a : ℕ) → memory_of (r ∷ rs) a ≡ option_or (part_at (part_of r) a) (memory_of rs a)
unfolding parts_memory
memory_cons r rs a = refl

memory_nil : (a : ℕ) → memory_of [] a ≡ None
unfolding parts_memory
memory_nil a = refl

memory_here : (r : Range) (rs : List Range) (a : ℕ) → LiesIn a r → memory_of (r ∷ rs) a ≡ Some (held r a)
memory_here r rs a inside = memory_cons r rs a ∙ ap (λ o. option_or o (memory_of rs a)) (cond-true _ _ _ (lies_held r a inside))

memory_skip : (r : Range) (rs : List Range) (a : ℕ) → ¬ LiesIn a r → memory_of (r ∷ rs) a ≡ memory_of rs a
memory_skip r rs a outside = memory_cons r rs a ∙ ap (λ o. option_or o (memory_of rs a)) (cond-false _ _ _ (not_held r a outside))

-- ---- segments that share no byte

pub head_apart : (s : Segment) (ss : List Segment) → AllPairs AreApart (s ∷ ss) → All (AreApart s) ss
head_apart s ss apart k d lt = apart 0 (suc k) d (omega arith) (omega arith)

pub tail_apart : (s : Segment) (ss : List Segment) → AllPairs AreApart (s ∷ ss) → AllPairs AreApart ss
tail_apart s ss apart i j d less lt = apart (suc i) (suc j) d (omega arith) (omega arith)

-- a segment in which an address lies
pub record Lies (segments : List Segment) (a : ℕ) : Type 0 where
  pub place : ℕ
  pub segment : Segment
  pub within : place < length segments
  pub inside : IsIn a (get_or segments place segment)

pub where_lies : (segments : List Segment) (a : ℕ) → Lies segments a ⊎ All (λ s. ¬ IsIn a s) segments
where_lies [] a = inr (All-nil (λ s. ¬ IsIn a s))
where_lies (s ∷ ss) a = elim (cases_Bool (holds (range_of s) a)) [
  | inl test ↦ inl (record { place = 0; segment = s; within = omega arith; inside = held_lies (range_of s) a test })
  | inr test ↦ later test (where_lies ss a)
]
  where
    later : holds (range_of s) a ≡ false → Lies ss a ⊎ All (λ s. ¬ IsIn a s) ss → Lies (s ∷ ss) a ⊎ All (λ s. ¬ IsIn a s) (s ∷ ss)
    later test (inl found) = let w : found.place < length ss = found.within in let more : suc found.place < length (s ∷ ss) = omega arith in
        inl (record { place = suc found.place; segment = found.segment; within = more; inside = found.inside })
    later test (inr none) = inr (All-cons (λ s. ¬ IsIn a s) s ss (λ inside. both_ways _ test (lies_held (range_of s) a inside)) none)

-- ---- ranges of segments, and others behind them

pub memory_past : (segments : List Segment) (more : List Range) (a : ℕ) → All (λ s. ¬ IsIn a s) segments → memory_of (map range_of segments ++ more) a ≡ memory_of more a
memory_past [] more a none = refl
memory_past (s ∷ ss) more a none =
    memory_skip (range_of s) (map range_of ss ++ more) a (All-head (λ s. ¬ IsIn a s) s ss none)
    ∙ memory_past ss more a (All-tail (λ s. ¬ IsIn a s) s ss none)

pub memory_inside : (segments : List Segment) (more : List Range) (k : ℕ) (d : Segment) (a : ℕ) → AllPairs AreApart segments → k < length segments → IsIn a (get_or segments k d) → memory_of (map range_of segments ++ more) a ≡ Some (held_by (get_or segments k d) a)
memory_inside [] more k d a apart lt inside = absurd (omega arith)
memory_inside (s ∷ ss) more zero d a apart lt inside = memory_here (range_of s) (map range_of ss ++ more) a inside
memory_inside (s ∷ ss) more (suc k) d a apart lt inside =
    let within : k < length ss = omega arith in
    memory_skip (range_of s) (map range_of ss ++ more) a (λ first. head_apart s ss apart k d within a first inside)
    ∙ memory_inside ss more k d a (tail_apart s ss apart) within inside

-- ---- the areas

pub memory_heap : (conv : Conv) (a : ℕ) → IsInHeap conv a → memory_of (heap conv ∷ stack conv ∷ []) a ≡ Some held_zero
memory_heap conv a inside = memory_here (heap conv) (stack conv ∷ []) a inside

pub memory_stack : (conv : Conv) (a : ℕ) → ¬ IsInHeap conv a → IsInStack conv a → memory_of (heap conv ∷ stack conv ∷ []) a ≡ Some held_zero
memory_stack conv a outside inside = memory_skip (heap conv) (stack conv ∷ []) a outside ∙ memory_here (stack conv) [] a inside

pub memory_outside : (conv : Conv) (a : ℕ) → ¬ IsInHeap conv a → ¬ IsInStack conv a → memory_of (heap conv ∷ stack conv ∷ []) a ≡ None
memory_outside conv a no_heap no_stack = memory_skip (heap conv) (stack conv ∷ []) a no_heap ∙ memory_skip (stack conv) [] a no_stack ∙ memory_nil a

-- ---- as parts

pub parts_same : (conv : Conv) (segments : List Segment) → map part_of (ranges_of conv segments) ≡ map segment_part segments ++ areas conv
parts_same conv [] = refl
parts_same conv (s ∷ ss) = ap (λ ps. segment_part s ∷ ps) (parts_same conv ss)
