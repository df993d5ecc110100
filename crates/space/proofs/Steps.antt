-- The ranges taken one after another.
use Rattle.std.proofs.Common.{◌≡◌, ℕ, suc, ◌+◌, ◌<◌, ◌≤◌, List, [], ◌∷◌, ◌++◌, length, take, drop, get_or, refl, sym, ap, ◌∙◌, arith, inl, inr, drop-cons}
use Rattle.std.specs.Prelude.{Some, None, ◌⊎◌, if◌then◌else◌}
use Rattle.std.specs.Option.{option_or}
use Rattle.std.proofs.Math.Seq.{take-suc}
use Rattle.std.proofs.lemmas.List.{take_all, drop_all, length-take-le}
use Rattle.space.specs.declared.range.Range.{Range}
use Rattle.space.specs.declared.fault.SpaceFault.{SpaceFault}
use Rattle.space.specs.declared.fault.SpaceFault.TheVariants.{PastEnd, Overlap, NoMemory}
use Rattle.space.specs.Ranges.{IsMapOf, memory_of}
use Rattle.space.specs.Faults.{passes_end, told, range_fault, ranges_fault}
use Rattle.space.specs.Order.{ascends}
use Rattle.space.specs.Placed.{IsPlaced}
use Rattle.space.proofs.Maps.{same_more}
use Rattle.space.proofs.Rising.{none_ascend}
use Rattle.space.proofs.Meetings.{any_same}
use Rattle.space.proofs.Exact.{map_of}

-- what holds after the first i ranges
pub record Taken (ranges kept : List Range) (i : ℕ) : Type 0 where
  pub placed : IsPlaced (take i ranges) kept
  pub fault : ranges_fault [] ranges ≡ ranges_fault (take i ranges) (drop i ranges)

pub fault_same : (xs ys : List Range) (index : ℕ) (r : Range) → memory_of xs ≡ memory_of ys → range_fault xs index r ≡ range_fault ys index r
fault_same xs ys index r e = ap (λ b. if passes_end r then Some (PastEnd index) else if b then Some (Overlap index) else None) (any_same r xs ys e)

faults_at : (ranges : List Range) (i : ℕ) (r : Range) (d : Range) → i < length ranges → r ≡ get_or ranges i d → ranges_fault (take i ranges) (drop i ranges) ≡ option_or (range_fault (take i ranges) (told i) r) (ranges_fault (take (suc i) ranges) (drop (suc i) ranges))
unfolding ranges_fault
faults_at ranges i r d h e =
    let l : i ≤ length ranges = omega arith in
    let n : length (take i ranges) ≡ i = length-take-le i ranges l in
    let t : take i ranges ++ r ∷ [] ≡ take (suc i) ranges = ap (λ q. take i ranges ++ q ∷ []) e ∙ sym (take-suc ranges i d h) in
    let s : drop i ranges ≡ r ∷ drop (suc i) ranges = drop-cons ranges i d h ∙ ap (λ q. q ∷ drop (suc i) ranges) (sym e) in
    ap (ranges_fault (take i ranges)) s
    ∙ ap (λ k. option_or (range_fault (take i ranges) (told k) r) (ranges_fault (take i ranges ++ r ∷ []) (drop (suc i) ranges))) n
    ∙ ap (λ xs. option_or (range_fault (take i ranges) (told i) r) (ranges_fault xs (drop (suc i) ranges))) t

pub none_taken : (ranges kept : List Range) → kept ≡ [] → Taken ranges kept 0
none_taken ranges kept e = record { placed = record { ordered = ap (ascends 0) e ∙ none_ascend 0; same = ap memory_of e }; fault = refl }

pub one_taken : (ranges kept more : List Range) (i : ℕ) (r d : Range) → Taken ranges kept i → i < length ranges → r ≡ get_or ranges i d → range_fault kept (told i) r ≡ None → IsPlaced (kept ++ r ∷ []) more → Taken ranges more (i + 1)
one_taken ranges kept more i r d t h e n p =
    let s : i + 1 ≡ suc i = omega arith in
    let same = t.placed.same in
    let fault : range_fault (take i ranges) (told i) r ≡ None = sym (fault_same kept (take i ranges) (told i) r same) ∙ n in
    let all : take i ranges ++ r ∷ [] ≡ take (i + 1) ranges = ap (λ q. take i ranges ++ q ∷ []) e ∙ sym (take-suc ranges i d h) ∙ ap (λ k. take k ranges) (sym s) in
    record {
      placed = record { ordered = p.ordered; same = p.same ∙ same_more kept (take i ranges) (r ∷ []) same ∙ ap memory_of all };
      fault = t.fault ∙ faults_at ranges i r d h e ∙ ap (λ o. option_or o (ranges_fault (take (suc i) ranges) (drop (suc i) ranges))) fault ∙ ap (λ k. ranges_fault (take k ranges) (drop k ranges)) (sym s);
    }

-- the fault of the next range is that of all
pub fault_taken : (ranges kept : List Range) (i : ℕ) (r d : Range) (f : SpaceFault) → Taken ranges kept i → i < length ranges → r ≡ get_or ranges i d → range_fault kept (told i) r ≡ Some f → ranges_fault [] ranges ≡ Some f
fault_taken ranges kept i r d f t h e n =
    t.fault ∙ faults_at ranges i r d h e
    ∙ ap (λ o. option_or o (ranges_fault (take (suc i) ranges) (drop (suc i) ranges))) (sym (fault_same kept (take i ranges) (told i) r t.placed.same) ∙ n)

pub all_taken : (ranges kept : List Range) (i : ℕ) → Taken ranges kept i → length ranges ≤ i → (ranges_fault [] ranges ≡ None) × (memory_of kept ≡ memory_of ranges) × IsMapOf ranges (memory_of kept)
unfolding ranges_fault
all_taken ranges kept i t h =
    let n : ranges_fault [] ranges ≡ None = t.fault ∙ ap (ranges_fault (take i ranges)) (drop_all i ranges h) in
    let same : memory_of kept ≡ memory_of ranges = t.placed.same ∙ ap memory_of (take_all i ranges h) in
    (n, same, map_of ranges (memory_of kept) n same)

pub refused : (ranges kept : List Range) (i k : ℕ) (r d : Range) (f : SpaceFault) → Taken ranges kept i → i < length ranges → r ≡ get_or ranges i d → k ≡ told i → (f ≡ NoMemory) ⊎ (range_fault kept k r ≡ Some f) → (f ≡ NoMemory) ⊎ (ranges_fault [] ranges ≡ Some f)
refused ranges kept i k r d f t h e s given = elim given [
  | inl n ↦ inl n
  | inr g ↦ inr (fault_taken ranges kept i r d f t h e (ap (λ j. range_fault kept j r) (sym s) ∙ g))
]
