-- The number of a label is that of its block.
use Rattle.std.proofs.Common.{◌≡◌, ℕ, suc, ◌+◌, ◌-◌, ◌≤◌, Bool, true, false, Option, Some, None, List, [], ◌∷◌, refl, sym, ap, ◌∙◌, arith}
use Rattle.std.specs.Prelude.{if◌then◌else◌, slice_get}
use Rattle.std.specs.Option.{option_and_then}
use Rattle.rtl_core.specs.declared.point.Point.{Point}
use Rattle.c_lang.specs.declared.tree.CBlock.{CBlock}
use Rattle.c_lang.specs.Step.{same_point, block_of}
use Rattle.c_places.specs.Labels.{index_from}

low_by : (t : Bool) (start k : ℕ) (o : Option ℕ) → (o ≡ Some k → start + 1 ≤ k) → (if t then Some start else o) ≡ Some k → start ≤ k
low_by true start k o rec is = let e : start ≡ k = cc is in omega (arith, e)
low_by false start k o rec is = let h = rec is in omega (arith, h)

-- numbers are counted from the start
index_low : (bs : List CBlock) (start : ℕ) (to : Point) (k : ℕ) → index_from start bs to ≡ Some k → start ≤ k
index_low [] start to k is = absurd (let z : None ≡ Some k = is in cc)
index_low (b ∷ bs) start to k is = low_by (same_point b.label to) start k (index_from (start + 1) bs to) (index_low bs (start + 1) to k) is

shifted : (o : Option ℕ) (start : ℕ) (b : CBlock) (bs : List CBlock) → ((k : ℕ) → o ≡ Some k → start + 1 ≤ k)
    → option_and_then (λ k. slice_get bs (k - (start + 1))) o ≡ option_and_then (λ k. slice_get (b ∷ bs) (k - start)) o
shifted None start b bs low = refl
shifted (Some k) start b bs low =
    let le = low k refl in
    let e : k - start ≡ suc (k - (start + 1)) = omega (arith, le) in
    sym (ap (slice_get (b ∷ bs)) e)

block_by : (t : Bool) (start : ℕ) (b : CBlock) (bs : List CBlock) (found : Option CBlock) (o : Option ℕ) → ((k : ℕ) → o ≡ Some k → start + 1 ≤ k)
    → found ≡ option_and_then (λ k. slice_get bs (k - (start + 1))) o
    → (if t then Some b else found) ≡ option_and_then (λ k. slice_get (b ∷ bs) (k - start)) (if t then Some start else o)
block_by true start b bs found o low rec =
    let e : start - start ≡ 0 = omega arith in
    sym (ap (slice_get (b ∷ bs)) e)
block_by false start b bs found o low rec = rec ∙ shifted o start b bs low

-- the first block of a label stands at the label's number
pub block_is : (bs : List CBlock) (start : ℕ) (to : Point) → block_of bs to ≡ option_and_then (λ k. slice_get bs (k - start)) (index_from start bs to)
block_is [] start to = refl
block_is (b ∷ bs) start to =
    block_by (same_point b.label to) start b bs (block_of bs to) (index_from (start + 1) bs to) (index_low bs (start + 1) to) (block_is bs (start + 1) to)

pub block_told : (bs : List CBlock) (start : ℕ) (to : Point) (o : Option ℕ) → o ≡ index_from start bs to → block_of bs to ≡ option_and_then (λ k. slice_get bs (k - start)) o
block_told bs start to o is = block_is bs start to ∙ ap (option_and_then (λ k. slice_get bs (k - start))) (sym is)
