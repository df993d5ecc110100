-- Numbers that the code of transfers computes fit.
use Rattle.std.proofs.Common.{◌≡◌, ℕ, ◌+◌, ◌-◌, ◌*◌, ◌/◌, ◌%◌, ◌^◌, ◌<◌, ◌≤◌, List, Result, Ok, Err, sym, ap, ◌∙◌, subst, arith}
use Rattle.std.proofs.lemmas.Nat.{pow-add}
use Rattle.std.proofs.Math.Nat.{mod-le, mod-eq_of_lt, mul-le-mul_left}
use Rattle.rtl_core.specs.declared.expr.Expr.{Expr}
use Rattle.rtl_core.specs.declared.machine.Machine.{Machine}
use Rattle.rtl_core.specs.declared.stop.Trap.{Trap}
use Rattle.rtl_core.specs.Arithmetic.{bits_of}
use Rattle.rtl_core.specs.Contents.{Contents}
use Rattle.rtl_core.specs.SoundTerms.{AreWidths, HasWidth, Fit}
use Rattle.rtl_core.specs.Terms.{term_of, width_of}
use Rattle.rtl_core.specs.Value.{value_of}
use Rattle.rtl_core.proofs.ArithmeticLaws.{pow_le}
use Rattle.rtl_core.proofs.Fits.{FitsIn, value_fits}
use Rattle.rtl_core.proofs.Ranges.{with_bits_lt}
use Rattle.rtl_meaning.specs.Effects.{or_stop}

-- a value fits its width
pub value_within : (m : Machine) (cells : List ℕ) (mem : Contents) (pc : ℕ) (e : Expr) (w v : ℕ) → AreWidths m.widths → Fit m cells → HasWidth m.widths e w
    → Ok v ≡ or_stop pc (value_of m cells mem (term_of e)) → v < 2 ^ w
value_within m cells mem pc e w v widths fit h is =
    subst (λ k. v < 2 ^ k) h.1 (by (value_of m cells mem (term_of e)) (value_fits m widths cells fit mem (term_of e) h.0) is)
  where
    by : (r : Result ℕ Trap) → FitsIn (width_of m.widths (term_of e)) r → Ok v ≡ or_stop pc r → v < 2 ^ width_of m.widths (term_of e)
    by (Ok x) small at = let same : x ≡ v = cc in subst (λ k. k < 2 ^ width_of m.widths (term_of e)) same small
    by (Err trap) small at = let no : ⊥ = cc in absurd no

-- ---- bits

pub bits_under : (lo hi x : ℕ) → bits_of lo hi x * 2 ^ lo ≤ x
bits_under lo hi x =
    let a = mod-le (x / 2 ^ lo) (2 ^ (hi + 1 - lo)) in
    let b = mul-le-mul_left (2 ^ lo) a in
    let c : 2 ^ lo * (x / 2 ^ lo) ≤ x = omega arith in
    omega (arith, b, c)

pub shifted_within : (lo hi v : ℕ) → lo ≤ hi → hi < 64 → v < 2 ^ (hi + 1 - lo) → v * 2 ^ lo < 2 ^ 64
shifted_within lo hi v le within small =
    let e : lo + (hi + 1 - lo) ≡ hi + 1 = omega arith in
    let a : 2 ^ lo * 2 ^ (hi + 1 - lo) ≡ 2 ^ (hi + 1) = sym (pow-add 2 lo (hi + 1 - lo)) ∙ ap (λ k. 2 ^ k) e in
    let more : v + 1 ≤ 2 ^ (hi + 1 - lo) = omega arith in
    let b = mul-le-mul_left (2 ^ lo) more in
    let top : hi + 1 ≤ 64 = omega arith in
    let c = pow_le (hi + 1) 64 top in
    let one : 1 ≤ 2 ^ lo = omega (arith, pow_le 0 lo) in
    omega (arith, a, b, c, one)

pub put_within : (lo hi x v : ℕ) → lo ≤ hi → hi < 64 → x < 2 ^ 64 → v < 2 ^ (hi + 1 - lo) → x - bits_of lo hi x * 2 ^ lo + v * 2 ^ lo < 2 ^ 64
put_within lo hi x v le within fits small = with_bits_lt lo hi 64 x v le within fits small

-- a shift of 1 keeps all bits
pub unit_is : (lo : ℕ) → lo < 64 → 1 * 2 ^ lo % 2 ^ 64 ≡ 2 ^ lo
unit_is lo h =
    let next : lo + 1 ≤ 64 = omega arith in
    let double : 2 ^ (lo + 1) ≡ 2 * 2 ^ lo = omega (arith, pow-add 2 lo 1) in
    let one : 1 ≤ 2 ^ lo = omega (arith, pow_le 0 lo) in
    let small : 1 * 2 ^ lo < 2 ^ 64 = omega (arith, pow_le (lo + 1) 64 next, double, one) in
    let plain : 1 * 2 ^ lo ≡ 2 ^ lo = omega arith in
    mod-eq_of_lt small ∙ plain

pub ruleset bit_laws = (bits_under, shifted_within, put_within)
