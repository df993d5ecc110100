use Rattle.std.proofs.Common.{◌≡◌, ℕ, ◌+◌, ◌-◌, ◌*◌, ◌%◌, ◌^◌, ◌<◌, ap, ◌∙◌, arith}
use Rattle.rtl_core.specs.Arithmetic.{bits_of}
use Rattle.rtl_meaning.proofs.ActSteps.{shifted_within, put_within, unit_is}
use Rattle.rtl_meaning.proofs.acts.with_bits.Goals as goal

pub overflow_mul-result-2 : goal.overflow_mul-result-2
overflow_mul-result-2 c =
    let a = c.args in
    let low : a.lo < 64 = omega arith in
    let e = ap (λ k. a.v * k) (unit_is a.lo low) in
    omega (arith, e, shifted_within a.lo a.hi a.v c.requires.order c.requires.within c.requires.value)

pub overflow_add-result : goal.overflow_add-result
overflow_add-result c =
    let a = c.args in
    let low : a.lo < 64 = omega arith in
    let e = ap (λ k. a.x - c.bits.result * k + a.v * k) (unit_is a.lo low) ∙ ap (λ b. a.x - b * 2 ^ a.lo + a.v * 2 ^ a.lo) c.bits.ensures in
    let fits : a.x < 2 ^ 64 = omega arith in
    omega (arith, e, put_within a.lo a.hi a.x a.v c.requires.order c.requires.within fits c.requires.value)
