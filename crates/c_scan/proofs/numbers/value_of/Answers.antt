use Rattle.std.proofs.Common.{arith}
use Rattle.c_scan.proofs.Numerals.{digit_bounds, value_grows, value_exceeds, value_is}
use Rattle.c_scan.proofs.numbers.value_of.Goals as goal

pub returns-in_err-tens : goal.returns-in_err-tens
returns-in_err-tens c = rw c.from_residual.ensures (value_exceeds c.args.digits.now c.loop-digit.digit-index c.requires (omega arith) (omega (arith, c.in_err-tens.ensures, c.loop-digit.invariant.is)))

pub overflow_sub-digit : goal.overflow_sub-digit
overflow_sub-digit c = omega (arith, digit_bounds c.args.digits.now c.loop-digit.digit-index c.requires (omega arith))

pub returns-in_err-value : goal.returns-in_err-value
returns-in_err-value c =
    rw c.from_residual-in_err-value.ensures (value_exceeds c.args.digits.now c.loop-digit.digit-index c.requires (omega arith) (omega (arith, c.in_err-value.ensures, c.in_ok-tens.ensures, c.loop-digit.invariant.is)))

pub loop-digit-preserved : goal.loop-digit-preserved
loop-digit-preserved c =
    record { fits = omega (arith, c.in_ok-value.ensures); is = omega (arith, c.in_ok-value.ensures, c.in_ok-tens.ensures, c.loop-digit.invariant.is, value_grows c.args.digits.now c.loop-digit.digit-index c.requires (omega arith)) }

pub returns : goal.returns
returns c = value_is c.args.digits.now _ c.loop-digit.value (omega arith) c.loop-digit.invariant.is (omega arith)
