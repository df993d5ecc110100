use Rattle.std.proofs.Common.{arith, ap}
use Rattle.std.specs.Char.{digit_value}
use Rattle.text_lex.proofs.DigitValues.{product, too_large}
use Rattle.std.proofs.lemmas.Int.Digits.{digits_value_more}
use Rattle.text_lex.proofs.lexeme.value_of.Goals as goal

pub returns-in_err-shifted : goal.returns-in_err-shifted
returns-in_err-shifted c =
    let shifted = product _ _ _ _ c.loop-byte.invariant.is c.from-in-loop-byte.ensures in
    rw c.from_residual-in_err-shifted.ensures (too_large c.args.radix c.args.digits.now c.loop-byte.byte-index (omega arith) (omega arith) (omega (arith, c.in_err-shifted.ensures, shifted)))

pub returns-in_err-value : goal.returns-in_err-value
returns-in_err-value c =
    let shifted = product _ _ _ _ c.loop-byte.invariant.is c.from-in-loop-byte.ensures in
    let digit = ap digit_value c.from.ensures in
    rw c.from_residual-in_err-value.ensures (too_large c.args.radix c.args.digits.now c.loop-byte.byte-index (omega arith) (omega arith) (omega (arith, c.in_err-value.ensures, c.in_ok-shifted.ensures, c.in_ok-digit.ensures.value, shifted, digit)))

pub loop-byte-preserved : goal.loop-byte-preserved
loop-byte-preserved c =
    let shifted = product _ _ _ _ c.loop-byte.invariant.is c.from-in-loop-byte.ensures in
    let digit = ap digit_value c.from.ensures in
    record { fits = omega (arith, c.in_ok-value.ensures); is = omega (arith, c.in_ok-value.ensures, c.in_ok-shifted.ensures, c.in_ok-digit.ensures.value, shifted, digit, digits_value_more c.args.radix c.args.digits.now c.loop-byte.byte-index (omega arith)) }
