use Rattle.std.proofs.Common.{◌+◌, ◌*◌, arith}
use Rattle.c_scan.proofs.Numerals.{hex_large, hex_more}
use Rattle.c_scan.proofs.numbers.hex_value.Goals as goal

pub returns-then-value : goal.returns-then-value
returns-then-value c =
    hex_large c.args.digits.now (c.loop-digit.digit-index + 1) (c.loop-digit.value * 16 + c.from.result)
    (omega (arith, c.from.ensures, c.hex_digit_value.ensures, c.loop-digit.invariant.0, hex_more 0 c.args.digits.now c.loop-digit.digit-index (omega arith))) (omega arith)

pub loop-digit-preserved : goal.loop-digit-preserved
loop-digit-preserved c =
    (omega (arith, c.from.ensures, c.hex_digit_value.ensures, c.loop-digit.invariant.0, hex_more 0 c.args.digits.now c.loop-digit.digit-index (omega arith)), omega arith)
