use Rattle.std.proofs.Common.{◌≡◌, ◌+◌, length, get_or, arith}
use Rattle.command_words.proofs.Digits.{few_fit, digit_is, digit_small, digit_more, more_fits}
use Rattle.command_words.proofs.numbers.value_of.Goals as goal

pub overflow_mul-value : goal.overflow_mul-value
overflow_mul-value c = omega (arith, few_fit c.loop-byte.value c.loop-byte.byte-index (length c.args.digits.now) c.loop-byte.invariant.fits c.loop-byte-test.true c.requires.few)

pub overflow_add-value : goal.overflow_add-value
overflow_add-value c =
    let ds = c.args.digits.now in
    let i = c.loop-byte.byte-index in
    omega (arith, few_fit c.loop-byte.value i (length ds) c.loop-byte.invariant.fits c.loop-byte-test.true c.requires.few, c.from.ensures, digit_is ds i c.requires.digits c.loop-byte-test.true, digit_small ds i c.requires.digits c.loop-byte-test.true)

pub loop-byte-preserved : goal.loop-byte-preserved
loop-byte-preserved c =
    let ds = c.args.digits.now in
    let i = c.loop-byte.byte-index in
    let digit : c.from.result + 48 ≡ get_or ds i 0 = omega (arith, c.from.ensures, digit_is ds i c.requires.digits c.loop-byte-test.true) in
    record {
      is = digit_more ds i c.requires.digits c.loop-byte-test.true c.loop-byte.value c.from.result c.loop-byte.invariant.is digit;
      fits = more_fits ds i c.requires.digits c.loop-byte-test.true c.loop-byte.value c.from.result c.loop-byte.invariant.fits digit;
    }
