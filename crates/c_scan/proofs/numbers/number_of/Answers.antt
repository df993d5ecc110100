use Rattle.std.proofs.Common.{◌∙◌, sym}
use Rattle.c_scan.proofs.Numerals.{no_digits}
use Rattle.c_scan.proofs.numbers.number_of.Goals as goal

pub returns-then-not-are_digits : goal.returns-then-not-are_digits
returns-then-not-are_digits c = no_digits c.args.digits.now (sym c.are_digits.ensures ∙ c.if-not-are_digits.true)
