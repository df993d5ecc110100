use Rattle.std.proofs.Common.{take}
use Rattle.line_reading.specs.LineLists.{AreRead}
use Rattle.line_reading.proofs.text.read_values.Given as goal

abbrev pub invariant-loop-line : goal.invariant-loop-line
invariant-loop-line g l = AreRead g.L.LineValue.spelled g.L.LineValue.formed l.values (take l.line-index l.found)
