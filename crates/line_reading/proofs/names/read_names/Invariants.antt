use Rattle.std.proofs.Common.{length}
use Rattle.line_reading.specs.Signs.{comma}
use Rattle.line_reading.specs.Readings.{any_name}
use Rattle.line_reading.proofs.Loops.{Going}
use Rattle.line_reading.proofs.names.read_names.Given as goal

abbrev pub invariant-more : goal.invariant-more
invariant-more l = Going comma any_name l.fn.cursor.rest.now l.names l.cursor.rest.now

abbrev pub decreases-more : goal.decreases-more
decreases-more l = length l.cursor.rest.now
