use Rattle.std.proofs.Common.{length}
use Rattle.line_reading.specs.Signs.{bar}
use Rattle.line_reading.proofs.Loops.{Going}
use Rattle.sled_syntax.specs.LineReaders.{read_sequence}
use Rattle.sled_syntax.proofs.patterns.read_alternatives.Given as goal

abbrev pub invariant-more : goal.invariant-more
invariant-more l = Going bar read_sequence l.fn.cursor.rest.now l.alternatives l.cursor.rest.now

abbrev pub decreases-more : goal.decreases-more
decreases-more l = length l.cursor.rest.now
