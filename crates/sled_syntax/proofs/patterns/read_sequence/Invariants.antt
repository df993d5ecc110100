use Rattle.std.proofs.Common.{length}
use Rattle.line_reading.specs.Signs.{semicolon}
use Rattle.line_reading.proofs.Loops.{Going}
use Rattle.sled_syntax.specs.LineReaders.{read_item}
use Rattle.sled_syntax.proofs.patterns.read_sequence.Given as goal

abbrev pub invariant-more : goal.invariant-more
invariant-more l = Going semicolon read_item l.fn.cursor.rest.now l.found l.cursor.rest.now

abbrev pub decreases-more : goal.decreases-more
decreases-more l = length l.cursor.rest.now
