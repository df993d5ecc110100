use Rattle.std.proofs.Common.{length}
use Rattle.line_reading.specs.Signs.{ampersand}
use Rattle.line_reading.proofs.Loops.{Going}
use Rattle.sled_syntax.specs.LineReaders.{read_part}
use Rattle.sled_syntax.proofs.patterns.read_parts.Given as goal

abbrev pub invariant-more : goal.invariant-more
invariant-more l = Going ampersand read_part l.fn.cursor.rest.now l.parts l.cursor.rest.now

abbrev pub decreases-more : goal.decreases-more
decreases-more l = length l.cursor.rest.now
