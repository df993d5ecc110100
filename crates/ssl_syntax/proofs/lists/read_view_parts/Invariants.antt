use Rattle.std.proofs.Common.{length}
use Rattle.line_reading.specs.Signs.{comma}
use Rattle.ssl_syntax.specs.LineReaders.{read_view_part}
use Rattle.line_reading.proofs.Loops.{Going}
use Rattle.ssl_syntax.proofs.lists.read_view_parts.Given as goal

abbrev pub invariant-more : goal.invariant-more
invariant-more l = Going comma read_view_part l.fn.cursor.rest.now l.parts l.cursor.rest.now

abbrev pub decreases-more : goal.decreases-more
decreases-more l = length l.cursor.rest.now
