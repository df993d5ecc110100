use Rattle.std.proofs.Common.{length}
use Rattle.line_reading.specs.Signs.{comma}
use Rattle.ssl_syntax.specs.LineReaders.{read_param}
use Rattle.line_reading.proofs.Loops.{Going}
use Rattle.ssl_syntax.proofs.lists.read_some_params.Given as goal

abbrev pub invariant-more : goal.invariant-more
invariant-more l = Going comma read_param l.fn.cursor.rest.now l.params l.cursor.rest.now

abbrev pub decreases-more : goal.decreases-more
decreases-more l = length l.cursor.rest.now
