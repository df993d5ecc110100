use Rattle.std.proofs.Common.{length}
use Rattle.sled_syntax.proofs.FieldLoops.{FieldsGoing}
use Rattle.sled_syntax.proofs.lines.read_fields.Given as goal

abbrev pub invariant-more : goal.invariant-more
invariant-more l = FieldsGoing l.fn.cursor.rest.now l.fields l.cursor.rest.now

abbrev pub decreases-more : goal.decreases-more
decreases-more l = length l.cursor.rest.now
