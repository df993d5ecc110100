use Rattle.std.proofs.Common.{length}
use Rattle.line_reading.specs.Signs.{semicolon}
use Rattle.ssl_syntax.specs.TransferReaders.{read_transfer}
use Rattle.line_reading.proofs.Loops.{Going}
use Rattle.ssl_syntax.proofs.lists.read_some_transfers.Given as goal

abbrev pub invariant-more : goal.invariant-more
invariant-more l = Going semicolon read_transfer l.fn.cursor.rest.now l.transfers l.cursor.rest.now

abbrev pub decreases-more : goal.decreases-more
decreases-more l = length l.cursor.rest.now
