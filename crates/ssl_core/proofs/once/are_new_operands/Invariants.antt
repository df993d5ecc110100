use Rattle.std.proofs.Common.{◌≡◌, [], drop}
use Rattle.ssl_core.specs.Fresh.{are_fresh}
use Rattle.ssl_core.proofs.FreshLemmas.{names_in}
use Rattle.ssl_core.proofs.once.are_new_operands.Given as goal

abbrev pub invariant-loop-op : goal.invariant-loop-op
invariant-loop-op l = are_fresh l.given.tables.names (names_in l.seen) (drop l.op-index l.ops) ≡ are_fresh l.given.tables.names [] l.ops
