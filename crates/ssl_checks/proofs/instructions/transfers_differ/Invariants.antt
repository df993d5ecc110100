use Rattle.ssl_rules.specs.LineScope.{scope}
use Rattle.ssl_rules.specs.Widths.{transfer_differs}
use Rattle.ssl_checks.proofs.FirstLemmas.{IsFirst}
use Rattle.ssl_checks.proofs.instructions.transfers_differ.Given as goal

abbrev pub invariant-loop-transfer : goal.invariant-loop-transfer
invariant-loop-transfer l = IsFirst (transfer_differs (scope l.names)) l.transfers l.transfer-index l.differs
