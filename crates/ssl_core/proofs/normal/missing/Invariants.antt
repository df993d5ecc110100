use Rattle.std.proofs.Common.{◌≡◌, drop}
use Rattle.ssl_rules.specs.Faults.{missing_from}
use Rattle.ssl_core.specs.State.{shown}
use Rattle.ssl_core.proofs.normal.missing.Given as goal

abbrev pub invariant-loop-k : goal.invariant-loop-k
invariant-loop-k l = missing_from (shown l.given) l.k (drop l.k l.constructors) ≡ missing_from (shown l.given) 0 l.constructors
