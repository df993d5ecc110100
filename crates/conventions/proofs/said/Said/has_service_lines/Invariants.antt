use Rattle.std.proofs.Common.{◌≡◌, drop}
use Rattle.conventions.specs.Normal.{first_missing, service_kinds}
use Rattle.conventions.proofs.said.Said.has_service_lines.Given as goal

abbrev pub invariant-loop-kind : goal.invariant-loop-kind
invariant-loop-kind l = first_missing (drop l.kind-index (service_kinds l.fn.self)) ≡ first_missing (service_kinds l.fn.self)
