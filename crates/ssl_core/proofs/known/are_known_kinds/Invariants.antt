use Rattle.std.proofs.Common.{◌≡◌, true, take}
use Rattle.std.specs.List.{list_all}
use Rattle.ssl_rules.specs.Checks.{is_known_kind}
use Rattle.ssl_core.specs.State.{shown}
use Rattle.ssl_core.proofs.known.are_known_kinds.Given as goal

abbrev pub invariant-loop-kind : goal.invariant-loop-kind
invariant-loop-kind l = list_all (is_known_kind l.enc (shown l.given)) (take l.kind-index l.kinds) ≡ true
