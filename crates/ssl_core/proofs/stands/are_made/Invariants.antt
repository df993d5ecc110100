use Rattle.std.proofs.Common.{◌≡◌, true, take}
use Rattle.std.specs.List.{list_all}
use Rattle.ssl_rules.specs.Given.{has_template}
use Rattle.ssl_core.specs.State.{shown}
use Rattle.ssl_core.proofs.stands.are_made.Given as goal

abbrev pub invariant-loop-constructor : goal.invariant-loop-constructor
invariant-loop-constructor l = list_all (has_template (shown l.given)) (take l.constructor-index l.constructors) ≡ true
