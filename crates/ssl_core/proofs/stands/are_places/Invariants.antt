use Rattle.std.proofs.Common.{◌≡◌, true, take}
use Rattle.ssl_rules.specs.Given.{is_place_type}
use Rattle.ssl_core.specs.State.{shown}
use Rattle.ssl_core.proofs.stands.are_places.Given as goal

abbrev pub invariant-loop-constructor : goal.invariant-loop-constructor
invariant-loop-constructor l = is_place_type (shown l.given) (take l.constructor-index l.constructors) ≡ true
