use Rattle.std.proofs.Common.{◌≡◌, false, take}
use Rattle.ssl_rules.specs.Lookup.{is_among}
use Rattle.ssl_checks.proofs.known_names.KnownNames.is_surplus.Given as goal

abbrev pub invariant-loop-operand : goal.invariant-loop-operand
invariant-loop-operand l = is_among l.name (take l.operand-index l.self.surplus.now) ≡ false
