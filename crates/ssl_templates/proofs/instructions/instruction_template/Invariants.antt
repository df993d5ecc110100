use Rattle.std.proofs.Common.{◌≡◌, map, take}
use Rattle.ssl_rules.specs.LineScope.{scope}
use Rattle.ssl_rules.specs.Templates.{transfer_of}
use Rattle.ssl_templates.proofs.instructions.instruction_template.Given as goal

abbrev pub invariant-loop-transfer : goal.invariant-loop-transfer
invariant-loop-transfer l = l.out ≡ map (transfer_of (scope l.names)) (take l.transfer-index l.transfers)
