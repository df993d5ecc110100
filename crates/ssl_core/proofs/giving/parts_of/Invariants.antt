use Rattle.std.proofs.Common.{◌≡◌, map, take}
use Rattle.ssl_rules.specs.Given.{part_of}
use Rattle.ssl_core.proofs.giving.parts_of.Given as goal

abbrev pub invariant-loop-part : goal.invariant-loop-part
invariant-loop-part l = l.all ≡ map (part_of l.tables) (take l.part-index l.parts)
