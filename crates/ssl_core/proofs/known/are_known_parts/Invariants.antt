use Rattle.std.proofs.Common.{◌≡◌, true, take}
use Rattle.std.specs.List.{list_all}
use Rattle.ssl_rules.specs.Known.{is_known_part}
use Rattle.ssl_core.proofs.known.are_known_parts.Given as goal

abbrev pub invariant-loop-part : goal.invariant-loop-part
invariant-loop-part l = list_all (is_known_part l.tables) (take l.part-index l.parts) ≡ true
