use Rattle.std.proofs.Common.{◌≡◌, true, take}
use Rattle.std.specs.Prelude.{is_some}
use Rattle.std.specs.List.{list_all}
use Rattle.ssl_rules.specs.Views.{part_bits}
use Rattle.ssl_checks.proofs.views.are_parts_in_range.Given as goal

abbrev pub invariant-loop-part : goal.invariant-loop-part
invariant-loop-part l = list_all (λ p. is_some (part_bits l.tables p)) (take l.part-index l.parts) ≡ true
