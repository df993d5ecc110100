use Rattle.std.proofs.Common.{◌≡◌, ℕ, take}
use Rattle.std.specs.Prelude.{nat_eq}
use Rattle.std.specs.List.{list_any}
use Rattle.params.specs.Parts.{has_no_targets}
use Rattle.params.proofs.parts.empty_tables.Given as goal

abbrev pub invariant-loop-table : goal.invariant-loop-table
invariant-loop-table l = (a : ℕ) → list_any (nat_eq a) l.empty.keys ≡ has_no_targets (take l.table-index l.tables) a
