use Rattle.std.proofs.Common.{◌≡◌, take, []}
use Rattle.listing.specs.Lists.{tables_at}
use Rattle.listing.proofs.tables.first_table_at.Given as goal

abbrev pub invariant-loop-table : goal.invariant-loop-table
invariant-loop-table l = tables_at (take l.table-index l.tables) l.a ≡ []
