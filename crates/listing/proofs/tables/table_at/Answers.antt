use Rattle.std.proofs.Common.{sym}
use Rattle.std.proofs.lemmas.Bool.{eq-eqb}
use Rattle.std.specs.Prelude.{◌==◌}
use Rattle.listing.proofs.OneTable.{one_passes_found}
use Rattle.listing.proofs.tables.table_at.Goals as goal

pub returns-in-Some : goal.returns-in-Some
returns-in-Some c = one_passes_found (λ t. t.at == c.args.a) c.args.tables.now c.partition_point-place.result c.in-Some.table.now c.requires.table (sym c.in-Some.ensures) (eq-eqb c.in-Some.table.now.at c.args.a c.if-table-a.true) c.requires.only
