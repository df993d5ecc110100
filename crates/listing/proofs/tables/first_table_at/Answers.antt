use Rattle.std.proofs.Common.{arith, refl}
use Rattle.std.proofs.lemmas.Bool.{eq-eqb, ne_eqb}
use Rattle.std.specs.Prelude.{◌==◌}
use Rattle.listing.proofs.OneTable.{one_passes_at, none_more_at}
use Rattle.listing.proofs.tables.first_table_at.Goals as goal

pub loop-table-init : goal.loop-table-init
loop-table-init c = refl

pub returns-then-table-a : goal.returns-then-table-a
returns-then-table-a c = one_passes_at (λ t. t.at == c.args.a) c.args.tables.now c.loop-table.table-index c.table-item.result c.requires.table (omega arith) c.table-item.is (eq-eqb c.table-item.result.at c.args.a c.if-table-a.true) c.requires.only

pub loop-table-preserved : goal.loop-table-preserved
loop-table-preserved c = none_more_at (λ t. t.at == c.args.a) c.args.tables.now c.loop-table.table-index c.table-item.result (omega arith) c.table-item.is c.loop-table.invariant (ne_eqb c.table-item.result.at c.args.a c.if-table-a.false)
