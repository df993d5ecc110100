use Rattle.std.proofs.Common.{◌≡◌, take, map}
use Rattle.discover.specs.Parts.{table_at}
use Rattle.discover.specs.Seen.{AreTables}
use Rattle.discover.proofs.jumps.tables_of.Given as goal

abbrev pub invariant-loop-at : goal.invariant-loop-at
invariant-loop-at g l = record {
  made : l.made.items ≡ map (table_at (g.P.Program.code l.program)) (take l.at-index l.jumps);
  tables : AreTables (g.P.Program.code l.program) l.tables.entries;
}
