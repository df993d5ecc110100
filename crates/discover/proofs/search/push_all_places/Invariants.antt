use Rattle.std.proofs.Common.{◌≡◌, ◌++◌, take}
use Rattle.std.specs.List.{flat_map}
use Rattle.discover.specs.Places.{places_of}
use Rattle.discover.specs.Seen.{AreTables}
use Rattle.discover.proofs.search.push_all_places.Given as goal

abbrev pub invariant-loop-next : goal.invariant-loop-next
invariant-loop-next g l = record {
  places : l.into.items ≡ l.initial.into.items ++ flat_map (places_of (g.P.Program.code l.program) l.entry) (take l.next-index l.nexts);
  tables : AreTables (g.P.Program.code l.program) l.tables.entries;
}
