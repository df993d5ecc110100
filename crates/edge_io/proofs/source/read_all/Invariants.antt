use Rattle.std.proofs.Common.{◌≡◌, ◌+◌, ◌≤◌, length}
use Rattle.edge_io.specs.Input.{Gave}
use Rattle.edge_io.proofs.source.read_all.Given as goal

abbrev pub invariant-loop-count : goal.invariant-loop-count
invariant-loop-count g l = record {
  gave : Gave (g.S.Source.input l.fn.src) (g.S.Source.input l.src) l.bytes.items;
  room : l.room + length l.bytes.items ≡ l.limit;
  later : (g.S.Source.input l.fn.src).faults ≤ (g.S.Source.input l.src).faults;
}

abbrev pub decreases-loop-count : goal.decreases-loop-count
decreases-loop-count g l = l.room
