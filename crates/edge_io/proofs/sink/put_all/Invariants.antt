use Rattle.std.proofs.Common.{length, ◌-◌, ◌≡◌, ◌≤◌, [], take}
use Rattle.edge_io.specs.Told.{followed}
use Rattle.edge_io.proofs.sink.put_all.Given as goal

abbrev pub invariant-loop-done : goal.invariant-loop-done
invariant-loop-done g l = record {
  within : l.done ≤ length l.piece;
  bytes : (g.K.Sink.output l.out).taken ≡ followed (g.K.Sink.output l.fn.out).taken (take l.done l.piece);
  later : (g.K.Sink.output l.fn.out).faults ≤ (g.K.Sink.output l.out).faults;
  untouched : l.piece ≡ [] → l.out ≡ l.fn.out;
}

abbrev pub decreases-loop-done : goal.decreases-loop-done
decreases-loop-done g l = length l.piece - l.done
