use Rattle.std.proofs.Common.{◌≡◌, take, map}
use Rattle.points.specs.declared.graph.Proc.{Proc}
use Rattle.graph_control.proofs.lookup.entries_of.Given as goal

abbrev pub invariant-loop-proc : goal.invariant-loop-proc
invariant-loop-proc l = l.entries.items ≡ map (λ (x : Proc). x.entry) (take l.proc-index l.procs)
