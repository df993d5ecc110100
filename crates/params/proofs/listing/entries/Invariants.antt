use Rattle.std.proofs.Common.{◌≡◌, take}
use Rattle.std.specs.Prelude.{map}
use Rattle.points.specs.declared.graph.Proc.{Proc}
use Rattle.params.proofs.listing.entries.Given as goal

abbrev pub invariant-loop-proc : goal.invariant-loop-proc
invariant-loop-proc l = l.entries.items ≡ map (λ (p : Proc). p.entry) (take l.proc-index l.graph.procs)
