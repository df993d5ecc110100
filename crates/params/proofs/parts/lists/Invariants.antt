use Rattle.std.proofs.Common.{◌≡◌, take}
use Rattle.std.specs.Prelude.{map}
use Rattle.params.specs.Parts.{proc_part}
use Rattle.params.proofs.parts.lists.Given as goal

abbrev pub invariant-loop-proc : goal.invariant-loop-proc
invariant-loop-proc l = l.lists.items ≡ map (proc_part l.machine l.conv l.part l.graph.nodes) (take l.proc-index l.graph.procs)
