use Rattle.std.proofs.Common.{◌≡◌, take, length}
use Rattle.std.specs.Prelude.{map}
use Rattle.params.specs.Listed.{whole_summary}
use Rattle.params.proofs.listing.whole_summaries.Given as goal

abbrev pub invariant-loop-proc : goal.invariant-loop-proc
invariant-loop-proc l = l.summaries ≡ map (whole_summary (length l.machine.widths) l.machine.zero) (take l.proc-index l.graph.procs)
