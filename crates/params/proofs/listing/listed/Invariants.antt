use Rattle.std.proofs.Common.{◌≡◌, take}
use Rattle.params.specs.Listed.{summaries_at}
use Rattle.params.proofs.listing.listed.Given as goal

abbrev pub invariant-loop-place : goal.invariant-loop-place
invariant-loop-place l = l.summaries ≡ summaries_at l.reads l.writes l.machine.zero 0 (take l.place l.graph.procs)
