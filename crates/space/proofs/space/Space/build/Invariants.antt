use Rattle.space.proofs.Steps.{Taken}
use Rattle.space.proofs.space.Space.build.Given as goal

abbrev pub invariant-loop-index : goal.invariant-loop-index
invariant-loop-index l = Taken l.ranges l.kept.items l.index
