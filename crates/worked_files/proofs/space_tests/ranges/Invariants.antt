use Rattle.std.proofs.Common.{All}
use Rattle.space.specs.Ranges.{HasRoom}
use Rattle.worked_files.proofs.space_tests.ranges.Given as goal

abbrev pub invariant-loop-base : goal.invariant-loop-base
invariant-loop-base l = All HasRoom l.list.items
