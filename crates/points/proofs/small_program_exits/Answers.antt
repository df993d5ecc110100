use Rattle.points.proofs.SmallRuns.{exits_with_three}
use Rattle.points.proofs.small_program_exits.Goals as goal

pub returns : goal.returns
returns c = exits_with_three
