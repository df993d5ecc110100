use Rattle.points.proofs.Behind.{second_is_behind}
use Rattle.points.proofs.laws.second_is_behind.Goals as goal

pub returns : goal.returns
returns c = second_is_behind
