use Rattle.points.proofs.Behind.{next_is_behind}
use Rattle.points.proofs.laws.next_is_behind.Goals as goal

pub returns : goal.returns
returns c = next_is_behind
