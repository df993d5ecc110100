use Rattle.points.proofs.MatchesGround.{grounds_exactly}
use Rattle.points.proofs.laws.grounds_exactly.Goals as goal

pub returns : goal.returns
returns c = grounds_exactly
