use Rattle.points.proofs.MatchesGround.{matches_ground}
use Rattle.points.proofs.laws.matches_ground.Goals as goal

pub returns : goal.returns
returns c = matches_ground
