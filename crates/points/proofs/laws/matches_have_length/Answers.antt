use Rattle.points.proofs.MatchLengths.{match_lengths}
use Rattle.points.proofs.laws.matches_have_length.Goals as goal

pub returns : goal.returns
returns c = match_lengths
