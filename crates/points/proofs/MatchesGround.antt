-- Each match of sound encodings has all put in, wherever it stands.
use Rattle.points.proofs.GroundedSpelled.{grounded-spelled}
use Rattle.points.proofs.MatchesSpell.{matches-spell}
use Rattle.points.proofs.SpelledGround.{spelled-ground}
use Rattle.points.specs.MatchesGround.{inst_of, MatchesGround, GroundsExactly}

pub grounds_exactly : GroundsExactly
grounds_exactly m inst pc next = (spelled-ground m inst pc next, grounded-spelled m inst pc next)

pub matches_ground : MatchesGround
matches_ground enc m bytes t pc next sound e = spelled-ground m (inst_of t) pc next (matches-spell enc m bytes t sound e)
