use Rattle.points.proofs.CodeControl.{no_jump_waits_for_itself}
use Rattle.points.proofs.laws.no_jump_waits_for_itself.Goals as goal

pub returns : goal.returns
returns c = no_jump_waits_for_itself
