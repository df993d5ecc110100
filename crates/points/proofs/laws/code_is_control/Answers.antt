use Rattle.points.proofs.CodeControl.{code_is_control}
use Rattle.points.proofs.laws.code_is_control.Goals as goal

pub returns : goal.returns
returns c = code_is_control
