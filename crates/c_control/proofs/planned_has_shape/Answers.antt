use Rattle.c_control.proofs.PlannedShape.{planned-has-shape}
use Rattle.c_control.proofs.planned_has_shape.Goals as goal

pub returns : goal.returns
returns c = planned-has-shape
