use Rattle.points.proofs.ServicesHaveShape.{due_have_shape}
use Rattle.points.proofs.laws.due_have_shape.Goals as goal

pub returns : goal.returns
returns c = due_have_shape
