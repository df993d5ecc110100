use Rattle.points.proofs.ServicesHaveShape.{calls_have_shape}
use Rattle.points.proofs.laws.calls_have_shape.Goals as goal

pub returns : goal.returns
returns c = calls_have_shape
