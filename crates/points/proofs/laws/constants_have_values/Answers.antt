use Rattle.points.proofs.ConstantTerms.{constants_have_values}
use Rattle.points.proofs.laws.constants_have_values.Goals as goal

pub returns : goal.returns
returns c = constants_have_values
