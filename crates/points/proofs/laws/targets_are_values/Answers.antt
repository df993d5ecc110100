use Rattle.points.proofs.ConstantTerms.{targets_are_values}
use Rattle.points.proofs.laws.targets_are_values.Goals as goal

pub returns : goal.returns
returns c = targets_are_values
