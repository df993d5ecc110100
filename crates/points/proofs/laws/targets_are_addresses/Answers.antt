use Rattle.points.proofs.ConstantTerms.{targets_are_addresses}
use Rattle.points.proofs.laws.targets_are_addresses.Goals as goal

pub returns : goal.returns
returns c = targets_are_addresses
