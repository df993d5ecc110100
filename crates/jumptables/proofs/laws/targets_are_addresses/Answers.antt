use Rattle.jumptables.proofs.Addresses.{targets-are-addresses}
use Rattle.jumptables.proofs.laws.targets_are_addresses.Goals as goal

pub returns : goal.returns
returns c = targets-are-addresses
