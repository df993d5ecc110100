use Rattle.discover.proofs.Serving.{goes_on}
use Rattle.discover.proofs.laws.reached_goes_on.Goals as goal

pub returns : goal.returns
returns c = goes_on
