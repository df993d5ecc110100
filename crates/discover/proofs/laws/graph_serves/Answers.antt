use Rattle.discover.proofs.Serving.{serves}
use Rattle.discover.proofs.laws.graph_serves.Goals as goal

pub returns : goal.returns
returns c = serves
