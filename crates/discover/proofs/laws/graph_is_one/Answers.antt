use Rattle.discover.proofs.OneGraph.{only_graph}
use Rattle.discover.proofs.laws.graph_is_one.Goals as goal

pub returns : goal.returns
returns c = only_graph c.ascending_lists_are_one.ensures
