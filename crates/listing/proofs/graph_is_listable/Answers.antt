use Rattle.listing.proofs.GraphListable.{graph_listable}
use Rattle.listing.proofs.graph_is_listable.Goals as goal

pub returns : goal.returns
returns c = graph_listable
