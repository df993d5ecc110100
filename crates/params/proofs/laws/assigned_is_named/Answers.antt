use Rattle.params.proofs.NamedCells.{assigned-is-named}
use Rattle.params.proofs.laws.assigned_is_named.Goals as goal

pub returns : goal.returns
returns c = assigned-is-named
