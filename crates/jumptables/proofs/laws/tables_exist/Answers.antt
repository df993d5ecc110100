use Rattle.jumptables.proofs.TheTable.{tables-exist}
use Rattle.jumptables.proofs.laws.tables_exist.Goals as goal

pub returns : goal.returns
returns c = tables-exist
