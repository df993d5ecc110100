use Rattle.jumptables.proofs.OneTable.{one-table}
use Rattle.jumptables.proofs.laws.table_is_one.Goals as goal

pub returns : goal.returns
returns c = λ s at xs ys. one-table s at xs ys
