use Rattle.discover.proofs.SameTables.{are_alike}
use Rattle.discover.proofs.laws.only_jumps_have_tables.Goals as goal

pub returns : goal.returns
returns c = λ code table roots control agree. are_alike code table control agree roots
