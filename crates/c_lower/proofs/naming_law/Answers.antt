use Rattle.c_lower.proofs.Names.{all_named}
use Rattle.c_lower.proofs.naming_law.Goals as goal

pub returns : goal.returns
returns c = all_named
