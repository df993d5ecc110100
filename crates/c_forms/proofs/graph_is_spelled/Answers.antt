use Rattle.c_forms.proofs.ProgramFine.{graph-is-spelled}
use Rattle.c_forms.proofs.graph_is_spelled.Goals as goal

pub returns : goal.returns
returns c = graph-is-spelled
