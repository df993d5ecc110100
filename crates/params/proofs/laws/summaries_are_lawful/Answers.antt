use Rattle.params.proofs.Lawful.{lawful}
use Rattle.params.proofs.laws.summaries_are_lawful.Goals as goal

pub returns : goal.returns
returns c = lawful
