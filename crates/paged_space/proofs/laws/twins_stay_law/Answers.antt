use Rattle.paged_space.proofs.Others.{others_stay}
use Rattle.paged_space.proofs.laws.twins_stay_law.Goals as goal

pub returns-clause-others : goal.returns-clause-others
returns-clause-others c = λ t u old new f. others_stay t u old new f
