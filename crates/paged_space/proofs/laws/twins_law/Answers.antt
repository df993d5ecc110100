use Rattle.paged_space.proofs.TwinLaws.{twins_ready}
use Rattle.paged_space.proofs.laws.twins_law.Goals as goal

pub returns-clause-first_ready : goal.returns-clause-first_ready
returns-clause-first_ready c = λ t u s a. (twins_ready t u s a).0

pub returns-clause-second_ready : goal.returns-clause-second_ready
returns-clause-second_ready c = λ t u s a. (twins_ready t u s a).1
