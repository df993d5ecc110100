use Rattle.jumptables.proofs.Idle.{same-end}
use Rattle.jumptables.proofs.laws.unmentioned_is_idle.Goals as goal

pub returns : goal.returns
returns c = λ s before jump k x. same-end k s before jump x
