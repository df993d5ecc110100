use Rattle.paged_space.proofs.Others.{each_stands, one_stands, swap_spaces}
use Rattle.paged_space.proofs.laws.together_law.Goals as goal

pub returns-clause-each : goal.returns-clause-each
returns-clause-each c = λ ts i t s e st. each_stands ts i t s e st

pub returns-clause-one : goal.returns-clause-one
returns-clause-one c = λ t s st. one_stands t s st

pub returns-clause-swap : goal.returns-clause-swap
returns-clause-swap c = λ t u ts s st. swap_spaces t u ts s st
