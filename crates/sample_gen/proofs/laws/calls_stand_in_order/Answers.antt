use Rattle.sample_gen.proofs.Placed.{calls_stand_in_order}
use Rattle.sample_gen.proofs.laws.calls_stand_in_order.Goals as goal

pub returns : goal.returns
returns c = calls_stand_in_order
