use Rattle.uqbt_top.proofs.Longer.{exactly_long}
use Rattle.uqbt_top.proofs.Feeding.{exactly_fed}
use Rattle.uqbt_top.proofs.top.uqbt_main.Goals as goal

pub returns-clause-long : goal.returns-clause-long
returns-clause-long g c = exactly_long c.args.words.now _ c.act-outcome.result c.act-outcome.ensures.caused

pub returns-clause-too_long : goal.returns-clause-too_long
returns-clause-too_long g c = exactly_fed c.args.words.now _ c.act-outcome.result c.act-outcome.ensures.caused
