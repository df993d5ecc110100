use Rattle.lockstep.proofs.Simulation.{runs_on_credit}
use Rattle.lockstep.proofs.simulates_on_credit.Goals as goal

pub returns : goal.returns
returns g c =
    let f = g.M.Follows in
    λ credit stretch bound below in_step. runs_on_credit _ _ _ f.mstep f.cstep f.mout f.cout f.related credit stretch bound below c.args.machine.now c.args.target.now in_step
