use Rattle.std.proofs.Common.{refl, sym, subst}
use Rattle.discover.specs.Parts.{IsAscendingOf}
use Rattle.discover.proofs.Lists.{ascending_of}
use Rattle.discover.proofs.bodies.proc_of.Goals as goal

pub returns-clause-body : goal.returns-clause-body
returns-clause-body c =
    subst (IsAscendingOf c.args.body.now) (sym c.from_vec.ensures) (ascending_of c.args.body.now c.args.body.now c.in_ok-places.places.items refl c.in_ok-places.ensures.ascend c.in_ok-places.ensures.only c.in_ok-places.ensures.whole)
