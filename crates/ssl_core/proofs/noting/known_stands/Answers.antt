use Rattle.ssl_core.specs.State.{shown}
use Rattle.ssl_core.proofs.StoodLemmas.{known_noted}
use Rattle.ssl_core.proofs.noting.known_stands.Goals as goal

pub returns-in-Some : goal.returns-in-Some
returns-in-Some c = known_noted c.args.enc.now (shown c.args.given.now) c.args.kind c.in-Some.stands (c.in-Some.ensures c.args.enc.now c.requires)
