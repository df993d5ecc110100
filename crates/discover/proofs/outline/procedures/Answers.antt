use Rattle.discover.proofs.WholeBodies.{all_listed}
use Rattle.discover.proofs.outline.procedures.Goals as goal

pub group-requires-clause-listed : goal.group-requires-clause-listed
group-requires-clause-listed c = all_listed c.args.places.now c.in_ok-entries.entries.keys c.args.points.now.keys c.in_ok-entries.ensures.exactly c.requires.exactly
