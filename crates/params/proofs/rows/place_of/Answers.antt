use Rattle.params.proofs.Turning.{key-found, key-missing}
use Rattle.params.proofs.rows.place_of.Goals as goal

pub returns-in-Ok : goal.returns-in-Ok
returns-in-Ok c = key-found c.args.keys.now c.args.key c.in-Ok.at c.binary_search.result c.binary_search.ensures.position c.in-Ok.is

pub returns-in-Err : goal.returns-in-Err
returns-in-Err c = key-missing c.args.keys.now c.args.key c.in-Err.field-0 c.binary_search.result c.binary_search.ensures.position c.in-Err.is
