use Rattle.descriptions.proofs.Stops.{sled_stopped}
use Rattle.descriptions.proofs.reading.read_encodings.Goals as goal

pub returns-in-Err-clause-fault : goal.returns-in-Err-clause-fault
returns-in-Err-clause-fault c = sled_stopped c.args.text.now c.in-Err.fault c.of_form.result c.in-Err.ensures c.of_form.ensures
