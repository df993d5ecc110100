use Rattle.descriptions.proofs.Stops.{ssl_stopped}
use Rattle.descriptions.proofs.reading.read_machine.Goals as goal

pub returns-in-Err-clause-fault : goal.returns-in-Err-clause-fault
returns-in-Err-clause-fault c = ssl_stopped c.args.encodings.now c.args.text.now c.in-Err.fault c.of_form.result c.in-Err.ensures c.of_form.ensures
