use Rattle.descriptions.proofs.Stops.{conv_stopped}
use Rattle.descriptions.proofs.reading.read_conventions.Goals as goal

pub returns-in-Err-clause-fault : goal.returns-in-Err-clause-fault
returns-in-Err-clause-fault c = conv_stopped c.args.encodings.now c.args.named.now c.args.text.now c.in-Err.fault c.of_form.result c.in-Err.ensures c.of_form.ensures
