use Rattle.ssl_core.specs.State.{shown}
use Rattle.ssl_core.proofs.MachineLemmas.{machine_is}
use Rattle.ssl_core.proofs.machine.named_machine.Goals as goal

pub returns : goal.returns
returns c =
    machine_is c.args.enc.now (shown c.args.given) c.unwrap_or.result c.unwrap_or-2.result c.in_ok-forms_of.field-0 c.in_ok-types.types c.as_slice.result.now c.most_nodes-nodes.result.read
    c.as_slice-2.result.now c.constructors_of.result.now c.unwrap_or.ensures c.unwrap_or-2.ensures c.in_ok-forms_of.ensures c.as_slice-2.ensures c.in_ok-types.ensures c.as_slice.ensures
    c.most_nodes-nodes.ensures.read c.constructors_of.ensures
