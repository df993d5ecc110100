use Rattle.program_graph.proofs.FlowsAlike.{flows-run-alike}
use Rattle.program_graph.proofs.flows_run_alike.Goals as goal

pub returns : goal.returns
returns c = flows-run-alike
