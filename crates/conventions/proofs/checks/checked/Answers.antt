use Rattle.conventions.proofs.checks.checked.Goals as goal

pub returns-in-Heap : goal.returns-in-Heap
returns-in-Heap c = rw c.in-Heap.is (c.heap_fact.ensures c.args.known.now.named.now.machine)

pub returns-in-Args : goal.returns-in-Args
returns-in-Args c = rw c.in-Args.is (c.args_fact.ensures c.args.known.now.named.now.machine)

pub returns-in-Errors : goal.returns-in-Errors
returns-in-Errors c = rw c.in-Errors.is (c.errors_fact.ensures c.args.known.now.named.now.machine)
