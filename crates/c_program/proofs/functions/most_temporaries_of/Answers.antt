use Rattle.std.proofs.Common.{arith}
use Rattle.c_program.specs.Functions.{nodes_at}
use Rattle.c_program.proofs.Needs.{first-most}
use Rattle.c_program.proofs.functions.most_temporaries_of.Goals as goal

pub loop-k-init : goal.loop-k-init
loop-k-init c = (first-most (nodes_at c.args.nodes.now c.args.places.now), omega arith)
