use Rattle.ssl_core.proofs.KindLemmas.{few_kinds}
use Rattle.ssl_core.proofs.own.own_of.Goals as goal

pub own_operands-requires-clause-few : goal.own_operands-requires-clause-few
own_operands-requires-clause-few c = few_kinds c.args.enc.now c.unwrap_or.result c.kinds_of-kinds.result.now c.requires.sound c.kinds_of-kinds.ensures

pub own_operands-requires-in-Instruction-clause-few : goal.own_operands-requires-in-Instruction-clause-few
own_operands-requires-in-Instruction-clause-few c = few_kinds c.args.enc.now c.unwrap_or.result c.kinds_of-kinds.result.now c.requires.sound c.kinds_of-kinds.ensures
