use Rattle.c_read.proofs.HeaderLaws.{flag_is, header_is}
use Rattle.c_read.proofs.program.header_of.Goals as goal

pub returns : goal.returns
returns c = header_is c.args.numbers.now _ _ _ c.requires.long c.order_of.ensures (flag_is _ c.requires.align) (flag_is _ c.requires.carry)
