use Rattle.decode.proofs.ShortCode.{code_short}
use Rattle.decode.proofs.inst_at.Goals as goal

pub find-requires : goal.find-requires
find-requires c = code_short c.args.on.now.frozen.now c.args.pc c.in-Some.bytes.now c.requires c.in-Some.ensures.some
