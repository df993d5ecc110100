use Rattle.c_read.proofs.PopLaws.{popped_more}
use Rattle.c_read.proofs.program.functions_of.Goals as goal

pub more-preserved : goal.more-preserved
more-preserved c = popped_more c.args.routines c.more.left c.pop.new.self c.more.functions.items c.push.new.self.items c.in-Some.routine c.more.invariant c.in-Some.ensures (cc (c.in_ok-push.ensures.items, c.into_function.ensures))
