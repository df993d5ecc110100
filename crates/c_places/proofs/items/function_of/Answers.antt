use Rattle.c_places.proofs.Finding.{found_here, found_nowhere}
use Rattle.c_places.proofs.items.function_of.Goals as goal

pub returns-then-f-entry : goal.returns-then-f-entry
returns-then-f-entry c =
    found_here c.args.functions.now c.loop-i.i c.args.entry c.index-functions-i.result c.loop-i-test.true c.index-functions-i.is c.if-f-entry.true c.loop-i.invariant

pub returns : goal.returns
returns c = found_nowhere c.args.functions.now c.loop-i.i c.args.entry c.loop-i-test.false c.loop-i.invariant
