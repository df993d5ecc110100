use Rattle.std.proofs.Common.{get_or, ap}
use Rattle.c_program.specs.Functions.{functions_of}
use Rattle.c_program.proofs.FunctionLists.{same-entry, next-function}
use Rattle.c_program.proofs.program.functions.Goals as goal

pub loop-i-preserved : goal.loop-i-preserved
loop-i-preserved g c =
    let procs = c.args.procs.now in
    let p = c.index-procs-i.result in
    let sums = c.args.on.now.sums.now in
    let s = get_or sums c.loop-i.i c.index-on-i.result in
    next-function g.plan c.args.nodes.now procs c.loop-i.i c.loop-i.out c.push_function.new.out (functions_of g.plan c.args.nodes.now procs) p s.entry c.as_slice.result.now c.loop-i-test.true c.index-procs-i.is
    (same-entry sums procs c.loop-i.i s p c.requires.1.1.1.1 c.loop-i-test.true (ap (λ x. get_or sums c.loop-i.i x) c.index-on-i.is) c.index-procs-i.is)
    c.as_slice.ensures c.loop-i.invariant c.in_ok-push_function.ensures
