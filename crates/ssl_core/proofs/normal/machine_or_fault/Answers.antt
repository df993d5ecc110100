use Rattle.std.proofs.lemmas.Result.{err_from_is_err_and}
use Rattle.ssl_core.proofs.TextSteps.{behind_more, behind_fault}
use Rattle.ssl_core.proofs.normal.machine_or_fault.Goals as goal

pub returns-in_err-take_line-clause-fault : goal.returns-in_err-take_line-clause-fault
returns-in_err-take_line-clause-fault c =
    let p = err_from_is_err_and c.from_residual-in_err-take_line.result c.from_residual-in_err-take_line.ensures.1 in
    rw (p.1, p.2) (λ e. behind_fault c.args.enc.now c.args.lines.now c.loop-line.line-index c.line-item.result c.loop-line.given c.in_err-take_line.field-0.0 c.loop-line-test.true c.line-item.is
    c.loop-line.invariant (c.in_err-take_line.ensures.taken e))

pub loop-line-preserved : goal.loop-line-preserved
loop-line-preserved c =
    behind_more c.args.enc.now c.args.lines.now c.loop-line.line-index c.line-item.result c.loop-line.given c.take_line.new.given c.loop-line-test.true c.line-item.is
    c.loop-line.invariant c.in_ok-take_line.ensures.taken c.in_ok-take_line.ensures.gives c.in_ok-take_line.ensures.holds
