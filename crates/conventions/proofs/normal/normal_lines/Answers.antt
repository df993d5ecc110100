use Rattle.std.proofs.Common.{arith}
use Rattle.std.proofs.lemmas.Result.{err_from_is_err_and}
use Rattle.conventions.specs.Names.{instructions}
use Rattle.conventions.specs.Normal.{normal}
use Rattle.conventions.proofs.Steps.{one_more, stopped, all_read, is_value, is_fault}
use Rattle.conventions.proofs.normal.normal_lines.Goals as goal

pub returns-in_err-fact-clause-fault : goal.returns-in_err-fact-clause-fault
returns-in_err-fact-clause-fault c =
    let p = err_from_is_err_and c.from_residual-in_err-fact.result c.from_residual-in_err-fact.ensures.1 in
    rw (p.1, p.2) (λ _. stopped c.args.enc.now c.in_ok-of.field-0 c.args.named.now c.args.lines.now c.loop-line.line-index c.loop-line.said c.line-item.result c.in_err-fact.field-0.0
    (omega arith) c.line-item.is c.loop-line.invariant c.in_ok-of.ensures c.in_err-fact.ensures)

pub loop-line-preserved : goal.loop-line-preserved
loop-line-preserved c =
    one_more (instructions c.args.enc.now) c.in_ok-of.field-0 c.args.named.now c.args.lines.now c.loop-line.line-index c.loop-line.said c.add.new.self c.line-item.result c.in_ok-fact.fact
    (omega arith) c.line-item.is c.loop-line.invariant c.in_ok-of.ensures c.in_ok-fact.ensures c.in_ok-add.ensures

pub returns-clause-value : goal.returns-clause-value
returns-clause-value c =
    is_value c.finished.result (normal c.args.enc.now c.args.named.now c.args.lines.now)
    (all_read c.args.enc.now c.args.named.now c.args.lines.now c.loop-line.line-index c.loop-line.said c.serves.result c.finished.result c.loop-line-test.false c.loop-line.invariant c.serves.ensures c.finished.ensures)

pub returns-clause-fault : goal.returns-clause-fault
returns-clause-fault c =
    is_fault c.finished.result (normal c.args.enc.now c.args.named.now c.args.lines.now)
    (all_read c.args.enc.now c.args.named.now c.args.lines.now c.loop-line.line-index c.loop-line.said c.serves.result c.finished.result c.loop-line-test.false c.loop-line.invariant c.serves.ensures c.finished.ensures)
