use Rattle.std.proofs.Common.{arith, subst, sym, ap}
use Rattle.std.proofs.lemmas.Result.{err_from_is_err_and}
use Rattle.stepper.specs.Ran.{TookPrefix, written}
use Rattle.stepper.proofs.Going.{gone-none, gone-on, gone-all, came-end, took-end, took-front, made-some}
use Rattle.stepper.proofs.guest.Guest.run.Goals as goal

pub loop-init : goal.loop-init
loop-init g c = gone-none c.args.self.now (g.K.Sink.output c.args.out.now) c.requires

pub loop-preserved : goal.loop-preserved
loop-preserved g c =
    gone-on c.args.self.now c.loop.self (g.K.Sink.output c.args.out.now) (g.K.Sink.output c.loop.out) c.loop.counter c.loop.invariant c.run_one.new.self (g.K.Sink.output c.run_one.new.out)
    c.in_ok-end.end c.in-Spent.is c.in_ok-end.ensures.adds c.in_ok-end.ensures.came c.in_ok-end.ensures.took c.in_ok-end.ensures.later c.in_ok-end.ensures.setting c.in_ok-end.ensures.again

pub returns-in_default-clause-came : goal.returns-in_default-clause-came
returns-in_default-clause-came g c =
    came-end c.args.self.now c.loop.self (g.K.Sink.output c.args.out.now) (g.K.Sink.output c.loop.out) c.loop.counter c.loop.invariant c.args.n c.loop-test.true
    c.in_ok-end.end c.run_one.new.self c.in_default.not-Spent c.in_ok-end.ensures.came

pub returns-in_default-clause-took : goal.returns-in_default-clause-took
returns-in_default-clause-took g c =
    took-end c.args.self.now c.loop.self (g.K.Sink.output c.args.out.now) (g.K.Sink.output c.loop.out) c.loop.counter c.loop.invariant c.args.n c.loop-test.true
    c.in_ok-end.end c.run_one.new.self (g.K.Sink.output c.run_one.new.out) c.in_default.not-Spent c.in_ok-end.ensures.adds c.in_ok-end.ensures.came c.in_ok-end.ensures.took

pub returns-clause-came : goal.returns-clause-came
returns-clause-came g c =
    (gone-all c.args.self.now c.loop.self (g.K.Sink.output c.args.out.now) (g.K.Sink.output c.loop.out) c.loop.counter c.args.n c.loop-test.false (omega arith) c.loop.invariant).came

pub returns-clause-took : goal.returns-clause-took
returns-clause-took g c =
    (gone-all c.args.self.now c.loop.self (g.K.Sink.output c.args.out.now) (g.K.Sink.output c.loop.out) c.loop.counter c.args.n c.loop-test.false (omega arith) c.loop.invariant).taken

pub returns-in_err-end-clause-front : goal.returns-in_err-end-clause-front
returns-in_err-end-clause-front g c =
    let p = err_from_is_err_and c.from_residual.result c.from_residual.ensures.1 in
    let a = g.K.Sink.output c.args.out.now in
    rw p.1
    (subst (λ o. TookPrefix a (g.K.Sink.output o) (written c.args.self.now c.args.n)) (sym c.in_err-end.ensures.err)
    (took-front c.args.self.now c.loop.self a (g.K.Sink.output c.loop.out) c.loop.counter c.loop.invariant c.args.n c.loop-test.true))

pub returns-in_err-end-clause-some : goal.returns-in_err-end-clause-some
returns-in_err-end-clause-some g c =
    let p = err_from_is_err_and c.from_residual.result c.from_residual.ensures.1 in
    rw p.1
    (made-some c.args.self.now c.loop.self c.run_one.new.self (g.K.Sink.output c.args.out.now) (g.K.Sink.output c.loop.out) (g.K.Sink.output c.run_one.new.out) c.loop.counter c.args.n c.loop-test.true c.loop.invariant
    c.in_err-end.ensures.kept (ap g.K.Sink.output c.in_err-end.ensures.err))
