use Rattle.std.proofs.Common.{◌∙◌, sym, ap, subst, []}
use Rattle.edge_io.specs.Output.{TookPart}
use Rattle.edge_io.specs.Told.{followed}
use Rattle.runner.specs.Guests.{Runs}
use Rattle.runner.specs.Ran.{Came, Took, written, moment_of}
use Rattle.runner.proofs.Going.{written-one, adds-one, came-one, took-one, ready-again, not-stopped, stop-told}
use Rattle.runner.proofs.guest.Guest.run_one.Goals as goal

pub returns-in-Err-clause-took : goal.returns-in-Err-clause-took
returns-in-Err-clause-took g c = λ f at.
    let old = moment_of c.args.self.now.state c.args.pool.now in
    let new = moment_of c.step-stop.new.self.state c.step-stop.new.pool in
    let w = written-one f old new c.step-stop.result new.state.streams.pending (c.step-stop.ensures.step f at) in
    subst (λ piece. TookPart (g.K.Sink.output c.args.out.now) (g.K.Sink.output c.put_all.new.out) piece) (c.pending.ensures ∙ sym w) c.in-Err.ensures.part

pub returns-in-Err-clause-adds : goal.returns-in-Err-clause-adds
returns-in-Err-clause-adds g c = λ f at.
    let new = moment_of c.step-stop.new.self.state c.step-stop.new.pool in
    adds-one f (moment_of c.args.self.now.state c.args.pool.now) new c.step-stop.result new.state.streams.pending (c.step-stop.ensures.step f at)

pub returns-in-Ok-clause-adds : goal.returns-in-Ok-clause-adds
returns-in-Ok-clause-adds g c = λ f at.
    let new = moment_of c.step-stop.new.self.state c.step-stop.new.pool in
    adds-one f (moment_of c.args.self.now.state c.args.pool.now) new c.step-stop.result new.state.streams.pending (c.step-stop.ensures.step f at)

pub returns-in-Ok-clause-came : goal.returns-in-Ok-clause-came
returns-in-Ok-clause-came g c = λ f at.
    let old = moment_of c.args.self.now.state c.args.pool.now in
    let last = c.step-stop.new.self in
    let now = c.step-stop.new.pool in
    let empty = record last.state { streams = record last.state.streams { pending = [] } } in
    subst (λ s. Came f c.end_of.result old (moment_of s.state now) 1) (sym c.drained.ensures)
    (subst (λ end. Came f end old (moment_of empty now) 1) (sym c.end_of.ensures) (came-one f old (moment_of empty now) c.step-stop.result last.state.streams.pending (c.step-stop.ensures.step f at)))

pub returns-in-Ok-clause-took : goal.returns-in-Ok-clause-took
returns-in-Ok-clause-took g c = λ f at.
    let old = moment_of c.args.self.now.state c.args.pool.now in
    let new = moment_of c.step-stop.new.self.state c.step-stop.new.pool in
    let a = g.K.Sink.output c.args.out.now in
    let b = g.K.Sink.output c.put_all.new.out in
    let p = new.state.streams.pending in
    subst (λ end. Took end a b (written f old 1)) (sym c.end_of.ensures)
    (took-one a b c.step-stop.result (written f old 1) p (written-one f old new c.step-stop.result p (c.step-stop.ensures.step f at)) (c.in-Ok.ensures.whole ∙ ap (followed a.taken) c.pending.ensures))

pub returns-in-Ok-clause-runs : goal.returns-in-Ok-clause-runs
returns-in-Ok-clause-runs g c = λ f at spent.
    subst (Runs f) (sym c.drained.ensures) (c.step-stop.ensures.runs f at (not-stopped c.step-stop.result c.end_of.result c.end_of.ensures spent))

pub returns-in-Ok-clause-again : goal.returns-in-Ok-clause-again
returns-in-Ok-clause-again g c = λ spent.
    ready-again c.drained.new.self c.step-stop.result c.end_of.result c.end_of.ensures spent (ap (λ last. last.stopped) c.drained.ensures ∙ c.step-stop.ensures.stopped) (ap (λ last. last.state.streams.pending) c.drained.ensures)

pub returns-in-Ok-clause-stopped : goal.returns-in-Ok-clause-stopped
returns-in-Ok-clause-stopped g c =
    stop-told c.drained.new.self c.step-stop.result c.end_of.result c.end_of.ensures (ap (λ last. last.stopped) c.drained.ensures ∙ c.step-stop.ensures.stopped)
