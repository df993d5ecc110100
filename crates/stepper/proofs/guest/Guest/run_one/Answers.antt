use Rattle.std.proofs.Common.{◌∙◌, sym, ap, subst, []}
use Rattle.edge_io.specs.Output.{TookPart}
use Rattle.edge_io.specs.Told.{followed}
use Rattle.stepper.specs.Ran.{Came, Took, written}
use Rattle.stepper.proofs.Going.{written-one, adds-one, came-one, took-one, ready-again, stop-told}
use Rattle.stepper.proofs.guest.Guest.run_one.Goals as goal

pub returns-in-Err-clause-took : goal.returns-in-Err-clause-took
returns-in-Err-clause-took g c =
    let old = c.args.self.now in
    let new = c.step.new.self in
    let w = written-one old new c.in_ok-stop.stop new.state.streams.pending c.in_ok-stop.ensures.step in
    subst (λ piece. TookPart (g.K.Sink.output c.args.out.now) (g.K.Sink.output c.put_all.new.out) piece) (c.pending.ensures ∙ sym w) c.in-Err.ensures.part

pub returns-in-Err-clause-adds : goal.returns-in-Err-clause-adds
returns-in-Err-clause-adds g c = adds-one c.args.self.now c.step.new.self c.in_ok-stop.stop c.step.new.self.state.streams.pending c.in_ok-stop.ensures.step

pub returns-in-Ok-clause-adds : goal.returns-in-Ok-clause-adds
returns-in-Ok-clause-adds g c = adds-one c.args.self.now c.step.new.self c.in_ok-stop.stop c.step.new.self.state.streams.pending c.in_ok-stop.ensures.step

pub returns-in-Ok-clause-came : goal.returns-in-Ok-clause-came
returns-in-Ok-clause-came g c =
    let old = c.args.self.now in
    let new = c.step.new.self in
    let empty = record new { state = record new.state { streams = record new.state.streams { pending = [] } } } in
    subst (λ last. Came c.end_of.result old last 1) (sym c.drained.ensures)
    (subst (λ end. Came end old empty 1) (sym c.end_of.ensures) (came-one old empty c.in_ok-stop.stop new.state.streams.pending c.in_ok-stop.ensures.step))

pub returns-in-Ok-clause-took : goal.returns-in-Ok-clause-took
returns-in-Ok-clause-took g c =
    let old = c.args.self.now in
    let new = c.step.new.self in
    let a = g.K.Sink.output c.args.out.now in
    let b = g.K.Sink.output c.put_all.new.out in
    let p = new.state.streams.pending in
    subst (λ end. Took end a b (written old 1)) (sym c.end_of.ensures)
    (took-one a b c.in_ok-stop.stop (written old 1) p (written-one old new c.in_ok-stop.stop p c.in_ok-stop.ensures.step) (c.in-Ok.ensures.whole ∙ ap (followed a.taken) c.pending.ensures))

pub returns-in-Ok-clause-again : goal.returns-in-Ok-clause-again
returns-in-Ok-clause-again g c = λ spent.
    ready-again c.drained.new.self c.in_ok-stop.stop c.end_of.result c.end_of.ensures spent (ap (λ last. last.stopped) c.drained.ensures ∙ c.in_ok-stop.ensures.stopped) (ap (λ last. last.state.streams.pending) c.drained.ensures)

pub returns-in-Ok-clause-stopped : goal.returns-in-Ok-clause-stopped
returns-in-Ok-clause-stopped g c =
    stop-told c.drained.new.self c.in_ok-stop.stop c.end_of.result c.end_of.ensures (ap (λ last. last.stopped) c.drained.ensures ∙ c.in_ok-stop.ensures.stopped)
