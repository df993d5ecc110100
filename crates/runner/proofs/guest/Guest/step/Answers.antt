use Rattle.std.proofs.Common.{◌∙◌, ◌++◌, ap, sym, subst, []}
use Rattle.points.specs.Running.{step}
use Rattle.graph_control.specs.Programs.{IsAt, IsPlaced}
use Rattle.runner.specs.Guests.{Runs}
use Rattle.runner.specs.Shown.{Shown, state_of}
use Rattle.runner.proofs.Stepping.{stays-at}
use Rattle.runner.proofs.guest.Guest.step.Goals as goal

pub invariant_of-self : goal.invariant_of-self
invariant_of-self c = record { sound = c.self.invariant.sound; lookup = c.self.invariant.lookup; fits = c.advance-stop.ensures.fits }

pub returns-clause-step : goal.returns-clause-step
returns-clause-step c = λ f at before.
    c.advance-stop.ensures.step f (subst (Runs f) (sym c.self.view_is) at) before ∙ ap (λ (g : Shown). step f (state_of before c.args.pool.now g.state)) c.self.view_is

pub returns-clause-runs : goal.returns-clause-runs
returns-clause-runs c = λ f at none.
    let g = c.args.self.now in
    let new = c.advance-stop.new.state in
    let here = subst (Runs f) (sym c.self.view_is) at in
    let e = c.advance-stop.ensures.step f here [] ∙ ap (λ (s : Shown). step f (state_of [] c.args.pool.now s.state)) c.self.view_is in
    let placed = subst (λ (s : Shown). IsPlaced s.chart c.advance-stop.result new.position) c.self.view_is (c.advance-stop.ensures.place f here) in
    subst (λ (s : Shown). IsAt s.chart f new.position) (sym c.self.view_is)
    (stays-at g.chart f g.state new c.args.pool.now c.advance-stop.new.pool [] ([] ++ new.streams.pending) c.advance-stop.result at e placed none)

pub returns-clause-chart : goal.returns-clause-chart
returns-clause-chart c = ap (λ (g : Shown). g.chart) c.self.view_is
