use Rattle.std.proofs.Common.{[], sym, subst}
use Rattle.points.specs.Running.{world_of}
use Rattle.rtl_core.specs.Services.{asked}
use Rattle.graph_control.specs.Charts.{chart_of}
use Rattle.graph_control.specs.declared.position.Position.{Position}
use Rattle.runner.specs.Doing.{did_of, Turns, IsServed}
use Rattle.runner.specs.Shown.{state_of}
use Rattle.runner.proofs.Stepping.{served-exits, served-goes}
use Rattle.runner.proofs.one_step.answer.Goals as goal

pub returns-in-Exit-clause-step : goal.returns-in-Exit-clause-step
returns-in-Exit-clause-step c = λ shape is f roots inst kind t before.
    let old = c.args.state.now in
    let h : IsServed c.args.on.now.machine.now shape (asked c.args.on.now.conv.now shape old.cells.values (world_of (state_of [] c.args.pool.now old))) c.ask.result c.ask.new.pool old c.ask.new.state = record {
      end_is = c.ask.ensures.end shape is;
      cells = c.ask.ensures.cells shape is;
      memory = c.ask.ensures.memory shape is;
      streams = c.ask.ensures.streams shape is;
      windows = c.ask.ensures.windows;
      position = c.ask.ensures.position;
    } in
    served-exits (chart_of c.args.on.now) f (did_of inst kind c.args.effect.now) shape before c.args.pool.now c.ask.new.pool old c.ask.new.state c.ask.result t.steers.flow.machine h c.in-Exit.status c.in-Exit.is

pub returns-in-Exit-clause-place : goal.returns-in-Exit-clause-place
returns-in-Exit-clause-place c = λ f roots inst kind t none. let no : ⊥ = cc in absurd no

pub returns-in-Go-clause-step : goal.returns-in-Go-clause-step
returns-in-Go-clause-step c = λ shape is f roots inst kind t before.
    let chart = chart_of c.args.on.now in
    let effect = c.args.effect.now in
    let old = c.args.state.now in
    let new = c.ask.new.state in
    let h : IsServed c.args.on.now.machine.now shape (asked c.args.on.now.conv.now shape old.cells.values (world_of (state_of [] c.args.pool.now old))) c.ask.result c.ask.new.pool old new = record {
      end_is = c.ask.ensures.end shape is;
      cells = c.ask.ensures.cells shape is;
      memory = c.ask.ensures.memory shape is;
      streams = c.ask.ensures.streams shape is;
      windows = c.ask.ensures.windows;
      position = c.ask.ensures.position;
    } in
    let there = subst (λ (p : Position). Turns chart f roots p inst kind effect) (sym c.ask.ensures.position) t in
    served-goes chart f (did_of inst kind effect) shape before c.args.pool.now c.ask.new.pool old new c.ask.result t.steers.flow.machine h c.turn.result c.turn.new.position c.in-Go.is
    (c.turn.ensures f roots inst kind there).moved

pub returns-in-Go-clause-place : goal.returns-in-Go-clause-place
returns-in-Go-clause-place c = λ f roots inst kind t.
    let there = subst (λ (p : Position). Turns (chart_of c.args.on.now) f roots p inst kind c.args.effect.now) (sym c.ask.ensures.position) t in
    (c.turn.ensures f roots inst kind there).place
