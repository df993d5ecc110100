use Rattle.std.proofs.Common.{◌∙◌, refl, sym}
use Rattle.std.specs.Prelude.{IsSome}
use Rattle.paged_space.specs.FollowsLaws.{follows_same}
use Rattle.points.specs.Running.{control_behind}
use Rattle.graph_control.specs.Charts.{control_of}
use Rattle.runner.specs.Shown.{state_of}
use Rattle.runner.specs.Doing.{did_of}
use Rattle.runner.proofs.Serving.{due-shape}
use Rattle.runner.proofs.Stepping.{turned-here, finished-plain, finished-serves}
use Rattle.runner.proofs.one_step.finish.Goals as goal

pub answer-requires-clause-service : goal.answer-requires-clause-service
answer-requires-clause-service c =
    due-shape c.args.effect.now.service c.args.on.now.conv.now.service (sym c.is_due.ensures ∙ c.if-is_due.true) (λ shape is. let e : IsSome c.args.on.now.conv.now.service = rw is refl in e)

pub returns-then-is_due-clause-step : goal.returns-then-is_due-clause-step
returns-then-is_due-clause-step c = λ f roots inst kind t before.
    let due = sym c.is_due.ensures ∙ c.if-is_due.true in
    let conv = c.args.on.now.conv.now in
    due-shape c.args.effect.now.service conv.service due (λ shape is.
    c.answer.ensures.step shape is f roots inst kind t before
    ∙ finished-serves f (did_of inst kind c.args.effect.now) c.args.effect.now.service conv shape (state_of before c.args.pool.now c.args.state.now) t.steers.flow.conv due is)

pub returns-clause-step : goal.returns-clause-step
returns-clause-step c = λ f roots inst kind t before.
    let did = did_of inst kind c.args.effect.now in
    let s = c.args.state.now in
    let p = c.turn.new.position in
    turned-here c.turn.result p (control_behind f did (control_of s.position)) before s.streams.pending c.args.pool.now s c.requires.empty (c.turn.ensures f roots inst kind t).moved
    ∙ finished-plain f did c.args.effect.now.service c.args.on.now.conv.now (state_of before c.args.pool.now s) t.steers.flow.conv (sym c.is_due.ensures ∙ c.if-is_due.false)

pub returns-clause-place : goal.returns-clause-place
returns-clause-place c = λ f roots inst kind t. (c.turn.ensures f roots inst kind t).place

pub returns-clause-follows : goal.returns-clause-follows
returns-clause-follows c = follows_same _ _
