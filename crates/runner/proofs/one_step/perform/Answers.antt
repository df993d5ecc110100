use Rattle.std.proofs.Common.{◌∙◌, ap}
use Rattle.paged_space.specs.FollowsLaws.{follows_next}
use Rattle.paged_space.specs.PageTable.{contents_of}
use Rattle.points.specs.Running.{finished as finished_by, service_due}
use Rattle.rtl_meaning.specs.Effects.{doing, finished}
use Rattle.runner.specs.Shown.{state_of}
use Rattle.graph_control.specs.Charts.{chart_of}
use Rattle.runner.specs.Doing.{did_of}
use Rattle.runner.proofs.Stepping.{stop-here, pending-kept, heap-kept, performed-halts, performed-went, state-behind, turns}
use Rattle.runner.proofs.one_step.perform.Goals as goal

pub returns-in-Some-clause-step : goal.returns-in-Some-clause-step
returns-in-Some-clause-step c = λ f kind at node before.
    let old = c.args.state.now in
    let new = c.transfer-effect.new.state in
    let now = c.transfer-effect.new.pool in
    let d = doing new.cells.values (contents_of new.space now) new.windows c.transfer-effect.result in
    stop-here c.in-Some.stop new now before new.streams.pending (pending-kept old new c.transfer-effect.ensures.kept c.requires.empty)
    ∙ performed-halts (chart_of c.args.on.now) f c.args.inst.now kind at.flow.machine (state_of before c.args.pool.now old) c.in-Some.stop d (c.transfer-effect.ensures.exact ∙ ap (λ o. finished o d) c.in-Some.is)

pub returns-in-Some-clause-place : goal.returns-in-Some-clause-place
returns-in-Some-clause-place c = λ f kind at node none. let no : ⊥ = cc in absurd no

pub returns-in-Some-clause-fits : goal.returns-in-Some-clause-fits
returns-in-Some-clause-fits c = (c.transfer-effect.ensures.fits, heap-kept c.args.state.now c.transfer-effect.new.state c.transfer-effect.ensures.kept c.requires.fits.1)

pub finish-requires-clause-fits : goal.finish-requires-clause-fits
finish-requires-clause-fits c = (c.transfer-effect.ensures.fits, heap-kept c.args.state.now c.transfer-effect.new.state c.transfer-effect.ensures.kept c.requires.fits.1)

pub finish-requires-clause-empty : goal.finish-requires-clause-empty
finish-requires-clause-empty c = pending-kept c.args.state.now c.transfer-effect.new.state c.transfer-effect.ensures.kept c.requires.empty

pub returns-in-None-clause-step : goal.returns-in-None-clause-step
returns-in-None-clause-step c = λ f kind at node before.
    let chart = chart_of c.args.on.now in
    let inst = c.args.inst.now in
    let old = c.args.state.now in
    let new = c.transfer-effect.new.state in
    let now = c.transfer-effect.new.pool in
    let effect = c.transfer-effect.result in
    let kept = c.transfer-effect.ensures.kept in
    let d = doing new.cells.values (contents_of new.space now) new.windows effect in
    let went = c.transfer-effect.ensures.exact ∙ ap (λ o. finished o d) c.in-None.is in
    let t = turns chart f inst kind old new c.args.pool.now now effect at node kept went in
    c.finish.ensures.step f at.roots inst kind t before
    ∙ ap (finished_by f (did_of inst kind effect) (service_due effect.service f.setting.conv.service)) (state-behind before c.args.pool.now now old new effect kept)
    ∙ performed-went chart f inst kind at.flow.machine (state_of before c.args.pool.now old) d went

pub returns-in-None-clause-place : goal.returns-in-None-clause-place
returns-in-None-clause-place c = λ f kind at node.
    let chart = chart_of c.args.on.now in
    let new = c.transfer-effect.new.state in
    let now = c.transfer-effect.new.pool in
    let effect = c.transfer-effect.result in
    let d = doing new.cells.values (contents_of new.space now) new.windows effect in
    let went = c.transfer-effect.ensures.exact ∙ ap (λ o. finished o d) c.in-None.is in
    c.finish.ensures.place f at.roots c.args.inst.now kind (turns chart f c.args.inst.now kind c.args.state.now new c.args.pool.now now effect at node c.transfer-effect.ensures.kept went)

pub returns-in-None-clause-follows : goal.returns-in-None-clause-follows
returns-in-None-clause-follows c = follows_next _ _ _ _ _ _ c.transfer-effect.ensures.follows c.finish.ensures.follows
