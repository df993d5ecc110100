use Rattle.std.proofs.Common.{◌∙◌, ◌++◌, sym, ap, subst, Some}
use Rattle.rtl_core.specs.declared.stop.Stop.{Stop}
use Rattle.std.specs.Option.{option_copied}
use Rattle.std.proofs.lemmas.List.Elements.{All-contains}
use Rattle.paged_space.specs.FollowsLaws.{follows_same}
use Rattle.graph_control.specs.Charts.{chart_of}
use Rattle.graph_control.proofs.Looking.{member_at}
use Rattle.runner.specs.Guests.{IsSoundNode, IsSoundBlock}
use Rattle.runner.specs.Shown.{state_of, moment}
use Rattle.runner.proofs.Stepping.{node_here, has_node, outside-node, illegal-node, inst-node}
use Rattle.runner.proofs.one_step.advance.Goals as goal

pub returns-in_default-clause-step : goal.returns-in_default-clause-step
returns-in_default-clause-step c = λ f at before. absurd (node_here (chart_of c.args.on.now) f c.args.state.now.position at (sym c.get.ensures.value ∙ ap option_copied c.in_default.is))

pub returns-in_default-clause-place : goal.returns-in_default-clause-place
returns-in_default-clause-place c = λ f at none. let no : ⊥ = cc in absurd no

pub returns-in_default-clause-follows : goal.returns-in_default-clause-follows
returns-in_default-clause-follows c = follows_same _ _

pub returns-in-Outside-clause-step : goal.returns-in-Outside-clause-step
returns-in-Outside-clause-step c = λ f at before.
    ap (λ k. moment (Some (Stop.Undiscovered k)) (state_of (before ++ c.args.state.now.streams.pending) c.args.pool.now c.args.state.now)) c.address_of-pc.ensures.is
    ∙ outside-node (chart_of c.args.on.now) f c.args.state.now c.args.pool.now at c.in-Some.node.now (sym c.get.ensures.value ∙ ap option_copied c.in-Some.is) before c.requires.empty c.in-Outside.is

pub returns-in-Outside-clause-place : goal.returns-in-Outside-clause-place
returns-in-Outside-clause-place c = λ f at none. let no : ⊥ = cc in absurd no

pub returns-in-Outside-clause-follows : goal.returns-in-Outside-clause-follows
returns-in-Outside-clause-follows c = follows_same _ _

pub returns-in-Illegal-clause-step : goal.returns-in-Illegal-clause-step
returns-in-Illegal-clause-step c = λ f at before.
    ap (λ k. moment (Some (Stop.Illegal k)) (state_of (before ++ c.args.state.now.streams.pending) c.args.pool.now c.args.state.now)) c.address_of-pc.ensures.is
    ∙ illegal-node (chart_of c.args.on.now) f c.args.state.now c.args.pool.now at c.in-Some.node.now (sym c.get.ensures.value ∙ ap option_copied c.in-Some.is) before c.requires.empty c.in-Illegal.is

pub returns-in-Illegal-clause-place : goal.returns-in-Illegal-clause-place
returns-in-Illegal-clause-place c = λ f at none. let no : ⊥ = cc in absurd no

pub returns-in-Illegal-clause-follows : goal.returns-in-Illegal-clause-follows
returns-in-Illegal-clause-follows c = follows_same _ _

pub perform-requires-clause-transfers : goal.perform-requires-clause-transfers
perform-requires-clause-transfers c =
    let m = c.args.on.now.machine.now in
    let n = c.in-Some.node.now in
    let is = sym c.get.ensures.value ∙ ap option_copied c.in-Some.is in
    let sound = All-contains (IsSoundNode m) c.args.on.now.graph.now.nodes n c.requires.sound.blocks (member_at c.args.on.now.graph.now.nodes c.args.state.now.position.place n is) c.address_of-pc.ensures.fits in
    subst (IsSoundBlock m) c.in-Inst.is sound

pub returns-in-Inst-clause-step : goal.returns-in-Inst-clause-step
returns-in-Inst-clause-step c = λ f at before.
    let chart = chart_of c.args.on.now in
    let is = sym c.get.ensures.value ∙ ap option_copied c.in-Some.is in
    c.perform.ensures.step f c.in-Inst.field-1 at (has_node chart f c.args.state.now.position at c.in-Some.node.now c.in-Inst.inst c.in-Inst.field-1 is c.in-Inst.is) before
    ∙ inst-node chart f c.args.state.now c.args.pool.now at c.in-Some.node.now is before c.in-Inst.inst c.in-Inst.field-1 c.in-Inst.is

pub returns-in-Inst-clause-place : goal.returns-in-Inst-clause-place
returns-in-Inst-clause-place c = λ f at.
    let is = sym c.get.ensures.value ∙ ap option_copied c.in-Some.is in
    c.perform.ensures.place f c.in-Inst.field-1 at (has_node (chart_of c.args.on.now) f c.args.state.now.position at c.in-Some.node.now c.in-Inst.inst c.in-Inst.field-1 is c.in-Inst.is)
