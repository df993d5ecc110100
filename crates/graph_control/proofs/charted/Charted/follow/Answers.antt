use Rattle.std.proofs.Common.{subst, sym, Some, None}
use Rattle.rtl_core.specs.declared.stop.Stop.{Stop}
use Rattle.graph_control.specs.Charts.{chart_of}
use Rattle.graph_control.proofs.Steered.{FollowsSo, follow-on, follow-couples}
use Rattle.graph_control.proofs.charted.Charted.follow.Goals as goal

pub returns-in-On : goal.returns-in-On
returns-in-On c = λ f roots s.
    let chart = chart_of c.args.self.now in
    let old = c.args.position.now in
    let k = c.args.way.now.place in
    subst (FollowsSo chart roots f s.flow old c.go.new.self None k) (sym c.in-On.is) (follow-on chart roots f s.flow old c.go.new.self k c.in-On.point c.go.ensures) s

pub returns-in-Arrives : goal.returns-in-Arrives
returns-in-Arrives c = λ f roots s.
    let chart = chart_of c.args.self.now in
    subst (FollowsSo chart roots f s.flow c.args.position.now c.arrive.new.position c.arrive.result c.args.way.now.place) (sym c.in-Arrives.is) (c.arrive.ensures f roots) s

pub returns-in-Couples : goal.returns-in-Couples
returns-in-Couples c = λ f roots s.
    let chart = chart_of c.args.self.now in
    let old = c.args.position.now in
    let k = c.args.way.now.place in
    subst (FollowsSo chart roots f s.flow old old (Some (Stop.Couple old.point.pc)) k) (sym c.in-Couples.is) (follow-couples chart roots f s.flow old k) s
