use Rattle.std.proofs.Common.{subst, sym, Some, None}
use Rattle.rtl_core.specs.declared.stop.Stop.{Stop}
use Rattle.graph_control.specs.Charts.{chart_of}
use Rattle.graph_control.proofs.Steered.{ArrivesSo, arrive-seq, arrive-to, arrive-call}
use Rattle.graph_control.proofs.charted.Charted.arrive.Goals as goal

pub returns-in-Seq : goal.returns-in-Seq
returns-in-Seq c = λ f roots s.
    let chart = chart_of c.args.self.now in
    let old = c.args.position.now in
    subst (ArrivesSo chart roots f s.flow old old (Some (Stop.Couple old.point.pc)) c.args.place) (sym c.in-Seq.is) (arrive-seq chart roots f s.flow old c.args.place) s

pub returns-in-To : goal.returns-in-To
returns-in-To c = λ f roots s.
    let chart = chart_of c.args.self.now in
    let old = c.args.position.now in
    subst (ArrivesSo chart roots f s.flow old c.go_at.new.self None c.args.place) (sym c.in-To.is) (arrive-to chart roots f s.flow old c.go_at.new.self c.args.place c.in-To.t c.go_at.ensures) s

pub returns-in-Dyn : goal.returns-in-Dyn
returns-in-Dyn c = λ f roots s.
    let chart = chart_of c.args.self.now in
    subst (ArrivesSo chart roots f s.flow c.args.position.now c.jump.new.position c.jump.result c.args.place) (sym c.in-Dyn.is) (λ t place. c.jump.ensures f roots c.in-Dyn.field-0 t place) s

pub returns-in-CallTo : goal.returns-in-CallTo
returns-in-CallTo c = λ f roots s.
    let chart = chart_of c.args.self.now in
    let old = c.args.position.now in
    subst (ArrivesSo chart roots f s.flow old c.enter.new.self c.enter.result c.args.place) (sym c.in-CallTo.is)
    (arrive-call chart roots f s.flow old c.enter.new.self c.args.place c.in-CallTo.t c.in-CallTo.back c.enter.result c.enter.ensures.moved c.enter.ensures.place) s

pub returns-in-CallDyn : goal.returns-in-CallDyn
returns-in-CallDyn c = λ f roots s.
    let chart = chart_of c.args.self.now in
    subst (ArrivesSo chart roots f s.flow c.args.position.now c.enter_any.new.position c.enter_any.result c.args.place) (sym c.in-CallDyn.is) (λ t place. c.enter_any.ensures f roots t.flow) s

pub returns-in-Ret : goal.returns-in-Ret
returns-in-Ret c = λ f roots s.
    let chart = chart_of c.args.self.now in
    subst (ArrivesSo chart roots f s.flow c.args.position.now c.return_back.new.position c.return_back.result c.args.place) (sym c.in-Ret.is) (λ t place. c.return_back.ensures f roots t.flow t.calls) s
