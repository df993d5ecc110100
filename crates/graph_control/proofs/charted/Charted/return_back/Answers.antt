use Rattle.std.proofs.Common.{subst}
use Rattle.points.specs.Control.{Move}
use Rattle.rtl_core.specs.declared.stop.Stop.{Stop}
use Rattle.graph_control.specs.Programs.{program_of, IsSteered}
use Rattle.graph_control.specs.Charts.{control_of, chart_of}
use Rattle.graph_control.proofs.OpenReturns.{returned-none, returned-some, open-back}
use Rattle.graph_control.proofs.Steered.{stopped-there}
use Rattle.graph_control.proofs.charted.Charted.return_back.Goals as goal

pub returns-in-Some : goal.returns-in-Some
returns-in-Some c = λ f roots h made.
    let chart = chart_of c.args.self.now in
    let old = c.args.position.now in
    let rest = c.pop_call.new.self in
    subst (λ (m : Move). IsSteered chart m c.return_to.result c.return_to.new.position) (returned-some f.setting old.calls rest c.in-Some.back (control_of old) c.in-Some.ensures)
    (c.return_to.ensures f roots h (open-back (program_of f) roots old.calls rest c.in-Some.back c.in-Some.ensures made))

pub returns-in-None : goal.returns-in-None
returns-in-None c = λ f roots h made.
    let chart = chart_of c.args.self.now in
    let old = c.args.position.now in
    stopped-there chart _ (Stop.ReturnMismatch old.target) _ (returned-none f.setting old.calls (control_of old) c.in-None.ensures)
