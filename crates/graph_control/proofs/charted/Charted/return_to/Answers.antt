use Rattle.std.proofs.Common.{◌∙◌, sym}
use Rattle.graph_control.specs.Charts.{chart_of}
use Rattle.graph_control.proofs.Looking.{node_place}
use Rattle.graph_control.proofs.Steered.{returned-nowhere, returned-there}
use Rattle.graph_control.proofs.charted.Charted.return_to.Goals as goal

pub returns : goal.returns
returns c = λ f roots h comes.
    returned-nowhere (chart_of c.args.self.now) roots f h c.args.position.now c.args.back comes (sym (c.is_return_point.ensures f roots h comes) ∙ c.if-is_return_point.false)

pub returns-then-is_return_point : goal.returns-then-is_return_point
returns-then-is_return_point c = λ f roots h comes.
    let chart = chart_of c.args.self.now in
    returned-there chart roots f h c.args.position.now c.args.back comes c.go_at.new.self c.place_of.result (sym (c.is_return_point.ensures f roots h comes) ∙ c.if-is_return_point.true) c.go_at.ensures
    (node_place chart c.args.self.now.lookup.now c.requires _ c.place_of.result c.place_of.ensures)
