use Rattle.std.proofs.Common.{◌∙◌, sym}
use Rattle.graph_control.specs.Charts.{chart_of}
use Rattle.graph_control.proofs.Looking.{node_place}
use Rattle.graph_control.proofs.Steered.{table_now, jumped-away, jumped-nowhere, jumped-there, some-left}
use Rattle.graph_control.proofs.charted.Charted.jump.Goals as goal

pub returns-then-is_empty : goal.returns-then-is_empty
returns-then-is_empty c = λ f roots a s place.
    let chart = chart_of c.args.self.now in
    let same = table_now chart roots f s.flow a c.args.place c.table-targets.result.now s.comes place c.table-targets.ensures in
    jumped-away chart roots f s.flow c.args.position.now c.enter_any.new.position a c.table-targets.result.now c.enter_any.result same (sym c.is_empty.ensures ∙ c.if-is_empty.true) (c.enter_any.ensures f roots s.flow)

pub returns : goal.returns
returns c = λ f roots a s place.
    let chart = chart_of c.args.self.now in
    let same = table_now chart roots f s.flow a c.args.place c.table-targets.result.now s.comes place c.table-targets.ensures in
    jumped-nowhere chart roots f s.flow c.args.position.now a s.comes c.table-targets.result.now same (sym c.has.ensures ∙ c.if-has.false) (some-left chart roots f s.flow c.table-targets.result.now (sym c.is_empty.ensures ∙ c.if-is_empty.false))

pub returns-then-has : goal.returns-then-has
returns-then-has c = λ f roots a s place.
    let chart = chart_of c.args.self.now in
    let same = table_now chart roots f s.flow a c.args.place c.table-targets.result.now s.comes place c.table-targets.ensures in
    jumped-there chart roots f s.flow c.args.position.now a s.comes c.go_at.new.self c.table-targets.result.now c.place_of.result same (sym c.has.ensures ∙ c.if-has.true) c.go_at.ensures (node_place chart c.args.self.now.lookup.now c.requires _ c.place_of.result c.place_of.ensures)
