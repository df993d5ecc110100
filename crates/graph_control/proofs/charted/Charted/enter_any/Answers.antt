use Rattle.std.proofs.Common.{◌∙◌, sym}
use Rattle.graph_control.specs.Charts.{chart_of}
use Rattle.graph_control.proofs.Looking.{node_place, entry_sorted}
use Rattle.graph_control.proofs.Steered.{any-there, any-nowhere}
use Rattle.graph_control.proofs.charted.Charted.enter_any.Goals as goal

pub returns : goal.returns
returns c = λ f roots h.
    let chart = chart_of c.args.self.now in
    let is = entry_sorted chart roots f h c.args.self.now.lookup.now c.requires c.args.position.now.target c.is_entry.result c.is_entry.ensures in
    any-nowhere chart roots f h c.args.position.now c.args.member (sym is ∙ c.if-is_entry.false)

pub returns-then-is_entry : goal.returns-then-is_entry
returns-then-is_entry c = λ f roots h.
    let chart = chart_of c.args.self.now in
    let is = entry_sorted chart roots f h c.args.self.now.lookup.now c.requires c.args.position.now.target c.is_entry.result c.is_entry.ensures in
    any-there chart roots f h c.args.position.now c.enter.new.self c.place_of.result c.args.member c.enter.result (sym is ∙ c.if-is_entry.true) c.enter.ensures.moved c.enter.ensures.place
    (node_place chart c.args.self.now.lookup.now c.requires _ c.place_of.result c.place_of.ensures)
