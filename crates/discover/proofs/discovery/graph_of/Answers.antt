use Rattle.std.proofs.Common.{◌∙◌, map, ap}
use Rattle.std.specs.List.{flat_map}
use Rattle.discover.specs.Parts.{node_at, backs_at}
use Rattle.discover.proofs.Assembled.{assembled}
use Rattle.discover.proofs.discovery.graph_of.Goals as goal

pub returns : goal.returns
returns g c = λ roots found.
    let code = g.P.Program.code c.args.search.now.program.now in
    let o = c.in_ok-outline.outline in
    let n = c.in_ok-nodes.nodes in
    let j = c.in_ok-jumps.jumps in
    assembled code roots c.args.places.now o.points.keys found
    n.nodes.items c.from_vec.result o.procs.items c.from_vec-2.result j.tables.items c.from_vec-3.result j.pads.items c.from_vec-4.result n.backs.items
    c.from_vec.ensures c.from_vec-2.ensures c.from_vec-3.ensures c.from_vec-4.ensures c.in_ok-outline.ensures
    (c.in_ok-nodes.ensures.nodes ∙ ap (map (node_at code)) c.as_slice.ensures.keys) (c.in_ok-nodes.ensures.backs ∙ ap (flat_map (backs_at code)) c.as_slice.ensures.keys)
    c.in_ok-jumps.ensures.tables c.in_ok-jumps.ensures.pads
