use Rattle.std.proofs.Common.{refl}
use Rattle.c_program.specs.declared.sources.Sources.{Sources}
use Rattle.c_program.proofs.Enough.{enough, has-summary}
use Rattle.c_program.proofs.Showing.{sums-rise}
use Rattle.c_program.proofs.emission.program_of_graph.Goals as goal

pub find_summary-requires : goal.find_summary-requires
find_summary-requires g c = sums-rise g.told.setting g.told.table g.told.roots c.args.graph.now c.args.sums.now c.requires.1.1.0 c.requires.1.1.1.0

pub unreachable-requires : goal.unreachable-requires
unreachable-requires g c =
    has-summary g.told.setting g.told.table g.told.roots c.args.graph.now c.args.sums.now g.told.others c.args.entry c.requires.1.1.0 c.requires.1.1.1.0 c.requires.1.1.1.1.0 c.requires.1.1.1.1.1.0 c.in-None.ensures

pub program-requires : goal.program-requires
program-requires g c =
    let on : Sources = record { machine = c.args.machine; conv = c.args.conv; tables = c.as_slice.result; pads = c.as_slice-in-Some.result; sums = c.args.sums; own = c.in-Some.own } in
    enough g.told.setting g.told.table g.told.roots c.args.graph.now c.args.sums.now g.told.others c.args.entry c.requires.1.1.0 c.requires.1.1.1.0 c.requires.1.1.1.1.0 c.requires.1.1.1.1.1.0 on
    (record { machine = c.requires.0; conv = c.requires.1.0; tables = c.as_slice.ensures; pads = c.as_slice-in-Some.ensures; sums_are = refl }) c.in-Some.ensures.1 c.as_slice-in-Some-3.result.now c.as_slice-in-Some-2.result.now
    c.as_slice-in-Some-3.ensures c.as_slice-in-Some-2.ensures
