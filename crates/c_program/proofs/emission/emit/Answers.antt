use Rattle.std.proofs.Common.{sym, subst}
use Rattle.std.proofs.lemmas.Result.{IfOk-weaker}
use Rattle.c_control.specs.Programs.{IsPlanned, IsSame}
use Rattle.c_program.specs.Planning.{flow_of, graph_plan}
use Rattle.c_program.proofs.GraphFunctions.{graph-is-planned, graph-is-same}
use Rattle.c_program.proofs.emission.emit.Goals as goal

pub returns-clause-same : goal.returns-clause-same
returns-clause-same g c =
    let t = g.told in
    IfOk-weaker c.program_of_graph.result _ _
    (λ p h. subst (λ p. IsSame p (flow_of t.setting t.table c.args.graph.now.procs) t.parts c.args.entry) (sym h)
    (graph-is-same t.setting t.table t.roots c.args.graph.now c.args.sums.now t.others t.parts c.args.entry c.requires.1.1.0 c.requires.1.1.1.0 c.requires.1.1.1.1.0 c.requires.1.1.1.1.1.0))
    c.program_of_graph.ensures

pub returns-clause-planned : goal.returns-clause-planned
returns-clause-planned g c =
    let t = g.told in
    IfOk-weaker c.program_of_graph.result _ _
    (λ p h. subst (IsPlanned (graph_plan t.setting t.table c.args.graph.now.procs c.args.sums.now t.others) t.roots t.parts c.args.entry) (sym h)
    (graph-is-planned t.setting t.table t.roots c.args.graph.now c.args.sums.now t.others t.parts c.args.entry c.requires.1.1.0 c.requires.1.1.1.0 c.requires.1.1.1.1.0 c.requires.1.1.1.1.1.0))
    c.program_of_graph.ensures
