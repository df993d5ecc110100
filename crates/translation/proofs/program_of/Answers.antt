use Rattle.std.proofs.Common.{◌≡◌, List, sym, ap, subst}
use Rattle.std.proofs.lemmas.Result.{IfOk-weaker}
use Rattle.points.specs.declared.graph.Summary.{Summary}
use Rattle.points.specs.Machine.{Setting}
use Rattle.points.specs.Summaries.{AreSummaries}
use Rattle.c_lang.specs.Spellable.{HasSpelling, SegmentsFit}
use Rattle.c_control.specs.Plans.{Plan}
use Rattle.params.specs.SummaryLaws.{summarized}
use Rattle.c_program.specs.Planning.{AreSummariesOf, graph_plan}
use Rattle.c_shape.specs.Laws.{HasFullShape}
use Rattle.c_static.specs.Laws.{KeepsFive}
use Rattle.translation.specs.Translations.{IsShaped}
use Rattle.translation.proofs.Translated.{summaries-are}
use Rattle.translation.proofs.program_of.Goals as goal

pub emit-requires : goal.emit-requires
emit-requires g c =
    let t = g.told in
    let e = c.requires.0 in
    let are = subst (λ (ss : List Summary). AreSummaries (summarized t.setting t.table t.roots) c.args.graph.now ss) (sym c.as_slice.ensures) (summaries-are c.args.on.now t c.args.graph.now c.in_ok-sums.sums e c.requires.1.0 c.in_ok-sums.ensures) in
    (sym (ap (λ (s : Setting). s.machine) e), (sym (ap (λ (s : Setting). s.conv) e), (c.requires.1.0, (AreSummariesOf.least are, (c.requires.1.1.0, (c.requires.1.1.1.0, c.requires.1.1.1.1.0))))))

pub returns-clause-shaped : goal.returns-clause-shaped
returns-clause-shaped g c =
    let t = g.told in
    let ss = c.as_slice.result.now in
    let are = subst (λ (ss : List Summary). AreSummaries (summarized t.setting t.table t.roots) c.args.graph.now ss) (sym c.as_slice.ensures) (summaries-are c.args.on.now t c.args.graph.now c.in_ok-sums.sums c.requires.0 c.requires.1.0 c.in_ok-sums.ensures) in
    IfOk-weaker c.emit.result _ _
    (λ p is. record {
      sums = ss;
      are = are;
      shape = subst (HasFullShape (graph_plan t.setting t.table c.args.graph.now.procs ss t.others) t.roots ss t.parts) (sym is)
          (c.graph_has_full_shape.ensures t.setting t.table t.roots c.args.graph.now ss t.others t.parts c.args.entry c.requires.1.0 (AreSummariesOf.least are) c.requires.1.1.0 c.requires.1.1.1.0);
    })
    c.emit.ensures.program

pub returns-clause-spelled : goal.returns-clause-spelled
returns-clause-spelled g c =
    let t = g.told in
    let are = subst (λ (ss : List Summary). AreSummaries (summarized t.setting t.table t.roots) c.args.graph.now ss) (sym c.as_slice.ensures) (summaries-are c.args.on.now t c.args.graph.now c.in_ok-sums.sums c.requires.0 c.requires.1.0 c.in_ok-sums.ensures) in
    IfOk-weaker c.emit.result _ _
    (λ p is. subst HasSpelling (sym is)
    (c.graph_is_spelled.ensures t.setting t.table t.roots c.args.graph.now c.as_slice.result.now t.others t.parts c.args.entry c.requires.1.0 (AreSummariesOf.least are) c.requires.1.1.0 c.requires.1.1.1.0 (subst SegmentsFit c.requires.1.1.1.1.0 c.requires.1.1.1.1.1.1)))
    c.emit.ensures.program

pub returns-clause-rules : goal.returns-clause-rules
returns-clause-rules g c =
    let t = g.told in
    let are = subst (λ (ss : List Summary). AreSummaries (summarized t.setting t.table t.roots) c.args.graph.now ss) (sym c.as_slice.ensures) (summaries-are c.args.on.now t c.args.graph.now c.in_ok-sums.sums c.requires.0 c.requires.1.0 c.in_ok-sums.ensures) in
    IfOk-weaker c.emit.result _ _
    (λ p is. subst KeepsFive (sym is)
    (c.graph_is_static.ensures t.setting t.table t.roots c.args.graph.now c.as_slice.result.now t.others t.parts c.args.entry c.requires.1.0 (AreSummariesOf.least are) c.requires.1.1.0 c.requires.1.1.1.0 c.requires.1.1.1.1.1.0))
    c.emit.ensures.program
