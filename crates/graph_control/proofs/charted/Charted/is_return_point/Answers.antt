use Rattle.std.proofs.Common.{◌∙◌, ◌||◌, sym, ap, ne_eqb}
use Rattle.points.specs.Control.{is_second}
use Rattle.points.specs.Kinds.{second}
use Rattle.graph_control.specs.Charts.{chart_of}
use Rattle.graph_control.proofs.Looking.{pad_sorted}
use Rattle.graph_control.proofs.charted.Charted.is_return_point.Goals as goal

pub returns-else-back-target : goal.returns-else-back-target
returns-else-back-target c = λ f roots h comes.
    let s = pad_sorted (chart_of c.args.self.now) roots f h c.args.self.now.lookup.now c.requires c.args.back c.second.result comes c.second.ensures.there c.second.ensures.none in
    c.is_second.ensures ∙ ap (λ o. is_second o c.args.target) s ∙ sym (ap (λ b. b || is_second (second f.setting c.args.back) c.args.target) (ne_eqb c.args.back c.args.target c.if-back-target.false))
