use Rattle.std.proofs.Common.{◌∙◌, sym, ap, subst, is_some}
use Rattle.std.specs.Option.{option_copied}
use Rattle.points.specs.Courses.{course}
use Rattle.graph_control.specs.Charts.{chart_of}
use Rattle.graph_control.specs.Ways.{IsWay, way_of}
use Rattle.graph_control.proofs.Looking.{some_is}
use Rattle.runner.proofs.Stepping.{turned-by, ways-here}
use Rattle.runner.proofs.one_step.turn.Goals as goal

pub returns-in_default : goal.returns-in_default
returns-in_default c = λ f roots inst kind t.
    let w = ways-here (chart_of c.args.on.now) c.args.on.now.lookup.now c.requires.lookup c.args.position.now inst kind t.node in
    let is = sym w.1 ∙ sym c.ways_at.ensures ∙ ap option_copied c.in_default.is in
    let no : ⊥ = cc in absurd no

pub returns : goal.returns
returns c = λ f roots inst kind t.
    let chart = chart_of c.args.on.now in
    let effect = c.args.effect.now in
    let jumps = is_some effect.jump in
    let w = ways-here chart c.args.on.now.lookup.now c.requires.lookup c.args.position.now inst kind t.node in
    let same = some_is c.in-Some.ways.now w.0 (sym (ap option_copied c.in-Some.is) ∙ c.ways_at.ensures ∙ w.1) in
    let is = c.of.ensures ∙ ap (λ x. way_of x c.is_some.result effect.annul) same ∙ ap (λ j. way_of w.0 j effect.annul) c.is_some.ensures in
    let way = subst (IsWay chart.graph (course chart.machine c.args.position.now.point inst.next kind jumps effect.annul)) (sym is) (w.2 jumps effect.annul) in
    turned-by chart f roots c.args.position.now c.keep.new.self c.follow.new.position inst kind effect t c.of.result c.follow.result way c.keep.ensures.moved (c.follow.ensures f roots)
