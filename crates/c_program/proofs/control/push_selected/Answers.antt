use Rattle.std.proofs.Common.{◌++◌, sym, ap, ◌∙◌}
use Rattle.std.proofs.lemmas.Result.{on_ok_weaker}
use Rattle.c_control.specs.Choice.{choose_c}
use Rattle.c_control.specs.Pieces.{call_c, leaf_c}
use Rattle.c_control.specs.Blocks.{selected_behind, selected_c}
use Rattle.c_program.proofs.CellLists.{onto}
use Rattle.c_program.proofs.Landings.{call-rest, calls-rest}
use Rattle.c_program.proofs.control.push_selected.Goals as goal

pub returns-in_ok-push_call-in-CallTo : goal.returns-in_ok-push_call-in-CallTo
returns-in_ok-push_call-in-CallTo g c =
    let back = c.in-CallTo.back in
    let t = c.in-CallTo.t in
    on_ok_weaker c.push_chosen.result
    (λ h. onto (call_c g.plan back t) (call-rest g.plan back t) c.args.out.now c.push_call.new.out c.push_chosen.new.out selected_behind c.in_ok-push_call-in-CallTo.ensures h
    ∙ ap (λ s. c.args.out.now ++ selected_c g.plan s) (sym c.in-CallTo.is))
    c.push_chosen.ensures

pub returns-in_ok-push_any_call-in-CallDyn : goal.returns-in_ok-push_any_call-in-CallDyn
returns-in_ok-push_any_call-in-CallDyn g c =
    let back = c.in-CallDyn.back in
    on_ok_weaker c.push_chosen-in-CallDyn.result
    (λ h. onto (choose_c (leaf_c (call_c g.plan back)) g.plan.tree) (calls-rest g.plan back) c.args.out.now c.push_any_call.new.out c.push_chosen-in-CallDyn.new.out selected_behind c.in_ok-push_any_call-in-CallDyn.ensures h
    ∙ ap (λ s. c.args.out.now ++ selected_c g.plan s) (sym c.in-CallDyn.is))
    c.push_chosen-in-CallDyn.ensures
