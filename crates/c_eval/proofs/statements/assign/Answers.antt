use Rattle.std.proofs.Common.{sym, ◌∙◌}
use Rattle.c_eval.specs.Plain.{state_of, place_of}
use Rattle.c_eval.proofs.GoesLaws.{assign_goes}
use Rattle.c_eval.proofs.statements.assign.Goals as goal

pub returns : goal.returns
returns c = λ m. assign_goes c.args.program.now (state_of c.args.state.now m) (state_of c.put_var.new.state m) (place_of c.args.state.now.top.place) c.args.v c.args.n
    (sym c.is_declared.ensures ∙ c.if-not-is_declared.false) (c.in_ok-put_var.ensures m)
