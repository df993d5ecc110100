use Rattle.std.proofs.Common.{◌∙◌, ap, sym}
use Rattle.c_eval.specs.Plain.{state_of, place_of, at_end}
use Rattle.c_eval.proofs.ends.way.Goals as goal

pub returns-in-Nowhere : goal.returns-in-Nowhere
returns-in-Nowhere c = λ p m. ap (λ q. at_end p (state_of c.args.state.now m) (place_of q)) (sym c.in-Nowhere.is)

pub returns-in-At : goal.returns-in-At
returns-in-At c = λ p m. c.way_of.ensures p m ∙ ap (λ q. at_end p (state_of c.args.state.now m) (place_of q)) (sym c.in-At.is)
