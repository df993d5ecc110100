use Rattle.std.proofs.Common.{◌≡◌, ◌∙◌}
use Rattle.std.proofs.lemmas.Result.{IfOk-weaker}
use Rattle.rtl_core.specs.Contents.{Contents}
use Rattle.c_lang.specs.Step.{go_to}
use Rattle.c_eval.specs.Plain.{state_of, moment, at_end}
use Rattle.c_eval.proofs.ends.finish.Goals as goal

pub returns-in-On : goal.returns-in-On
returns-in-On c =
    let p = c.args.program.now in
    let old = state_of c.args.state.now in
    let new = state_of c.go_to.new.state in
    IfOk-weaker c.go_to.result
    (λ t. (m : Contents) → moment t p (old m) (new m) ≡ go_to p (old m) c.in-On.to)
    (λ t. (m : Contents) → moment t p (old m) (new m) ≡ at_end p (old m) (old m).top.place)
    (λ t h m. h m ∙ c.in-On.ensures p m) c.go_to.ensures

pub returns-in-Back : goal.returns-in-Back
returns-in-Back c = λ m. c.return_to_caller.ensures c.args.program.now m ∙ c.in-Back.ensures c.args.program.now m

pub returns-in-Over : goal.returns-in-Over
returns-in-Over c = λ m. c.in-Over.ensures c.args.program.now m
