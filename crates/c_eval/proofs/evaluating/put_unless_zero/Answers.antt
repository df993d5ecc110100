use Rattle.std.proofs.Common.{◌≡◌}
use Rattle.std.proofs.lemmas.Result.{on_ok_weaker}
use Rattle.rtl_core.specs.Contents.{Contents}
use Rattle.c_lang.specs.State.{to_place}
use Rattle.c_eval.specs.Plain.{state_of, in_front}
use Rattle.c_eval.proofs.PlainLaws.{none_put, some_put}
use Rattle.c_eval.proofs.evaluating.put_unless_zero.Goals as goal

pub returns-then-n-eq0 : goal.returns-then-n-eq0
returns-then-n-eq0 c = λ m. none_put (state_of c.args.state.now m) c.args.n c.args.body.now c.if-n-eq0.true

pub returns : goal.returns
returns c =
    let copied = c.in_ok-stmts.stmts in
    on_ok_weaker c.put_in_front.result
    (λ (h : (m : Contents) → state_of c.put_in_front.new.state m ≡ to_place (state_of c.args.state.now m) (in_front 1 copied (state_of c.args.state.now m).top.place)) (m : Contents).
    some_put (state_of c.args.state.now m) (state_of c.put_in_front.new.state m) c.args.n copied c.args.body.now c.if-n-eq0.false c.in_ok-stmts.ensures (h m))
    c.put_in_front.ensures
