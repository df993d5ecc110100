use Rattle.std.proofs.Common.{◌≡◌}
use Rattle.std.proofs.lemmas.Result.{IfOk-weaker}
use Rattle.rtl_core.specs.Contents.{Contents}
use Rattle.rtl_core.specs.Services.{result_of, error_of}
use Rattle.c_lang.specs.declared.tree.Var.TheVariants.{ServeR, ServeE}
use Rattle.c_lang.specs.State.{put}
use Rattle.c_eval.specs.Plain.{state_of}
use Rattle.c_eval.proofs.GoesLaws.{two_puts}
use Rattle.c_eval.proofs.services.put_answer.Goals as goal

pub returns : goal.returns
returns c =
    let r = result_of c.args.program.now.header.carry c.args.answer in
    let e = error_of c.args.answer in
    IfOk-weaker c.put_var-2.result
    (λ u. (m : Contents) → state_of c.put_var-2.new.state m ≡ put (state_of c.put_var.new.state m) ServeE c.error_value.result)
    (λ u. (m : Contents) → state_of c.put_var-2.new.state m ≡ put (put (state_of c.args.state.now m) ServeR r) ServeE e)
    (λ u h m. two_puts (state_of c.put_var-2.new.state m) (state_of c.put_var.new.state m) (state_of c.args.state.now m)
    ServeR ServeE r c.result_value.result e c.error_value.result (h m) (c.in_ok-put_var.ensures m) c.result_value.ensures c.error_value.ensures)
    c.put_var-2.ensures
