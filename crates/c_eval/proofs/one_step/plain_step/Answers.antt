use Rattle.std.proofs.Common.{◌≡◌, List, sym}
use Rattle.std.proofs.lemmas.Result.{IfOk-weaker}
use Rattle.rtl_core.specs.Contents.{Contents}
use Rattle.c_lang.specs.declared.tree.End.{End}
use Rattle.c_lang.specs.declared.tree.Stmt.{Stmt}
use Rattle.c_lang.specs.State.{State, At}
use Rattle.c_lang.specs.Step.{step, done}
use Rattle.c_eval.specs.Plain.{state_of, moment, at_end}
use Rattle.c_eval.proofs.StepPlaces.{step_ends, step_acts}
use Rattle.c_eval.proofs.one_step.plain_step.Goals as goal

pub returns-in-None-clause-step : goal.returns-in-None-clause-step
returns-in-None-clause-step g c =
    let p = c.args.program.now in
    let m = g.M.Memory.contents c.args.mem.now in
    let s = state_of c.args.state.now m in
    let mid : Contents → State = state_of c.next_statement.new.state in
    let new : Contents → State = state_of c.finish.new.state in
    IfOk-weaker c.finish.result
    (λ t. (n : Contents) → moment t p (mid n) (new n) ≡ at_end p (mid n) (mid n).top.place)
    (λ t. moment t p s (new m) ≡ step p s)
    (λ t h. step_ends p s (mid m) (new m) t (sym c.in-None.ensures.statement) (c.next_statement.ensures.state m) (h m)) c.finish.ensures

pub returns-in-Some-clause-step : goal.returns-in-Some-clause-step
returns-in-Some-clause-step g c =
    let p = c.args.program.now in
    let m = g.M.Memory.contents c.args.mem.now in
    let s = state_of c.args.state.now m in
    let mid = state_of c.next_statement.new.state m in
    let new = state_of c.act.new.state (g.M.Memory.contents c.act.new.mem) in
    let x = c.in-Some.statement in
    IfOk-weaker c.act.result
    (λ t. (rest : List Stmt) (end : End) → mid.top.place ≡ At rest end → moment t p mid new ≡ done p mid x rest end)
    (λ t. moment t p s new ≡ step p s)
    (λ t h. step_acts p s mid new t x (sym c.in-Some.ensures.statement) (c.next_statement.ensures.state m) h) c.act.ensures.step
