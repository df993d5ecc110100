use Rattle.std.proofs.Common.{ℕ, ◌∙◌, ap, sym}
use Rattle.lockstep.specs.Runs.{Goes}
use Rattle.c_lang.specs.State.{Place, CNext, At, to_place}
use Rattle.c_lang.specs.Step.{done, with_value, with_values, assign, load_into, store_at, take_word, put_word, serve, called}
use Rattle.c_lang.proofs.StepLaws.{done-Set, done-Load, done-Store, done-TakeW, done-PutW, done-Serve, done-Call, done-If, done-Stop}
use Rattle.c_eval.specs.Plain.{state_of, in_front}
use Rattle.c_eval.proofs.StepPlaces.{carried, carried_at, carried_for}
use Rattle.c_eval.proofs.one_step.act.Goals as goal

pub returns-in-Set-clause-step : goal.returns-in-Set-clause-step
returns-in-Set-clause-step g c =
    let p = c.args.program.now in
    let m = g.M.Memory.contents c.args.mem.now in
    let old = state_of c.args.state.now in
    let s = old m in
    carried_at c.set.result p old (state_of c.set.new.state) m c.args.statement.now
    (λ n q. with_value p (old n) c.in-Set.e (assign p (old n) q c.in-Set.v))
    (λ rest end. ap (λ x. done p s x rest end) c.in-Set.is ∙ done-Set p s c.in-Set.v c.in-Set.e rest end) c.set.ensures

pub returns-in-Load-clause-step : goal.returns-in-Load-clause-step
returns-in-Load-clause-step g c =
    let p = c.args.program.now in
    let m = g.M.Memory.contents c.args.mem.now in
    let old = state_of c.args.state.now in
    let s = old m in
    carried c.load_by.result p s (state_of c.load_by.new.state m) c.args.statement.now
    (λ q. with_value p s c.in-Load.e (load_into p s q c.in-Load.v c.in-Load.n))
    (λ rest end. ap (λ x. done p s x rest end) c.in-Load.is ∙ done-Load p s c.in-Load.v c.in-Load.n c.in-Load.e rest end) c.load_by.ensures

pub returns-in-Store-clause-step : goal.returns-in-Store-clause-step
returns-in-Store-clause-step g c =
    let p = c.args.program.now in
    let m = g.M.Memory.contents c.args.mem.now in
    let old = state_of c.args.state.now in
    let s = old m in
    λ rest end place.
    let f : Place → CNext = λ q. with_value p s c.in-Store.a (λ (at : ℕ). with_value p s c.in-Store.e (store_at p s q c.in-Store.n at)) in
    c.store_by.ensures.step ∙ ap f place
    ∙ sym (ap (λ x. done p s x rest end) c.in-Store.is ∙ done-Store p s c.in-Store.n c.in-Store.a c.in-Store.e rest end)

pub returns-in-TakeW-clause-step : goal.returns-in-TakeW-clause-step
returns-in-TakeW-clause-step g c =
    let p = c.args.program.now in
    let m = g.M.Memory.contents c.args.mem.now in
    let old = state_of c.args.state.now in
    let s = old m in
    carried_at c.take_by.result p old (state_of c.take_by.new.state) m c.args.statement.now
    (λ n q. with_value p (old n) c.in-TakeW.e (take_word p (old n) q c.in-TakeW.v))
    (λ rest end. ap (λ x. done p s x rest end) c.in-TakeW.is ∙ done-TakeW p s c.in-TakeW.v c.in-TakeW.e rest end) c.take_by.ensures

pub returns-in-PutW-clause-step : goal.returns-in-PutW-clause-step
returns-in-PutW-clause-step g c =
    let p = c.args.program.now in
    let m = g.M.Memory.contents c.args.mem.now in
    let old = state_of c.args.state.now in
    let s = old m in
    carried_for c.put_by.result p old (state_of c.put_by.new.state) m c.args.statement.now
    (λ r n q. with_value r (old n) c.in-PutW.i (λ (at : ℕ). with_value r (old n) c.in-PutW.e (put_word r (old n) q at)))
    (λ rest end. ap (λ x. done p s x rest end) c.in-PutW.is ∙ done-PutW p s c.in-PutW.i c.in-PutW.e rest end) c.put_by.ensures

pub returns-in-Serve-clause-step : goal.returns-in-Serve-clause-step
returns-in-Serve-clause-step g c =
    let p = c.args.program.now in
    let m = g.M.Memory.contents c.args.mem.now in
    let old = state_of c.args.state.now in
    let s = old m in
    carried c.serve_by.result p s (state_of c.serve_by.new.state (g.M.Memory.contents c.serve_by.new.mem)) c.args.statement.now
    (λ q. with_value p s c.in-Serve.n (λ (n' : ℕ). with_value p s c.in-Serve.x (λ (x' : ℕ). with_value p s c.in-Serve.y (λ (y' : ℕ). with_value p s c.in-Serve.z (serve p s q n' x' y')))))
    (λ rest end. ap (λ x. done p s x rest end) c.in-Serve.is ∙ done-Serve p s c.in-Serve.n c.in-Serve.x c.in-Serve.y c.in-Serve.z rest end) c.serve_by.ensures.step

pub returns-in-Call-clause-step : goal.returns-in-Call-clause-step
returns-in-Call-clause-step g c =
    let p = c.args.program.now in
    let m = g.M.Memory.contents c.args.mem.now in
    let old = state_of c.args.state.now in
    let s = old m in
    carried_at c.call_by.result p old (state_of c.call_by.new.state) m c.args.statement.now
    (λ n q. with_values p (old n) c.as_slice.result.now (called p (old n) q c.in-Call.entry))
    (λ rest end. ap (λ x. done p s x rest end) c.in-Call.is ∙ done-Call p s c.in-Call.entry c.in-Call.es rest end ∙ ap (λ es. with_values p s es (called p s (At rest end) c.in-Call.entry)) (sym c.as_slice.ensures)) c.call_by.ensures

pub returns-in-If-clause-step : goal.returns-in-If-clause-step
returns-in-If-clause-step g c =
    let p = c.args.program.now in
    let m = g.M.Memory.contents c.args.mem.now in
    let old = state_of c.args.state.now in
    let s = old m in
    carried_for c.choose.result p old (state_of c.choose.new.state) m c.args.statement.now
    (λ r n q. with_value r (old n) c.in-If.e (λ (k : ℕ). Goes (to_place (old n) (in_front k c.as_slice-in-If.result.now q))))
    (λ rest end. ap (λ x. done p s x rest end) c.in-If.is ∙ done-If p s c.in-If.e c.in-If.body rest end ∙ ap (λ b. with_value p s c.in-If.e (λ (k : ℕ). Goes (to_place s (in_front k b (At rest end))))) (sym c.as_slice-in-If.ensures)) c.choose.ensures

pub returns-in-Stop-clause-step : goal.returns-in-Stop-clause-step
returns-in-Stop-clause-step g c =
    let p = c.args.program.now in
    let m = g.M.Memory.contents c.args.mem.now in
    let old = state_of c.args.state.now in
    let s = old m in
    λ rest end place. c.stop_by.ensures p m s
    ∙ sym (ap (λ x. done p s x rest end) c.in-Stop.is ∙ done-Stop p s c.in-Stop.k c.in-Stop.e rest end)
