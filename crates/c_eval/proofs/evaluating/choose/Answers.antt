use Rattle.std.proofs.Common.{◌≡◌, ◌∙◌, ℕ, Option, Some, ap}
use Rattle.lockstep.specs.Runs.{Goes}
use Rattle.c_lang.specs.declared.tree.CExpr.{CExpr}
use Rattle.c_lang.specs.declared.tree.Program.{Program}
use Rattle.c_lang.specs.Value.{value}
use Rattle.c_lang.specs.State.{State, Place, seen_vars, to_place}
use Rattle.c_lang.specs.Step.{given, with_value}
use Rattle.c_eval.specs.Plain.{state_of, in_front}
use Rattle.c_eval.proofs.evaluating.choose.Goals as goal

goes_on : (p : Program) (s new : State) (e : CExpr) (n : ℕ) (f : ℕ → Place) → Some n ≡ value (seen_vars s) e → new ≡ to_place s (f n) →
    Goes new ≡ with_value p s e (λ k. Goes (to_place s (f k)))
goes_on p s new e n f has h = ap Goes h ∙ ap (λ (o : Option ℕ). given p s o (λ k. Goes (to_place s (f k)))) has

pub returns-in_ok-put_unless_zero-in-Some : goal.returns-in_ok-put_unless_zero-in-Some
returns-in_ok-put_unless_zero-in-Some c = λ p m.
    let s = state_of c.args.state.now m in
    goes_on p s (state_of c.put_unless_zero.new.state m) c.args.e.now c.in-Some.n (λ k. in_front k c.args.body.now s.top.place)
    c.in-Some.ensures (c.in_ok-put_unless_zero-in-Some.ensures m)
