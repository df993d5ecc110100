-- A step does not look at the place of the state, once the place is taken apart.
use Rattle.std.proofs.Common.{◌≡◌, List, [], ◌∷◌, None, Some, refl, sym, ap, ◌∙◌}
use Rattle.std.specs.Prelude.{Result, IfOk}
use Rattle.std.proofs.lemmas.Result.{IfOk-weaker}
use Rattle.rtl_core.specs.Contents.{Contents}
use Rattle.c_lang.specs.declared.tree.End.{End}
use Rattle.c_lang.specs.declared.tree.End.TheVariants.{Goto, Branch, Switch, Return, Finish}
use Rattle.c_lang.specs.declared.tree.Program.{Program}
use Rattle.c_lang.specs.declared.tree.Stmt.{Stmt, out-Stmt}
use Rattle.c_lang.specs.declared.tree.Stmt.TheOpen.{Stmt-F}
use Rattle.c_lang.specs.State.{State, CNext, Place, Nowhere, At, to_place}
use Rattle.c_lang.specs.Step.{step, step_at, ended, go_to, done, done_at}
use Rattle.c_eval.specs.declared.state.Taken.{Taken}
use Rattle.c_eval.specs.declared.state.Taken.TheVariants.{Went, Stops, Sticks}
use Rattle.c_eval.specs.Plain.{moment, next_of, behind, at_end}

moment_anywhere : (t : Taken) (p : Program) (s new : State) (q : Place) → moment t p (to_place s q) new ≡ moment t p s new
moment_anywhere Went p s new q = refl
moment_anywhere (Stops stop) p s new q = refl
moment_anywhere Sticks p s new q = refl

ended_anywhere : (p : Program) (s : State) (q : Place) (end : End) → ended p (to_place s q) end ≡ ended p s end
unfolding ended go_to
ended_anywhere p s q (Goto to) = refl
ended_anywhere p s q (Branch e first second) = refl
ended_anywhere p s q (Switch e cases k other) = refl
ended_anywhere p s q Return = refl
ended_anywhere p s q (Finish k e) = refl

done_at_anywhere : (p : Program) (s : State) (q : Place) (x : Stmt-F Stmt) (rest : List Stmt) (end : End) →
    done_at p (to_place s q) x rest end ≡ done_at p s x rest end
done_at_anywhere p s q (Stmt-F.Set v e) rest end = refl
done_at_anywhere p s q (Stmt-F.Load v n e) rest end = refl
done_at_anywhere p s q (Stmt-F.Store n a e) rest end = refl
done_at_anywhere p s q (Stmt-F.TakeW v e) rest end = refl
done_at_anywhere p s q (Stmt-F.PutW i e) rest end = refl
done_at_anywhere p s q (Stmt-F.Serve n x y z) rest end = refl
done_at_anywhere p s q (Stmt-F.Call entry es) rest end = refl
done_at_anywhere p s q (Stmt-F.If e body) rest end = refl
done_at_anywhere p s q (Stmt-F.Stop k e) rest end = refl

done_anywhere : (p : Program) (s : State) (q : Place) (x : Stmt) (rest : List Stmt) (end : End) → done p (to_place s q) x rest end ≡ done p s x rest end
unfolding done
done_anywhere p s q x rest end = done_at_anywhere p s q (out-Stmt x) rest end

-- the step where no statement is left, from what is done there behind the place
ends_from : (p : Program) (s new : State) (t : Taken) (q : Place) → next_of q ≡ None →
    moment t p (to_place s (behind q)) new ≡ at_end p (to_place s (behind q)) (behind q) → moment t p s new ≡ step_at p s q
ends_from p s new t Nowhere none h = sym (moment_anywhere t p s new Nowhere) ∙ h
ends_from p s new t (At [] end) none h = sym (moment_anywhere t p s new (At [] end)) ∙ h ∙ ended_anywhere p s (At [] end) end
ends_from p s new t (At (x ∷ rest) end) none h = cc

-- the same, from the state that stands there
pub step_ends : (p : Program) (s mid new : State) (t : Taken) → next_of s.top.place ≡ None → mid ≡ to_place s (behind s.top.place) →
    moment t p mid new ≡ at_end p mid mid.top.place → moment t p s new ≡ step p s
step_ends p s mid new t none e h =
    ends_from p s new t s.top.place none (ap (λ x. moment t p x new) (sym e) ∙ h ∙ ap (λ x. at_end p x x.top.place) e)

-- the step at a statement, from what the statement does behind its place
acts_from : (p : Program) (s new : State) (t : Taken) (q : Place) (x : Stmt) → next_of q ≡ Some x →
    ((rest : List Stmt) (end : End) → behind q ≡ At rest end → moment t p (to_place s (behind q)) new ≡ done p (to_place s (behind q)) x rest end) →
    moment t p s new ≡ step_at p s q
acts_from p s new t Nowhere x some go = cc
acts_from p s new t (At [] end) x some go = cc
acts_from p s new t (At (y ∷ rest) end) x some go =
    let same : y ≡ x = cc in
    sym (moment_anywhere t p s new (At rest end)) ∙ go rest end refl ∙ done_anywhere p s (At rest end) x rest end ∙ ap (λ z. done p s z rest end) (sym same)

-- the same, from the state that stands there
pub step_acts : (p : Program) (s mid new : State) (t : Taken) (x : Stmt) → next_of s.top.place ≡ Some x → mid ≡ to_place s (behind s.top.place) →
    ((rest : List Stmt) (end : End) → mid.top.place ≡ At rest end → moment t p mid new ≡ done p mid x rest end) → moment t p s new ≡ step p s
step_acts p s mid new t x some e go =
    acts_from p s new t s.top.place x some
    (λ rest end place. ap (λ y. moment t p y new) (sym e) ∙ go rest end (ap (λ y. y.top.place) e ∙ place) ∙ ap (λ y. done p y x rest end) e)

-- what a call told of a statement at a place is told of it behind the place
pub carried : {E : Type 0} (r : Result Taken E) (p : Program) (s new : State) (x : Stmt) (f : Place → CNext) →
    ((rest : List Stmt) (end : End) → done p s x rest end ≡ f (At rest end)) →
    IfOk r (λ t. moment t p s new ≡ f s.top.place) →
    IfOk r (λ t. (rest : List Stmt) (end : End) → s.top.place ≡ At rest end → moment t p s new ≡ done p s x rest end)
carried r p s new x f law h =
    IfOk-weaker r (λ t. moment t p s new ≡ f s.top.place) (λ t. (rest : List Stmt) (end : End) → s.top.place ≡ At rest end → moment t p s new ≡ done p s x rest end)
    (λ t k rest end place. k ∙ ap f place ∙ sym (law rest end)) h

-- the same at one memory, of what was told for all
pub carried_at : {E : Type 0} (r : Result Taken E) (p : Program) (old new : Contents → State) (m : Contents) (x : Stmt) (f : Contents → Place → CNext) →
    ((rest : List Stmt) (end : End) → done p (old m) x rest end ≡ f m (At rest end)) →
    IfOk r (λ t. (n : Contents) → moment t p (old n) (new n) ≡ f n (old n).top.place) →
    IfOk r (λ t. (rest : List Stmt) (end : End) → (old m).top.place ≡ At rest end → moment t p (old m) (new m) ≡ done p (old m) x rest end)
carried_at r p old new m x f law h =
    carried r p (old m) (new m) x (f m) law
    (IfOk-weaker r (λ t. (n : Contents) → moment t p (old n) (new n) ≡ f n (old n).top.place) (λ t. moment t p (old m) (new m) ≡ f m (old m).top.place) (λ t k. k m) h)

-- and for one program
pub carried_for : {E : Type 0} (r : Result Taken E) (p : Program) (old new : Contents → State) (m : Contents) (x : Stmt) (f : Program → Contents → Place → CNext) →
    ((rest : List Stmt) (end : End) → done p (old m) x rest end ≡ f p m (At rest end)) →
    IfOk r (λ t. (q : Program) (n : Contents) → moment t q (old n) (new n) ≡ f q n (old n).top.place) →
    IfOk r (λ t. (rest : List Stmt) (end : End) → (old m).top.place ≡ At rest end → moment t p (old m) (new m) ≡ done p (old m) x rest end)
carried_for r p old new m x f law h =
    carried r p (old m) (new m) x (f p m) law
    (IfOk-weaker r (λ t. (q : Program) (n : Contents) → moment t q (old n) (new n) ≡ f q n (old n).top.place) (λ t. moment t p (old m) (new m) ≡ f p m (old m).top.place) (λ t k. k p m) h)
