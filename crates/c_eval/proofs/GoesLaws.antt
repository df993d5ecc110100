-- When a step goes on, from what its definition tests.
use Rattle.std.proofs.Common.{◌≡◌, ℕ, ◌+◌, ◌<◌, Bool, true, ◌∷◌, length, ap, sym, ◌∙◌, refl, if◌then◌else◌, arith}
use Rattle.std.specs.Prelude.{slice_get, nat_lt}
use Rattle.std.proofs.lemmas.Bool.{lt-ltb}
use Rattle.lockstep.specs.Runs.{Goes}
use Rattle.c_lang.specs.declared.tree.Program.{Program}
use Rattle.c_lang.specs.declared.tree.Var.{Var}
use Rattle.c_lang.specs.declared.tree.Var.TheVariants.{ServeR, ServeE}
use Rattle.rtl_core.specs.declared.conv.Numbers.{Numbers}
use Rattle.rtl_core.specs.declared.stop.Reply.{Reply}
use Rattle.rtl_core.specs.declared.stop.Reply.TheVariants.{Exit, Value, Error}
use Rattle.rtl_core.specs.Services.{World, Served, served, result_of, error_of}
use Rattle.c_lang.specs.Value.{Vars}
use Rattle.c_lang.specs.State.{State, Place, Frame, CNext, put, stuck, to_place, declared_in}
use Rattle.c_lang.specs.Step.{assign, Found, most_frames, unless_exit, answered, with_answer}
use Rattle.c_lang.specs.Step as Step
use Rattle.c_eval.specs.Plain.{entered, with_served}

if_true : (b : Bool) (x y : CNext) → b ≡ true → x ≡ (if b then x else y)
if_true b x y e = ap (λ c. if c then x else y) (sym e)

pub assign_goes : (p : Program) (s new : State) (place : Place) (v : Var) (n : ℕ) → declared_in (slice_get p.functions s.top.function) v ≡ true →
    new ≡ put (to_place s place) v n → Goes new ≡ assign p s place v n
assign_goes p s new place v n declared e =
    ap Goes e ∙ if_true (declared_in (slice_get p.functions s.top.function) v) (Goes (put (to_place s place) v n)) (stuck p s) declared

-- the state of a call
abbrev pub over : State → Frame → State
over s top = record { top = top; below = s.top ∷ s.below; outer = s.outer }

pub enter_goes : (p : Program) (s new : State) (f : Found) (vars : Vars) (top : Frame) → length s.below < 65536 →
    top ≡ Step.frame_of f vars → new ≡ over s top → Goes new ≡ entered p s f vars
enter_goes p s new f vars top few same e =
    let less : length s.below + 1 < 65537 = omega arith in
    ap Goes (e ∙ ap (over s) same) ∙ if_true (nat_lt (length s.below + 1) most_frames) (Goes (over s (Step.frame_of f vars))) (stuck p s) (lt-ltb _ _ less)

-- two variables set, one after the other
pub two_puts : (new mid s : State) (v w : Var) (r r' e e' : ℕ) → new ≡ put mid w e' → mid ≡ put s v r' → r' ≡ r → e' ≡ e → new ≡ put (put s v r) w e
two_puts new mid s v w r r' e e' h k a b = h ∙ ap (λ x. put x w e') k ∙ ap (λ x. put (put s v x) w e') a ∙ ap (λ x. put (put s v r) w x) b

not_exit : (r : Reply) (s next : State) → ((k : ℕ) → r ≡ Exit k → ⊥) → Goes next ≡ unless_exit s r next
not_exit (Exit k) s next h = absurd (h k refl)
not_exit (Value k) s next h = refl
not_exit (Error e) s next h = refl

-- a service that is no exit
pub serve_goes : (p : Program) (s mid new : State) (r : Reply) (done : Served) → r ≡ done.reply → ((k : ℕ) → r ≡ Exit k → ⊥) →
    mid ≡ with_served s done → new ≡ put (put mid ServeR (result_of p.header.carry r)) ServeE (error_of r) →
    Goes new ≡ with_answer p s s.top.place done
serve_goes p s mid new r done same out e f =
    let last : State → Reply → State = λ t q. put (put t ServeR (result_of p.header.carry q)) ServeE (error_of q) in
    ap Goes (f ∙ ap (λ t. last t r) e ∙ ap (last (with_served s done)) same) ∙ not_exit done.reply s (answered p s s.top.place done) (λ k q. out k (same ∙ q))

pub same_served : (numbers : Numbers) (world : World) (n n' x x' y y' z z' : ℕ) → n ≡ n' → x ≡ x' → y ≡ y' → z ≡ z' →
    served numbers n x y z world ≡ served numbers n' x' y' z' world
same_served numbers world n n' x x' y y' z z' a b c d = cc
