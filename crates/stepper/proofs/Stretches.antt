-- Runs of some steps, one stretch behind another.
use Rattle.std.proofs.Common.{◌≡◌, ℕ, zero, suc, ◌+◌, ◌-◌, ◌≤◌, Bool, true, false, List, [], ◌∷◌, ◌++◌, append_assoc, append-nil, length, take, Option, Some, None, refl, sym, ap, ◌∙◌, subst, arith}
use Rattle.lockstep.specs.Runs.{Goes, Ends, after}
use Rattle.lockstep.specs.Meets.{next_out}
use Rattle.lockstep.proofs.Steps.{after-Ends, after-add}
use Rattle.rtl_core.specs.declared.conv.ServiceShape.{ServiceShape}
use Rattle.rtl_core.specs.declared.inst.GroundInst.{GroundInst}
use Rattle.rtl_core.specs.declared.stop.Reply.{Reply}
use Rattle.rtl_core.specs.declared.stop.Reply.TheVariants.{Exit, Value, Error}
use Rattle.rtl_core.specs.declared.stop.Stop.{Stop}
use Rattle.rtl_core.specs.Services.{Served, asked}
use Rattle.rtl_core.specs.Transfers.{Ran, Went, Halted, all_transferred, fresh}
use Rattle.points.specs.declared.block.Standing.{Standing}
use Rattle.points.specs.declared.block.Standing.TheVariants.{Outside, Illegal, Stands}
use Rattle.points.specs.Machine.{Setting, State, MNext, Did, step, stepped, standing, concluded, finished, controlled, unless_exit, after_service, after_transfers, world_of}

-- ---- output only grows

-- the second begins with the first
pub record Extends (a b : List ℕ) : Type 0 where
  pub rest : List ℕ
  pub is : b ≡ a ++ rest

extends-itself : (a : List ℕ) → Extends a a
extends-itself a = record { rest = []; is = sym (append-nil a) }

extends-on : (a b c : List ℕ) → Extends a b → Extends b c → Extends a c
extends-on a b c h k = record { rest = h.rest ++ k.rest; is = k.is ∙ ap (λ o. o ++ k.rest) h.is ∙ append_assoc a h.rest k.rest }

-- the output of a place in a run
abbrev pub output_in : MNext → List ℕ
output_in x = next_out (λ s. s.output) x

controlled-grows : (setting : Setting) (did : Did) (s : State) (jump : Option ℕ) (annul : Bool) → did.jump ≡ jump → did.annul ≡ annul → output_in (controlled setting did s) ≡ s.output
controlled-grows setting did s None false e f = rw (e, f) refl
controlled-grows setting did s None true e f = rw (e, f) refl
controlled-grows setting did s (Some t) annul e f = rw e refl

control-grows : (setting : Setting) (did : Did) (s : State) → Extends s.output (output_in (controlled setting did s))
control-grows setting did s = subst (Extends s.output) (sym (controlled-grows setting did s did.jump did.annul refl refl)) (extends-itself s.output)

service-grows : (setting : Setting) (did : Did) (shape : ServiceShape) (done : Served) (s : State) → Extends s.output (output_in (controlled setting did (after_service setting shape done s)))
service-grows setting did shape done s =
    let later = after_service setting shape done s in
    extends-on s.output (s.output ++ done.written) (output_in (controlled setting did later)) (record { rest = done.written; is = refl }) (control-grows setting did later)

unless-grows : (s : State) (reply : Reply) (next : MNext) → Extends s.output (output_in next) → Extends s.output (output_in (unless_exit s reply next))
unless-grows s (Exit x) next h = extends-itself s.output
unless-grows s (Value k) next h = h
unless-grows s (Error e) next h = h

finished-grows : (setting : Setting) (did : Did) (due : Bool) (o : Option ServiceShape) (s : State) → Extends s.output (output_in (finished setting did due o s))
finished-grows setting did true (Some shape) s =
    let done = asked setting.conv shape s.cells (world_of s) in
    unless-grows s done.reply (controlled setting did (after_service setting shape done s)) (service-grows setting did shape done s)
finished-grows setting did true None s = control-grows setting did s
finished-grows setting did false (Some shape) s = control-grows setting did s
finished-grows setting did false None s = control-grows setting did s

concluded-grows : (setting : Setting) (inst : GroundInst) (s : State) (r : Ran) → Extends s.output (output_in (concluded setting inst s r))
concluded-grows setting inst s (Halted stop d) = extends-itself s.output
concluded-grows setting inst s (Went d) = finished-grows setting (record { inst = inst; jump = d.jump; annul = d.annul }) d.service setting.conv.service (after_transfers s d)

stepped-grows : (setting : Setting) (s : State) (stands : Standing) → Extends s.output (output_in (stepped setting s stands))
stepped-grows setting s Outside = extends-itself s.output
stepped-grows setting s Illegal = extends-itself s.output
stepped-grows setting s (Stands inst) = concluded-grows setting inst s (all_transferred setting.machine s.point.pc inst.transfers (fresh s.cells s.memory s.saved))

-- the output n steps later begins with the output now
pub grows : (setting : Setting) (n : ℕ) (x : MNext) → Extends (output_in x) (output_in (after (step setting) n x))
grows setting zero x = extends-itself (output_in x)
grows setting (suc n) (Ends out stop) = extends-itself out
grows setting (suc n) (Goes s) =
    extends-on s.output (output_in (step setting s)) (output_in (after (step setting) n (step setting s))) (stepped-grows setting s (standing setting s.point.pc)) (grows setting n (step setting s))

-- ---- a front of the output

pub take-front : (a b : List ℕ) → take (length a) (a ++ b) ≡ a
take-front [] b = refl
take-front (x ∷ a) b = ap (λ xs. x ∷ xs) (take-front a b)

-- ---- more steps

-- a stop within n steps is still there after them
pub stays : (setting : Setting) (i n : ℕ) (x : MNext) (out : List ℕ) (stop : Stop) → i ≤ n → after (step setting) i x ≡ Ends out stop → after (step setting) n x ≡ Ends out stop
stays setting i n x out stop le e =
    let same : i + (n - i) ≡ n = omega arith in
    ap (λ k. after (step setting) k x) (sym same) ∙ after-add (step setting) i (n - i) x ∙ ap (after (step setting) (n - i)) e ∙ after-Ends (step setting) (n - i) out stop

-- the output of fewer steps is a front of that of more
pub front-of : (setting : Setting) (i n : ℕ) (x : MNext) → i ≤ n → Extends (output_in (after (step setting) i x)) (output_in (after (step setting) n x))
front-of setting i n x le =
    let same : i + (n - i) ≡ n = omega arith in
    let e : after (step setting) n x ≡ after (step setting) (n - i) (after (step setting) i x) = ap (λ k. after (step setting) k x) (sym same) ∙ after-add (step setting) i (n - i) x in
    let later = grows setting (n - i) (after (step setting) i x) in
    record { rest = later.rest; is = ap output_in e ∙ later.is }
