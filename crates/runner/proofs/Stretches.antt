-- Runs of some steps, one stretch behind another.
use Rattle.std.proofs.Common.{◌≡◌, ℕ, zero, suc, ◌+◌, ◌-◌, ◌≤◌, List, [], ◌++◌, append_assoc, append-nil, Option, Some, None, Ok, Err, refl, sym, ap, ◌∙◌, arith}
use Rattle.lockstep.specs.Runs.{Goes, Ends, after}
use Rattle.lockstep.specs.Meets.{next_out}
use Rattle.lockstep.proofs.Steps.{after-Ends, after-add}
use Rattle.rtl_core.specs.declared.conv.ServiceShape.{ServiceShape}
use Rattle.rtl_core.specs.declared.inst.GroundInst.{GroundInst}
use Rattle.rtl_core.specs.declared.stop.Reply.{Reply}
use Rattle.rtl_core.specs.declared.stop.Stop.{Stop}
use Rattle.rtl_core.specs.Services.{asked}
use Rattle.rtl_core.specs.Transfers.{Ran, Went, Halted, all_transferred, fresh}
use Rattle.points.specs.declared.block.Block.{Block}
use Rattle.points.specs.declared.block.JumpKind.{JumpKind}
use Rattle.points.specs.Control.{Flow, Move}
use Rattle.points.specs.Kinds.{block_at}
use Rattle.points.specs.Running.{State, MNext, Did, step, stepped, concluded, finished, service_due, controlled, control_behind, moved, unless_exit, after_service, after_transfers, world_of}

-- ---- output only grows

-- the second begins with the first
pub record Extends (a b : List ℕ) : Type 0 where
  pub rest : List ℕ
  pub is : b ≡ a ++ rest

extends-itself : (a : List ℕ) → Extends a a
extends-itself a = record { rest = []; is = sym (append-nil a) }

extends-on : (a b c : List ℕ) → Extends a b → Extends b c → Extends a c
extends-on a b c h k = record { rest = h.rest ++ k.rest; is = k.is ∙ ap (λ o. o ++ k.rest) h.is ∙ append_assoc a h.rest k.rest }

-- the output of a place in a run
abbrev pub output_in : MNext → List ℕ
output_in x = next_out (λ s. s.output) x

module _ (f : Flow) where
  moved-grows : (move : Move) (s : State) → Extends s.output (output_in (moved move s))
  moved-grows (Ok c) s = extends-itself s.output
  moved-grows (Err stop) s = extends-itself s.output

  control-grows : (did : Did) (s : State) → Extends s.output (output_in (controlled f did s))
  control-grows did s = moved-grows (control_behind f did s.control) s

  unless-grows : (reply : Reply) (next : MNext) (s : State) → Extends s.output (output_in next) → Extends s.output (output_in (unless_exit reply next s))
  unless-grows (Reply.Exit x) next s h = extends-itself s.output
  unless-grows (Reply.Value k) next s h = h
  unless-grows (Reply.Error e) next s h = h

  finished-grows : (did : Did) (due : Option ServiceShape) (s : State) → Extends s.output (output_in (finished f did due s))
  finished-grows did None s = control-grows did s
  finished-grows did (Some shape) s =
      let done = asked f.setting.conv shape s.cells (world_of s) in
      let t = after_service f.setting shape done s in
      extends-on s.output t.output (output_in (unless_exit done.reply (controlled f did t) t)) (record { rest = done.written; is = refl })
      (unless-grows done.reply (controlled f did t) t (control-grows did t))

  concluded-grows : (inst : GroundInst) (kind : JumpKind) (r : Ran) (s : State) → Extends s.output (output_in (concluded f inst kind r s))
  concluded-grows inst kind (Halted stop d) s = extends-itself s.output
  concluded-grows inst kind (Went d) s =
      finished-grows (record { inst = inst; kind = kind; jump = d.jump; annul = d.annul }) (service_due d.service f.setting.conv.service) (after_transfers s d)

  stepped-grows : (block : Block) (s : State) → Extends s.output (output_in (stepped f block s))
  stepped-grows Block.Outside s = extends-itself s.output
  stepped-grows Block.Illegal s = extends-itself s.output
  stepped-grows (Block.Inst inst kind) s = concluded-grows inst kind (all_transferred f.setting.machine s.control.point.pc inst.transfers (fresh s.cells s.memory s.saved)) s

  -- the output n steps later begins with the output now
  grows : (n : ℕ) (x : MNext) → Extends (output_in x) (output_in (after (step f) n x))
  grows zero x = extends-itself (output_in x)
  grows (suc n) (Ends out stop) = extends-itself out
  grows (suc n) (Goes s) =
      extends-on s.output (output_in (step f s)) (output_in (after (step f) n (step f s))) (stepped-grows (block_at f.setting s.control.point.pc) s) (grows n (step f s))

  -- ---- more steps

  -- a stop within n steps is still there after them
  pub stays : (i n : ℕ) (x : MNext) (out : List ℕ) (stop : Stop) → i ≤ n → after (step f) i x ≡ Ends out stop → after (step f) n x ≡ Ends out stop
  stays i n x out stop le e =
      let same : i + (n - i) ≡ n = omega arith in
      ap (λ k. after (step f) k x) (sym same) ∙ after-add (step f) i (n - i) x ∙ ap (after (step f) (n - i)) e ∙ after-Ends (step f) (n - i) out stop

  -- the output of fewer steps is a front of that of more
  pub front-of : (i n : ℕ) (x : MNext) → i ≤ n → Extends (output_in (after (step f) i x)) (output_in (after (step f) n x))
  front-of i n x le =
      let same : i + (n - i) ≡ n = omega arith in
      let e : after (step f) n x ≡ after (step f) (n - i) (after (step f) i x) = ap (λ k. after (step f) k x) (sym same) ∙ after-add (step f) i (n - i) x in
      let later = grows (n - i) (after (step f) i x) in
      record { rest = later.rest; is = ap output_in e ∙ later.is }
