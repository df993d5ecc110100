-- What the definition of a step says at each branch of the code.
use Rattle.std.proofs.Common.{◌≡◌, ℕ, ◌+◌, ◌^◌, ◌%◌, Bool, true, false, true≢false, List, [], ◌++◌, append-nil, Option, Some, None, refl, sym, ap, ◌∙◌, subst}
use Rattle.std.specs.Prelude.{◌&&◌, ◌<◌, is_some, All}
use Rattle.std.proofs.Math.Nat.{mod-lt}
use Rattle.std.proofs.lemmas.Nat.{pow_pos}
use Rattle.lockstep.specs.Runs.{Ends}
use Rattle.rtl_core.specs.declared.conv.ServiceShape.{ServiceShape}
use Rattle.rtl_core.specs.declared.inst.GroundInst.{GroundInst}
use Rattle.rtl_core.specs.declared.stop.Stop.{Stop}
use Rattle.rtl_core.specs.Code.{code_from}
use Rattle.rtl_core.specs.Grounding.{grounded}
use Rattle.rtl_core.specs.Matching.{Taken, instruction}
use Rattle.rtl_core.specs.Services.{asked}
use Rattle.rtl_core.specs.SoundMachine.{IsSoundMachine}
use Rattle.rtl_core.specs.SoundTerms.{IsSoundTransfer}
use Rattle.rtl_core.proofs.GroundsSound.{grounds_sound}
use Rattle.rtl_core.specs.Transfers.{Doing, Went, Halted, all_transferred, fresh}
use Rattle.sled_match.specs.declared.matched.MatchedInst.{MatchedInst}
use Rattle.decode.specs.At.{found, found_in, found_at}
use Rattle.decode.specs.declared.Found.{Found}
use Rattle.points.specs.Machine.{Setting, State, MNext, Did, step, stepped, stops, performed, concluded, finished, controlled, after_transfers, with_answer, world_of, match_standing, code_standing, ground_standing}

-- ---- what stands at the point

-- where the step leads from what was found at the point
abbrev IsStep : Setting → State → Found → MNext → Type 0
IsStep setting s Found.Outside next = next ≡ stops s (Stop.Undiscovered s.point.pc)
IsStep setting s Found.Illegal next = next ≡ stops s (Stop.Illegal s.point.pc)
IsStep setting s (Found.Inst f) next = next ≡ stepped setting s (ground_standing (grounded setting.machine f.inst s.point.pc ((s.point.pc + f.len) % 2 ^ 32)))

of-match : (setting : Setting) (s : State) (o : Option Taken) → IsStep setting s (found o) (stepped setting s (match_standing setting.machine s.point.pc o))
of-match setting s None = refl
of-match setting s (Some t) = refl

of-code : (setting : Setting) (s : State) (o : Option (List ℕ)) → IsStep setting s (found_in setting.encodings o) (stepped setting s (code_standing setting s.point.pc o))
of-code setting s None = refl
of-code setting s (Some bytes) = of-match setting s (instruction setting.encodings bytes)

of-found : (setting : Setting) (s : State) (f : Found) → f ≡ found_at setting.encodings setting.frozen s.point.pc → IsStep setting s f (step setting s)
of-found setting s f e = subst (λ x. IsStep setting s x (step setting s)) (sym e) (of-code setting s (code_from setting.frozen s.point.pc))

-- a stop with this output
abbrev stopped : List ℕ → Stop → MNext
stopped out stop = Ends out stop

-- a stop with nothing more written
pub stop-here : (before more : List ℕ) (stop : Stop) → more ≡ [] → stopped (before ++ more) stop ≡ stopped before stop
stop-here before more stop e = ap (λ o. stopped o stop) (ap (λ m. before ++ m) e ∙ append-nil before)

module _ (setting : Setting) (s : State) (more : List ℕ) (none : more ≡ []) where
  pub step-outside : Found.Outside ≡ found_at setting.encodings setting.frozen s.point.pc → Ends (s.output ++ more) (Stop.Undiscovered s.point.pc) ≡ step setting s
  step-outside e = stop-here s.output more (Stop.Undiscovered s.point.pc) none ∙ sym (of-found setting s Found.Outside e)

  pub step-illegal : Found.Illegal ≡ found_at setting.encodings setting.frozen s.point.pc → Ends (s.output ++ more) (Stop.Illegal s.point.pc) ≡ step setting s
  step-illegal e = stop-here s.output more (Stop.Illegal s.point.pc) none ∙ sym (of-found setting s Found.Illegal e)

  pub step-unground : (f : MatchedInst) → Found.Inst f ≡ found_at setting.encodings setting.frozen s.point.pc → None ≡ grounded setting.machine f.inst s.point.pc ((s.point.pc + f.len) % 2 ^ 32)
      → Ends (s.output ++ more) (Stop.Illegal s.point.pc) ≡ step setting s
  step-unground f e g = stop-here s.output more (Stop.Illegal s.point.pc) none ∙ ap (λ o. stepped setting s (ground_standing o)) g ∙ sym (of-found setting s (Found.Inst f) e)

-- an instruction that was matched and has all put in is performed
pub step-ground : (setting : Setting) (s : State) (f : MatchedInst) (inst : GroundInst) → Found.Inst f ≡ found_at setting.encodings setting.frozen s.point.pc
    → Some inst ≡ grounded setting.machine f.inst s.point.pc ((s.point.pc + f.len) % 2 ^ 32) → performed setting inst s ≡ step setting s
step-ground setting s f inst e g = ap (λ o. stepped setting s (ground_standing o)) g ∙ sym (of-found setting s (Found.Inst f) e)

-- and its transfers are sound
pub ground-sound : (setting : Setting) (pc : ℕ) (f : MatchedInst) (inst : GroundInst) → IsSoundMachine setting.machine → pc < 2 ^ 32
    → Some inst ≡ grounded setting.machine f.inst pc ((pc + f.len) % 2 ^ 32) → All (IsSoundTransfer setting.machine) inst.transfers
ground-sound setting pc f inst sound small g =
    (grounds_sound setting.machine f.inst pc ((pc + f.len) % 2 ^ 32) inst sound small (mod-lt (pc + f.len) (pow_pos 32)) (sym g)).each

-- ---- behind the transfers

-- the transfers stopped
pub performed-halts : (setting : Setting) (inst : GroundInst) (s : State) (stop : Stop) (d : Doing) (more : List ℕ) → more ≡ []
    → all_transferred setting.machine s.point.pc inst.transfers (fresh s.cells s.memory s.saved) ≡ Halted stop d → Ends (s.output ++ more) stop ≡ performed setting inst s
performed-halts setting inst s stop d more none e = stop-here s.output more stop none ∙ sym (ap (concluded setting inst s) e)

-- they all were done
pub performed-went : (setting : Setting) (inst : GroundInst) (s : State) (d : Doing)
    → all_transferred setting.machine s.point.pc inst.transfers (fresh s.cells s.memory s.saved) ≡ Went d
    → finished setting (record { inst = inst; jump = d.jump; annul = d.annul }) d.service setting.conv.service (after_transfers s d) ≡ performed setting inst s
performed-went setting inst s d e = sym (ap (concluded setting inst s) e)

-- ---- the service

-- one is due
pub finished-serves : (setting : Setting) (did : Did) (due : Bool) (o : Option ServiceShape) (s : State) (next : MNext) → (due && is_some o) ≡ true
    → ((shape : ServiceShape) → o ≡ Some shape → next ≡ with_answer setting did shape (asked setting.conv shape s.cells (world_of s)) s) → next ≡ finished setting did due o s
finished-serves setting did true (Some shape) s next h at = at shape refl
finished-serves setting did true None s next h at = absurd (true≢false (sym h))
finished-serves setting did false (Some shape) s next h at = absurd (true≢false (sym h))
finished-serves setting did false None s next h at = absurd (true≢false (sym h))

-- its shape
pub due-shape : {P : Type 0} (due : Bool) (o : Option ServiceShape) → (due && is_some o) ≡ true → ((shape : ServiceShape) → o ≡ Some shape → P) → P
due-shape true (Some shape) h at = at shape refl
due-shape true None h at = absurd (true≢false (sym h))
due-shape false (Some shape) h at = absurd (true≢false (sym h))
due-shape false None h at = absurd (true≢false (sym h))

-- none is due
pub finished-plain : (setting : Setting) (did : Did) (due : Bool) (o : Option ServiceShape) (s : State) → (due && is_some o) ≡ false → controlled setting did s ≡ finished setting did due o s
finished-plain setting did true (Some shape) s h = absurd (true≢false h)
finished-plain setting did true None s h = refl
finished-plain setting did false (Some shape) s h = refl
finished-plain setting did false None s h = refl
