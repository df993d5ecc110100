-- The runs of the worked programs, computed.
use Rattle.std.proofs.Common.{◌≡◌, ℕ, suc, true, List, [], Some, refl, ◌∙◌}
use Rattle.std.specs.Prelude.{map}
use Rattle.std.specs.List.{list_all}
use Rattle.lockstep.specs.Runs.{View, Running, Stopped, Goes, after, machine_view}
use Rattle.rtl_core.specs.declared.stop.Stop.{Stop}
use Rattle.rtl_core.specs.declared.stop.Stop.TheVariants.{Trap, Couple, ReturnMismatch, Undiscovered}
use Rattle.rtl_core.specs.Arithmetic.{binary, unary}
use Rattle.rtl_core.specs.Code.{code_from}
use Rattle.rtl_core.specs.Contents.{Contents}
use Rattle.rtl_core.specs.Matching.{type_taken}
use Rattle.points.specs.Kinds.{block_at}
use Rattle.points.specs.Running.{first_state}
use Rattle.worked_control.specs.WorkedMachine.{entry, Program, setting_of, flow_of, StopsBehind}
use Rattle.worked_control.specs.WorkedPrograms.{SlotIsDone, UntakenPassesSlot, AnnulledJumpPassesSlot, JumpInSlot, Couples, CallReturns, SiblingIsAJump, OtherReturnStops, ReturnPastPad, ComputedCall, TableLeads, TailReturns, Undelayed, RunsOff}
use Rattle.worked_control.proofs.Computed.{run-is, step_at}
use Rattle.worked_control.proofs.Placed.{taken_of, is_small, matches, placed}

-- what is seen of a program's run, by the step that computes
abbrev pub seen : Program → ℕ → Contents → List ℕ → View Stop
seen p n memory input =
    let f = flow_of p in
    machine_view (λ s. s.output) (after (step_at p f.is_procedure f.table) n (Goes (first_state (setting_of p) memory entry input)))

-- the program's instructions are matched
abbrev pub Stands : Program → Type 0
Stands p = (list_all is_small p.ops ≡ true) × (matches p entry p.ops ≡ map (λ op. Some (taken_of op)) p.ops)

-- so many instructions go on, and the next one stops
abbrev pub Seen : Program → ℕ → Stop → Type 0
Seen p n why = (memory : Contents) (input : List ℕ) → (seen p n memory input ≡ Running []) × (seen p (suc n) memory input ≡ Stopped [] why)

pub stops-behind : (p : Program) (n : ℕ) (why : Stop) → Stands p → Seen p n why → StopsBehind p n why
stops-behind p n why stands s =
    let f = flow_of p in
    let at = placed p entry p.ops stands.0 stands.1 in
    record {
      runs = λ memory input. run-is p f.is_procedure f.table at memory input n ∙ (s memory input).0;
      stops = λ memory input. run-is p f.is_procedure f.table at memory input (suc n) ∙ (s memory input).1;
    }

pub slot_is_done : SlotIsDone
unfolding code_from type_taken binary unary
slot_is_done = record {
  jumps = stops-behind _ _ (Trap 1) (refl, refl) (λ memory input. (refl, refl));
  taken = stops-behind _ _ (Trap 1) (refl, refl) (λ memory input. (refl, refl));
  untaken = stops-behind _ _ (Trap 0x123) (refl, refl) (λ memory input. (refl, refl));
  before = stops-behind _ _ (Trap 0) (refl, refl) (λ memory input. (refl, refl));
}

pub untaken_passes_slot : UntakenPassesSlot
unfolding code_from type_taken binary unary
untaken_passes_slot = stops-behind _ _ (Trap 2) (refl, refl) (λ memory input. (refl, refl))

pub annulled_jump_passes_slot : AnnulledJumpPassesSlot
unfolding code_from type_taken binary unary
annulled_jump_passes_slot = stops-behind _ _ (Trap 0) (refl, refl) (λ memory input. (refl, refl))

pub jump_in_slot : JumpInSlot
unfolding code_from type_taken binary unary
jump_in_slot = record {
  jumps = stops-behind _ _ (Trap 0x59) (refl, refl) (λ memory input. (refl, refl));
  annulled = stops-behind _ _ (Trap 9) (refl, refl) (λ memory input. (refl, refl));
  untaken = stops-behind _ _ (Trap 0x579) (refl, refl) (λ memory input. (refl, refl));
  passed = stops-behind _ _ (Trap 0x79) (refl, refl) (λ memory input. (refl, refl));
  three = stops-behind _ _ (Trap 9) (refl, refl) (λ memory input. (refl, refl));
}

pub couples_stop : Couples
unfolding code_from type_taken binary unary
couples_stop = record {
  calls = stops-behind _ _ (Couple 0x1004) (refl, refl) (λ memory input. (refl, refl));
  calls_aim = stops-behind _ _ (Couple 0x1004) (refl, refl) (λ memory input. (refl, refl));
  returns = stops-behind _ _ (Couple 0x1004) (refl, refl) (λ memory input. (refl, refl));
  goes = stops-behind _ _ (Couple 0x1004) (refl, refl) (λ memory input. (refl, refl));
  in_call = stops-behind _ _ (Couple 0x1004) (refl, refl) (λ memory input. (refl, refl));
  two_calls = stops-behind _ _ (Couple 0x1004) (refl, refl) (λ memory input. (refl, refl));
  in_return = stops-behind _ _ (Couple 0x1004) (refl, refl) (λ memory input. (refl, refl));
  in_go = stops-behind _ _ (Couple 0x1008) (refl, refl) (λ memory input. (refl, refl));
  annuls = stops-behind _ _ (Couple 0x1004) (refl, refl) (λ memory input. (refl, refl));
  untaken = stops-behind _ _ (Trap 0) (refl, refl) (λ memory input. (refl, refl));
}

pub call_returns : CallReturns
unfolding code_from type_taken binary unary
call_returns = stops-behind _ _ (Trap 0x1234) (refl, refl) (λ memory input. (refl, refl))

pub sibling_is_a_jump : SiblingIsAJump
unfolding code_from type_taken binary unary
sibling_is_a_jump = record {
  sibling = stops-behind _ _ (Trap 0x1235) (refl, refl) (λ memory input. (refl, refl));
  inner = stops-behind _ _ (ReturnMismatch 0x1008) (refl, refl) (λ memory input. (refl, refl));
  computed = stops-behind _ _ (Trap 0x1235) (refl, refl) (λ memory input. (refl, refl));
}

pub other_return_stops : OtherReturnStops
unfolding code_from type_taken binary unary
other_return_stops = record {
  other = stops-behind _ _ (ReturnMismatch 0x100C) (refl, refl) (λ memory input. (refl, refl));
  entry = stops-behind _ _ (ReturnMismatch 8) (refl, refl) (λ memory input. (refl, refl));
  twice = stops-behind _ _ (ReturnMismatch 0x1008) (refl, refl) (λ memory input. (refl, refl));
}

pub return_past_pad : ReturnPastPad
unfolding code_from type_taken binary unary
return_past_pad = record {
  past = stops-behind _ _ (Trap 0x123) (refl, refl) (λ memory input. (refl, refl));
  bare = stops-behind _ _ (ReturnMismatch 0x100C) (refl, refl) (λ memory input. (refl, refl));
  itself = stops-behind _ _ (Trap 0xDEAD) (refl, refl) (λ memory input. (refl, refl));
}

pub computed_call : ComputedCall
unfolding code_from type_taken binary unary
computed_call = record {
  enters = stops-behind _ _ (Trap 0x1234) (refl, refl) (λ memory input. (refl, refl));
  misses = stops-behind _ _ (Undiscovered 0x1014) (refl, refl) (λ memory input. (refl, refl));
}

pub table_leads : TableLeads
unfolding code_from type_taken binary unary
table_leads = record {
  first = stops-behind _ _ (Trap 0x12) (refl, refl) (λ memory input. (refl, refl));
  second = stops-behind _ _ (Trap 0x13) (refl, refl) (λ memory input. (refl, refl));
  third = stops-behind _ _ (Trap 0x14) (refl, refl) (λ memory input. (refl, refl));
  none = stops-behind _ _ (Undiscovered 0x100C) (refl, refl) (λ memory input. (refl, refl));
  kept = stops-behind _ _ (Trap 2) (refl, refl) (λ memory input. (refl, refl));
}

pub tail_returns : TailReturns
unfolding code_from type_taken binary unary
tail_returns = record {
  once = stops-behind _ _ (Trap 0x12345) (refl, refl) (λ memory input. (refl, refl));
  twice = stops-behind _ _ (Trap 0x12345) (refl, refl) (λ memory input. (refl, refl));
  misses = stops-behind _ _ (Undiscovered 0x1020) (refl, refl) (λ memory input. (refl, refl));
  alone = stops-behind _ _ (ReturnMismatch 8) (refl, refl) (λ memory input. (refl, refl));
}

pub undelayed_control : Undelayed
unfolding code_from type_taken binary unary
undelayed_control = record {
  jumps = stops-behind _ _ (Trap 0) (refl, refl) (λ memory input. (refl, refl));
  annuls = stops-behind _ _ (Trap 0x12) (refl, refl) (λ memory input. (refl, refl));
  both = stops-behind _ _ (Trap 0) (refl, refl) (λ memory input. (refl, refl));
  calls = stops-behind _ _ (Trap 0) (refl, refl) (λ memory input. (refl, refl));
  returns = stops-behind _ _ (Trap 0x12) (refl, refl) (λ memory input. (refl, refl));
  relinks = stops-behind _ _ (Trap 1) (refl, refl) (λ memory input. (refl, refl));
  past_pad = stops-behind _ _ (Trap 0x12) (refl, refl) (λ memory input. (refl, refl));
  mismatches = stops-behind _ _ (ReturnMismatch 4) (refl, refl) (λ memory input. (refl, refl));
  misses = stops-behind _ _ (Undiscovered 0x2000) (refl, refl) (λ memory input. (refl, refl));
  computed = stops-behind _ _ (Trap 0x12) (refl, refl) (λ memory input. (refl, refl));
  tail = stops-behind _ _ (Trap 0x123) (refl, refl) (λ memory input. (refl, refl));
}

pub runs_off : RunsOff
unfolding block_at code_from type_taken binary unary
runs_off = stops-behind _ _ (Undiscovered 0x1008) (refl, refl) (λ memory input. (refl, refl))
