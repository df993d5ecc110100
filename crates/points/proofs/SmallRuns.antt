-- The run of the small program, computed.
use Rattle.std.proofs.Common.{◌≡◌, ℕ, List, [], ◌∷◌, Some, None, refl, ◌∙◌, ap, drop}
use Rattle.lockstep.specs.Runs.{Running, Stopped, Goes, Ends, after, machine_view}
use Rattle.rtl_core.specs.declared.stop.Stop.TheVariants.{Exit}
use Rattle.rtl_core.specs.declared.expr.Expr.TheVariants as Expr
use Rattle.rtl_core.specs.declared.expr.Bin.TheVariants.{Or}
use Rattle.rtl_core.specs.declared.inst.GroundInst.{GroundInst}
use Rattle.rtl_core.specs.declared.point.Slot.TheVariants.{Seq}
use Rattle.std.specs.Prelude.{slice_set}
use Rattle.rtl_core.specs.declared.transfer.Act.TheVariants as Act
use Rattle.rtl_core.specs.Arithmetic.{binary}
use Rattle.rtl_core.specs.Code.{code_from}
use Rattle.rtl_core.specs.FirstMemory.{first_cells}
use Rattle.rtl_core.specs.Grounding.{grounded, chosen_read}
use Rattle.rtl_core.specs.Matching.{type_taken, instruction}
use Rattle.rtl_core.specs.Services.{served}
use Rattle.rtl_core.specs.Terms.{term_of, Binary, Cell, Sext, Const}
use Rattle.rtl_core.proofs.GroundLaws.{ground_laws}
use Rattle.rtl_core.proofs.TermLaws.{term_laws}
use Rattle.points.specs.Machine.{State, Setting, MNext, machine_run, matched, step, performed, first_state}
use Rattle.points.proofs.StepLaws.{step-inst}
use Rattle.points.specs.SmallMachine.{ExitsWithThree, small_setting, small_conv, small_entry, small_machine, small_encodings, exit_code}
use Rattle.rtl_core.specs.Contents.{Contents}

-- `or` of register 0 and a constant, with all put in
abbrev or_inst : ℕ → ℕ → ℕ → GroundInst
or_inst next target n =
    record { constructor = 0; next = next; transfers = record { guard = None; act = Act.SetCell target (Expr.Bin Or (Expr.Cell 0) (Expr.Sext 32 (Expr.Const 13 n))) } ∷ [] }

term_or : (n : ℕ) → term_of (Expr.Bin Or (Expr.Cell 0) (Expr.Sext 32 (Expr.Const 13 n))) ≡ Binary Or (Cell 0) (Sext 32 (Const 13 n))
term_or n = simp term_laws

abbrev setting : Setting
setting = small_setting exit_code

-- the second service constructor has no operands
abbrev service_inst : GroundInst
service_inst = record { constructor = 1; next = 0x1000C; transfers = record { guard = None; act = Act.Service } ∷ [] }

code_first : code_from setting.frozen 0x10000 ≡ Some exit_code
unfolding code_from
code_first = refl

code_second : code_from setting.frozen 0x10004 ≡ Some (drop 4 exit_code)
unfolding code_from
code_second = refl

code_third : code_from setting.frozen 0x10008 ≡ Some (drop 8 exit_code)
unfolding code_from
code_third = refl

found_first : instruction small_encodings exit_code ≡ Some (record { constructor = 0; leaves = 0 ∷ 1 ∷ 1 ∷ []; len = 4 })
unfolding type_taken
found_first = refl

found_second : instruction small_encodings (drop 4 exit_code) ≡ Some (record { constructor = 0; leaves = 0 ∷ 3 ∷ 8 ∷ []; len = 4 })
unfolding type_taken
found_second = refl

found_third : instruction small_encodings (drop 8 exit_code) ≡ Some (record { constructor = 1; leaves = []; len = 4 })
unfolding type_taken
found_third = refl

ground_first : matched small_machine 0x10000 (record { constructor = 0; leaves = 0 ∷ 1 ∷ 1 ∷ []; len = 4 }) ≡ Some (or_inst 0x10004 1 1)
unfolding grounded chosen_read
ground_first = simp ground_laws

ground_second : matched small_machine 0x10004 (record { constructor = 0; leaves = 0 ∷ 3 ∷ 8 ∷ []; len = 4 }) ≡ Some (or_inst 0x10008 8 3)
unfolding grounded chosen_read
ground_second = simp ground_laws

ground_third : matched small_machine 0x10008 (record { constructor = 1; leaves = []; len = 4 }) ≡ Some service_inst
unfolding grounded chosen_read
ground_third = refl

module _ (memory : Contents) (input : List ℕ) where
  abbrev first : State
  first = first_state setting memory small_entry input

  abbrev second : State
  second = record first { point = record { pc = 0x10004; slot = Seq }; cells = slice_set (first_cells small_machine small_conv) 1 1 }

  abbrev third : State
  third = record first { point = record { pc = 0x10008; slot = Seq }; cells = slice_set (slice_set (first_cells small_machine small_conv) 1 1) 8 3 }

  performed_first : performed setting (or_inst 0x10004 1 1) first ≡ Goes second
  unfolding binary
  performed_first = rw (term_or 1)

  performed_second : performed setting (or_inst 0x10008 8 3) second ≡ Goes third
  unfolding binary
  performed_second = rw (term_or 3)

  performed_third : performed setting service_inst third ≡ Ends [] (Exit 3)
  unfolding served
  performed_third = refl

  step_first : step setting first ≡ Goes second
  step_first = step-inst setting first exit_code _ _ code_first found_first ground_first ∙ performed_first

  step_second : step setting second ≡ Goes third
  step_second = step-inst setting second (drop 4 exit_code) _ _ code_second found_second ground_second ∙ performed_second

  step_third : step setting third ≡ Ends [] (Exit 3)
  step_third = step-inst setting third (drop 8 exit_code) _ _ code_third found_third ground_third ∙ performed_third

  -- what is seen n steps behind one step
  seen : (n : ℕ) {a b : MNext} → a ≡ b → machine_view (λ s. s.output) (after (step setting) n a) ≡ machine_view (λ s. s.output) (after (step setting) n b)
  seen n e = ap (λ x. machine_view (λ s. s.output) (after (step setting) n x)) e

  runs_on : machine_run setting memory small_entry input 2 ≡ Running []
  runs_on = seen 1 step_first ∙ seen 0 step_second

  exits : machine_run setting memory small_entry input 3 ≡ Stopped [] (Exit 3)
  exits = seen 2 step_first ∙ seen 1 step_second ∙ seen 0 step_third

pub exits_with_three : ExitsWithThree
exits_with_three memory input = (runs_on memory input, exits memory input)
