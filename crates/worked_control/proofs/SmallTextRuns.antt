-- The run of the small text, computed.
use Rattle.std.proofs.Common.{◌≡◌, ℕ, List, [], ◌∷◌, refl, ap, ◌∙◌}
use Rattle.std.specs.Prelude.{unwrap_or}
use Rattle.lockstep.specs.Runs.{Running, Stopped, Goes, Ends, Stops, after, target_view}
use Rattle.rtl_core.specs.declared.stop.Stop.TheVariants.{Exit}
use Rattle.rtl_core.specs.FirstMemory.{Block}
use Rattle.rtl_core.specs.Services.{served}
use Rattle.c_lang.specs.declared.tree.CExpr.TheVariants.{Num, Of}
use Rattle.c_lang.specs.declared.tree.End.{End}
use Rattle.c_lang.specs.declared.tree.End.TheVariants.{Goto}
use Rattle.c_lang.specs.declared.tree.Stmt.{Stmt}
use Rattle.c_lang.specs.declared.tree.Stmt.TheVariants.{Set, Serve}
use Rattle.c_lang.specs.declared.tree.Var.TheVariants.{Ra, Cell, ServeR, ServeE}
use Rattle.c_lang.specs.Value.{Vars}
use Rattle.c_lang.specs.State.{State, CNext, At, with_var}
use Rattle.c_lang.specs.Step.{step, ended, go_to, cells_set, no_vars}
use Rattle.c_lang.specs.Run.{c_run, first_state, first_outer, no_return}
use Rattle.c_lang.proofs.ValueLaws.{value-Num, value-Of}
use Rattle.c_lang.proofs.StepLaws.{done-Set, done-Serve}
use Rattle.worked_control.specs.SmallText.{small_text, at, cells_up, TextExitsWithThree}

module _ (block : Block) (input : List ℕ) where
  -- the first function at some statements, with these variables
  abbrev here : List Stmt → End → Vars → State
  here rest end vars = record { top = record { function = 0; place = At rest end; vars = vars }; below = []; outer = first_outer small_text block input }

  -- the parameters
  abbrev vars0 : Vars
  vars0 = with_var (unwrap_or (cells_set (cells_up 1 32) small_text.first) no_vars) Ra no_return

  abbrev vars1 : Vars
  vars1 = with_var vars0 (Cell 1) 1

  abbrev vars2 : Vars
  vars2 = with_var vars1 (Cell 8) 3

  -- the statements of the third block
  abbrev serving : List Stmt
  serving = Serve (Of (Cell 1)) (Of (Cell 8)) (Of (Cell 9)) (Of (Cell 10)) ∷ Set (Cell 8) (Of ServeR) ∷ Set (Cell 32) (Of ServeE) ∷ []

  started : first_state small_text block input ≡ Goes (here (Set (Cell 1) (Num 1) ∷ []) (Goto (at 0x10004)) vars0)
  started = refl

  set_one : step small_text (here (Set (Cell 1) (Num 1) ∷ []) (Goto (at 0x10004)) vars0) ≡ Goes (here [] (Goto (at 0x10004)) vars1)
  set_one = rw (done-Set, value-Num)

  to_second : step small_text (here [] (Goto (at 0x10004)) vars1) ≡ Goes (here (Set (Cell 8) (Num 3) ∷ []) (Goto (at 0x10008)) vars1)
  unfolding ended go_to
  to_second = refl

  set_eight : step small_text (here (Set (Cell 8) (Num 3) ∷ []) (Goto (at 0x10008)) vars1) ≡ Goes (here [] (Goto (at 0x10008)) vars2)
  set_eight = rw (done-Set, value-Num)

  to_third : step small_text (here [] (Goto (at 0x10008)) vars2) ≡ Goes (here serving (Goto (at 0x1000C)) vars2)
  unfolding ended go_to
  to_third = refl

  exit : step small_text (here serving (Goto (at 0x1000C)) vars2) ≡ Ends [] (Stops (Exit 3))
  unfolding served
  exit = rw (done-Serve, value-Of, value-Of, value-Of, value-Of)

  -- what is seen k steps behind one step
  seen : (k : ℕ) {a b : CNext} → a ≡ b → target_view (λ s. s.outer.output) (after (step small_text) k a) ≡ target_view (λ s. s.outer.output) (after (step small_text) k b)
  seen k e = ap (λ x. target_view (λ s. s.outer.output) (after (step small_text) k x)) e

  runs_on : c_run small_text block input 4 ≡ Running []
  runs_on = seen 4 started ∙ seen 3 set_one ∙ seen 2 to_second ∙ seen 1 set_eight ∙ seen 0 to_third

  exits : c_run small_text block input 5 ≡ Stopped [] (Exit 3)
  exits = seen 5 started ∙ seen 4 set_one ∙ seen 3 to_second ∙ seen 2 set_eight ∙ seen 1 to_third ∙ seen 0 exit

pub text_exits_with_three : TextExitsWithThree
text_exits_with_three block input = (runs_on block input, exits block input)
