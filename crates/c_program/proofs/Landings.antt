-- Entering a procedure: by its summary, and before a rest.
use Rattle.std.proofs.Common.{◌≡◌, ℕ, ◌+◌, ◌*◌, ◌^◌, List, [], ◌∷◌, ◌++◌, refl, sym, ap, ◌∙◌, Option}
use Rattle.std.specs.List.{All}
use Rattle.points.specs.declared.graph.Summary.{Summary}
use Rattle.points.specs.Kinds.{second}
use Rattle.c_lang.specs.declared.tree.COp.TheVariants.{Ne}
use Rattle.c_lang.specs.declared.tree.CExpr.TheVariants.{Num, Of, Bin}
use Rattle.c_lang.specs.declared.tree.Stmt.{Stmt}
use Rattle.c_lang.specs.declared.tree.Stmt.TheVariants.{If, Stop, Call as CallOf}
use Rattle.c_lang.specs.declared.tree.Var.TheVariants.{Pt}
use Rattle.c_control.specs.Choice.{Tree, Leaf, Node, choose_c}
use Rattle.c_control.specs.Plans.{Plan, pad_by, ra_of}
use Rattle.c_control.specs.Pieces.{deeper_c, shallower_c, take_c, arguments_c, call_c, leaf_c, undiscovered_stop}
use Rattle.c_program.specs.declared.entering.Manner.TheVariants.{Call}
use Rattle.c_program.specs.Entered.{IsEntered, entered_c}
use Rattle.c_program.specs.Shown.{IsSummaryOf}
use Rattle.c_program.proofs.CellLists.{take-rest}

module _ (plan : Plan) where
  -- a call of the procedure of a summary
  pub called : (back ra : ℕ) (s : Summary) → ra_of plan.flow.setting back ≡ ra → IsSummaryOf plan s → call_c plan back s.entry [] ≡ entered_c (Call ra) s []
  called back ra s is own =
      ap (λ r. deeper_c (CallOf s.entry (Num r ∷ arguments_c (plan.refs s.entry)) ∷ shallower_c (take_c (plan.mods s.entry) []))) is
      ∙ ap (λ r. deeper_c (CallOf s.entry (Num ra ∷ arguments_c r) ∷ shallower_c (take_c (plan.mods s.entry) []))) own.refs
      ∙ ap (λ r. deeper_c (CallOf s.entry (Num ra ∷ arguments_c s.refs) ∷ shallower_c (take_c r []))) own.mods

  pub each-called : (back ra : ℕ) (sums : List Summary) → ra_of plan.flow.setting back ≡ ra → All (IsSummaryOf plan) sums → All (IsEntered (call_c plan back) (Call ra)) sums
  each-called back ra sums is owns k d within = record { is = called back ra _ is (owns k d within) }

  -- `ra` of a call, by the second return point
  pub address-is : (back ra : ℕ) (far : Option ℕ) → second plan.flow.setting back ≡ far → ra ≡ back + 2 ^ 33 * pad_by back far → ra_of plan.flow.setting back ≡ ra
  address-is back ra far is made = ap (λ o. back + 2 ^ 33 * pad_by back o) is ∙ sym made

-- ---- before a rest

module _ (leaf : ℕ → List Stmt → List Stmt) (law : (t : ℕ) (r : List Stmt) → leaf t r ≡ leaf t [] ++ r) where
  pub leaf-rest : (t : ℕ) (r : List Stmt) → leaf_c leaf t r ≡ leaf_c leaf t [] ++ r
  leaf-rest t r = ap (λ l. If (Bin Ne (Of Pt) (Num t)) (Stop undiscovered_stop (Of Pt) ∷ []) ∷ l) (law t r)

  pub choose-rest : (t : Tree) (r : List Stmt) → choose_c leaf t r ≡ choose_c leaf t [] ++ r
  choose-rest (Leaf e) r = law e r
  choose-rest (Node m low high) r = refl

pub call-rest : (plan : Plan) (back t : ℕ) (r : List Stmt) → call_c plan back t r ≡ call_c plan back t [] ++ r
call-rest plan back t r = ap (λ l. deeper_c (CallOf t (Num (ra_of plan.flow.setting back) ∷ arguments_c (plan.refs t)) ∷ shallower_c l)) (take-rest (plan.mods t) r)

-- so before a rest
pub calls-rest : (plan : Plan) (back : ℕ) (r : List Stmt) → choose_c (leaf_c (call_c plan back)) plan.tree r ≡ choose_c (leaf_c (call_c plan back)) plan.tree [] ++ r
calls-rest plan back r = choose-rest (leaf_c (call_c plan back)) (leaf-rest (call_c plan back) (call-rest plan back)) plan.tree r
