-- What the text of a plan looks like, whatever it is run on. That a program has no other function and no other block, and that
-- no cell is declared besides the parameters, is for what builds the program to say.
use Rattle.std.specs.Prelude.{◌≡◌, ℕ, List, [], ◌∷◌, length, map, slice_get, Some}
use Rattle.rtl_core.specs.declared.point.Point.{Point}
use Rattle.rtl_core.specs.declared.point.Slot.TheVariants.{Seq}
use Rattle.rtl_core.specs.FirstMemory.{Part}
use Rattle.points.specs.Courses.{point}
use Rattle.points.specs.Bodies.{code_of, LeadsTo, Body, Procedure}
use Rattle.c_lang.specs.declared.tree.Case.{Case}
use Rattle.c_lang.specs.declared.tree.CBlock.{CBlock}
use Rattle.c_lang.specs.declared.tree.End.{End}
use Rattle.c_lang.specs.declared.tree.End.TheVariants.{Goto, Branch, Switch, Return, Finish}
use Rattle.c_lang.specs.declared.tree.Function.{Function}
use Rattle.c_lang.specs.declared.tree.Program.{Program}
use Rattle.c_lang.specs.State.{At}
use Rattle.c_lang.specs.Step.{first_place, block_of}
use Rattle.c_control.specs.Blocks.{code_at, further_c}
use Rattle.c_control.specs.Plans.{Plan}
use Rattle.c_control.specs.Programs.{IsPlanned, header_of, segment_of}

-- P holds of the label of each case
abbrev pub AllCases : (Point → Type 0) → List Case → Type 0
AllCases P [] = Unit {0}
AllCases P (c ∷ cases) = P c.to × AllCases P cases

-- P holds of each label that an end can lead to
abbrev pub AllLead : (Point → Type 0) → End → Type 0
AllLead P (Goto to) = P to
AllLead P (Branch e first other) = P first × P other
AllLead P (Switch e cases k other) = AllCases P cases
AllLead P Return = Unit {0}
AllLead P (Finish k e) = Unit {0}

-- where the block of a point of p can go on: at a successor of the point, or at the further block of the point
pub data GoesOn (plan : Plan) (p : ℕ) (b : Point) : Point → Type 0 where
  leads : {to : Point} → LeadsTo (code_of plan.flow.setting plan.flow.table) b to → GoesOn plan p b to
  further : {more : CBlock} → further_c plan p b ≡ Some more → GoesOn plan p b more.label

-- the block of a point of p stands under the label of that point, is the code of the point, and goes on only where it can
pub record HasBlock (plan : Plan) (p : ℕ) (blocks : List CBlock) (b : Point) : Type 0 where
  pub block : CBlock
  pub there : block_of blocks b ≡ Some block
  pub label : block.label ≡ b
  pub stmts : block.stmts ≡ (code_at plan p b).stmts
  pub end : block.end ≡ (code_at plan p b).end
  pub leads : AllLead (GoesOn plan p b) block.end

-- the function of p stands at its address, gets exactly the cells that p gets, begins with the block of the first point of p,
-- and has a block for each point of the body of p, and its further block where it has one
pub record IsFunctionOf (plan : Plan) (p : ℕ) (f : Function) : Type 0 where
  pub entry : f.entry ≡ p
  pub params : f.params ≡ plan.refs p
  pub begins : first_place f.blocks ≡ At (code_at plan p (point p Seq)).stmts (code_at plan p (point p Seq)).end
  pub blocks : (b : Point) → Body (code_of plan.flow.setting plan.flow.table) p b → HasBlock plan p f.blocks b
  pub further : (b : Point) (more : CBlock) → Body (code_of plan.flow.setting plan.flow.table) p b → further_c plan p b ≡ Some more → block_of f.blocks more.label ≡ Some more

-- the program has that function
pub record HasFunctionOf (plan : Plan) (program : Program) (p : ℕ) : Type 0 where
  pub index : ℕ
  pub function : Function
  pub there : slice_get program.functions index ≡ Some function
  pub is : IsFunctionOf plan p function

-- each procedure has its function, under its address, and the run begins in that of the entry with the cells that it gets; header
-- and segments are those of the machine, its conventions and the image
pub record HasShape (plan : Plan) (roots : List ℕ) (parts : List Part) (entry : ℕ) (program : Program) : Type 0 where
  pub functions : (p : ℕ) → Procedure (code_of plan.flow.setting plan.flow.table) roots p → HasFunctionOf plan program p
  pub starts : program.entry ≡ entry
  pub starts_in : Procedure (code_of plan.flow.setting plan.flow.table) roots entry
  pub first : length program.first ≡ length (plan.refs entry)
  pub header : program.header ≡ header_of plan.flow.setting.machine plan.flow.setting.conv
  pub segments : program.segments ≡ map segment_of parts

-- the text of a plan has this shape
abbrev pub PlannedHasShape : Type 0
PlannedHasShape = (plan : Plan) (roots : List ℕ) (parts : List Part) (entry : ℕ) (program : Program) → IsPlanned plan roots parts entry program → HasShape plan roots parts entry program
