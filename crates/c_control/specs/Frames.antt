-- When a state of the C text stands for a state of the machine: the function on top, and each frame that waits for it.
use Rattle.std.specs.Prelude.{◌≡◌, ℕ, ◌+◌, ◌*◌, ◌^◌, ◌<◌, ◌≤◌, true, List, [], ◌∷◌, length, slice_index, Some}
use Rattle.lockstep.specs.Runs.{Goes, after}
use Rattle.lockstep.specs.Meets.{Matches}
use Rattle.rtl_core.specs.declared.machine.Machine.{Machine}
use Rattle.rtl_core.specs.declared.point.Slot.{Slot}
use Rattle.rtl_core.specs.declared.point.Slot.TheVariants.{Seq, To, CallTo}
use Rattle.rtl_core.specs.FirstMemory.{Part, Block, first_memory}
use Rattle.rtl_core.specs.Windows.{most_windows}
use Rattle.points.specs.declared.block.Member.{Member}
use Rattle.points.specs.declared.block.Member.TheVariants.{Call, Tail}
use Rattle.points.specs.Machine.{Setting}
use Rattle.points.specs.Kinds.{second}
use Rattle.points.specs.Courses.{point}
use Rattle.points.specs.Control.{most_calls}
use Rattle.points.specs.Bodies.{code_of, Body, Procedure}
use Rattle.points.specs.Running.{State, first_state, world_of}
use Rattle.points.specs.Running as Running
use Rattle.c_lang.specs.declared.tree.End.{End}
use Rattle.c_lang.specs.declared.tree.End.TheVariants.{Return}
use Rattle.c_lang.specs.declared.tree.Program.{Program}
use Rattle.c_lang.specs.declared.tree.Stmt.{Stmt}
use Rattle.c_lang.specs.declared.tree.Var.TheVariants.{Ra, Pt, Cell, Wn, Depth}
use Rattle.c_lang.specs.Value.{Vars}
use Rattle.c_lang.specs.State.{Place, At, Frame, Outer, has}
use Rattle.c_lang.specs.State as C
use Rattle.c_lang.specs.Run as CRun
use Rattle.c_lang.specs.Step as CStep
use Rattle.c_lower.specs.Contract.{AreWords, AreWindows}
use Rattle.c_control.specs.Blocks.{code_at}
use Rattle.c_control.specs.Pieces.{shallower_c, take_c, give_c, without}
use Rattle.c_control.specs.Plans.{Plan, ra_of, no_return}
use Rattle.c_control.specs.Programs.{HasFunction, IsPlanned, bound}

-- ---- variables

-- the variables of these cells hold the machine's numbers
abbrev pub Agree : (some cells : List ℕ) → Vars → Type 0
Agree some cells vars = (c : ℕ) → has some c ≡ true → vars (Cell c) ≡ Some (slice_index cells c)

-- the `ra` of the function on top: that of the last call that is open, and no address where none is; a tail jump passes on what it got
abbrev pub top_ra : Setting → List Member → ℕ
top_ra setting [] = no_return
top_ra setting (Call back ∷ calls) = ra_of setting back
top_ra setting (Tail ∷ calls) = top_ra setting calls

-- `pt` holds the kept target where what is to come asks for it: a computed jump or call, or a return
abbrev pub HoldsTarget : Slot → Vars → ℕ → Type 0
HoldsTarget Seq vars target = Unit {0}
HoldsTarget (To t) vars target = Unit {0}
HoldsTarget (CallTo t back) vars target = Unit {0}
HoldsTarget slot vars target = (vars Pt ≡ Some target) × (target < 2 ^ 32)

-- what all functions share is the machine's: the saved windows, memory, the rest of the input, the break, and the output
pub record HoldsWorld (m : Machine) (s : State) (outer : Outer) : Type 0 where
  pub count : outer.globals Wn ≡ Some (length s.saved)
  pub few : length s.saved ≤ most_windows
  pub words : AreWords outer.words s.saved
  pub windows : AreWindows m.windows s.saved
  pub world : outer.world ≡ world_of s
  pub output : outer.output ≡ s.output

-- ---- frames that wait

-- q stands behind its call of t: with one call less open it takes what t hands back, and each point that the call may come
-- back to is one of its own
pub record IsBehindCall (plan : Plan) (q t back : ℕ) (place : Place) : Type 0 where
  pub rest : List Stmt
  pub end : End
  pub is : place ≡ At (shallower_c (take_c (plan.mods t) rest)) end
  pub near : Body (code_of plan.flow.setting plan.flow.table) q (point back Seq)
  pub far : (s : ℕ) → second plan.flow.setting back ≡ Some s → Body (code_of plan.flow.setting plan.flow.table) q (point s Seq)

-- q stands behind its tail jump into t: with one call less open it hands back what t has not, and returns
pub record IsBehindTail (plan : Plan) (q t : ℕ) (place : Place) : Type 0 where
  pub rest : List Stmt
  pub is : place ≡ At (shallower_c (give_c (without (plan.mods q) (plan.mods t)) rest)) Return

-- q stands behind what has put this member on the call list
abbrev pub StandsBehind : Plan → (q t : ℕ) → Member → Place → Type 0
StandsBehind plan q t (Call back) place = IsBehindCall plan q t back place
StandsBehind plan q t Tail place = IsBehindTail plan q t place

-- the frame of q waits for the procedure t, which was entered with the member k when `calls` were open: it is a call of the
-- function of q, stands behind its call of t, and has the `ra` of those calls; it agrees with the machine on the cells that q
-- gets but for those that t hands back, and q hands back all that t does
pub record Waits (plan : Plan) (roots : List ℕ) (program : Program) (cells : List ℕ) (t q : ℕ) (k : Member) (calls : List Member) (f : Frame) : Type 0 where
  pub fn : HasFunction plan program q
  pub procedure : Procedure (code_of plan.flow.setting plan.flow.table) roots q
  pub function_is : f.function ≡ fn.found.index
  pub stands : StandsBehind plan q t k f.place
  pub ra_is : f.vars Ra ≡ Some (top_ra plan.flow.setting calls)
  pub agree : (c : ℕ) → has (plan.refs q) c ≡ true → (has (plan.mods t) c ≡ true → ⊥) → f.vars (Cell c) ≡ Some (slice_index cells c)
  pub mods_in : (c : ℕ) → has (plan.mods t) c ≡ true → has (plan.mods q) c ≡ true

-- below a call of t one frame waits for each member of the call list, the first one for t and each further one for the one above it
pub data AllWait (plan : Plan) (roots : List ℕ) (program : Program) (cells : List ℕ) : ℕ → List Member → List Frame → Type 0 where
  none : {t : ℕ} → AllWait plan roots program cells t [] []
  more : {t q : ℕ} {k : Member} {calls : List Member} {f : Frame} {frames : List Frame} → Waits plan roots program cells t q k calls f → AllWait plan roots program cells q calls frames → AllWait plan roots program cells t (k ∷ calls) (f ∷ frames)

-- ---- states

-- the C stands for the machine: on top is a call of the function of a procedure q whose body has the machine's point, at the
-- block of that point; its cells are the machine's on all that q gets, `uq_depth` counts the call list, and the frames below wait
pub record StandsFor (plan : Plan) (roots : List ℕ) (program : Program) (s : State) (c : C.State) : Type 0 where
  pub q : ℕ
  pub fn : HasFunction plan program q
  pub procedure : Procedure (code_of plan.flow.setting plan.flow.table) roots q
  pub inside : Body (code_of plan.flow.setting plan.flow.table) q s.control.point
  pub function_is : c.top.function ≡ fn.found.index
  pub place : c.top.place ≡ At (code_at plan q s.control.point).stmts (code_at plan q s.control.point).end
  pub agree : Agree (plan.refs q) s.cells c.top.vars
  pub ra_is : c.top.vars Ra ≡ Some (top_ra plan.flow.setting s.control.calls)
  pub target : HoldsTarget s.control.point.slot c.top.vars s.control.target
  pub depth : c.outer.globals Depth ≡ Some (length s.control.calls)
  pub few : length s.control.calls ≤ most_calls
  pub below : AllWait plan roots program s.cells q s.control.calls c.below
  pub world : HoldsWorld plan.flow.setting.machine s c.outer

-- ---- runs

-- where the machine is after n instructions, with this block in its first memory
abbrev pub machine_at : Plan → List Part → (entry : ℕ) → Block → List ℕ → ℕ → Running.MNext
machine_at plan parts entry block input n =
    after (Running.step plan.flow) n (Goes (first_state plan.flow.setting (first_memory parts plan.flow.setting.conv block) entry input))

-- where the C text is after k steps
abbrev pub c_at : Program → Block → List ℕ → ℕ → C.CNext
c_at program block input k = after (CStep.step program) k (CRun.first_state program block input)

-- the frames stay right: after any number of instructions the C comes within the bound to a state that stands for the machine's,
-- or to the machine's stop with the machine's output
abbrev pub FramesStayRight : Type 0
FramesStayRight = (plan : Plan) (roots : List ℕ) (parts : List Part) (entry : ℕ) (program : Program) → IsPlanned plan roots parts entry program
    → (block : Block) (input : List ℕ) (n : ℕ)
    → (k : ℕ) × (k ≤ bound plan.flow.setting.machine * (n + 1)) × Matches (StandsFor plan roots program) (machine_at plan parts entry block input n) (c_at program block input k)
