-- The block of a point: the statements of its instruction, its service, and control.
use Rattle.std.specs.Prelude.{ℕ, ◌+◌, ◌&&◌, Bool, true, false, not, if◌then◌else◌, List, [], ◌∷◌, ◌++◌, Option, Some, None}
use Rattle.rtl_core.specs.declared.inst.GroundInst.{GroundInst}
use Rattle.rtl_core.specs.declared.point.Point.{Point}
use Rattle.rtl_core.specs.declared.point.Slot.{Slot}
use Rattle.rtl_core.specs.declared.point.Slot.TheVariants.{Seq, To, Dyn, CallTo, CallDyn, Ret}
use Rattle.points.specs.declared.block.Block.{Block}
use Rattle.points.specs.declared.block.JumpKind.{JumpKind}
use Rattle.points.specs.declared.block.Mode.{Mode}
use Rattle.points.specs.declared.block.Mode.TheVariants.{Never, Maybe, Always}
use Rattle.points.specs.Kinds.{further, past_slot, block_at, second}
use Rattle.points.specs.Courses.{point, pending, jump_mode, annul_mode, halts}
use Rattle.c_lang.specs.declared.tree.COp.TheVariants.{Add, Eq}
use Rattle.c_lang.specs.declared.tree.Case.{Case}
use Rattle.c_lang.specs.declared.tree.CBlock.{CBlock}
use Rattle.c_lang.specs.declared.tree.CExpr.{CExpr}
use Rattle.c_lang.specs.declared.tree.CExpr.TheVariants.{Num, Of, Bin}
use Rattle.c_lang.specs.declared.tree.End.{End}
use Rattle.c_lang.specs.declared.tree.End.TheVariants.{Goto, Branch, Switch, Return, Finish}
use Rattle.c_lang.specs.declared.tree.Stmt.{Stmt}
use Rattle.c_lang.specs.declared.tree.Stmt.TheVariants.{Set, If}
use Rattle.c_lang.specs.declared.tree.Var.TheVariants.{Pt, Temp, ServeE}
use Rattle.c_lower.specs.Lowered.{lowered}
use Rattle.c_control.specs.Choice.{choose_c}
use Rattle.c_control.specs.Pieces.{illegal_stop, undiscovered_stop, couple_stop, jump_target_c, jumped_c, annuls_c, flags_c, stop_if, call_c, tail_c, leaf_c, return_c}
use Rattle.c_control.specs.Plans.{Plan, further_label}
use Rattle.c_control.specs.Services.{served_c}

-- some statements and the end behind them
pub record Code : Type 0 where
  pub stmts : List Stmt
  pub end : End

abbrev pub ends : End → Code
ends end = record { stmts = []; end = end }

abbrev pub code : List Stmt → End → Code
code stmts end = record { stmts = stmts; end = end }

abbrev pub case : ℕ → Point → Case
case value to = record { value = value; to = to }

-- on at an address, with nothing to come
abbrev pub go_on_at : ℕ → End
go_on_at pc = Goto (point pc Seq)

-- an end that is never come to
abbrev pub never : End
never = Finish couple_stop (Num 0)

-- a choice that has all cases that can come
abbrev pub switch_c : CExpr → List Case → End
switch_c e cases = Switch e cases couple_stop (Num 0)

-- ---- arrivals

-- the targets of a table, each a case of its own number and some more
abbrev pub table_cases : ℕ → List ℕ → List Case
table_cases more [] = []
table_cases more (t ∷ ts) = case (more + t) (point t Seq) ∷ table_cases more ts

-- the return points of a return address, by what `uq_e` tells, and some more
abbrev pub back_cases : ℕ → ℕ → Option ℕ → List Case
back_cases more back None = case more (point back Seq) ∷ []
back_cases more back (Some s) = case more (point back Seq) ∷ case (more + 1) (point s Seq) ∷ []

-- behind a call: at its return address, or at its second return point where it has one
abbrev pub behind_call_by : ℕ → Option ℕ → End
behind_call_by back None = go_on_at back
behind_call_by back (Some s) = switch_c (Of ServeE) (back_cases 0 back (Some s))

abbrev pub behind_call : Plan → ℕ → End
behind_call plan back = behind_call_by back (second plan.flow.setting back)

-- a computed plain jump with this table
abbrev pub jump_code : Plan → (p : ℕ) → List ℕ → Code
jump_code plan p [] = code (choose_c (leaf_c (tail_c plan p)) plan.tree []) Return
jump_code plan p (t ∷ ts) = ends (Switch (Of Pt) (table_cases 0 (t ∷ ts)) undiscovered_stop (Of Pt))

-- what an arrival does, in the procedure p
abbrev pub arrival_code : Plan → (p : ℕ) → Slot → Code
arrival_code plan p Seq = ends never
arrival_code plan p (To t) = ends (go_on_at t)
arrival_code plan p (Dyn a) = jump_code plan p (plan.flow.table a)
arrival_code plan p (CallTo t back) = code (call_c plan back t []) (behind_call plan back)
arrival_code plan p (CallDyn back) = code (choose_c (leaf_c (call_c plan back)) plan.tree []) (behind_call plan back)
arrival_code plan p Ret = code (return_c (plan.mods p) []) Return

-- ---- ways

-- one of four ways, by whether the instruction jumped and whether it annuls, as far as that can come out in two ways
abbrev pub ways : Mode → Mode → (stays jumps annuls both : Point) → End
ways Never Never stays jumps annuls both = Goto stays
ways Never Maybe stays jumps annuls both = Branch annuls_c annuls stays
ways Never Always stays jumps annuls both = Goto annuls
ways Maybe Never stays jumps annuls both = Branch jumped_c jumps stays
ways Maybe Maybe stays jumps annuls both = switch_c flags_c (case 0 stays ∷ case 1 jumps ∷ case 2 annuls ∷ case 3 both ∷ [])
ways Maybe Always stays jumps annuls both = Branch jumped_c both annuls
ways Always Never stays jumps annuls both = Goto jumps
ways Always Maybe stays jumps annuls both = Branch annuls_c both jumps
ways Always Always stays jumps annuls both = Goto both

-- by an annul alone
abbrev pub annul_ways : Mode → (stays annuls : ℕ) → End
annul_ways annuls near far = ways Never annuls (point near Seq) (point near Seq) (point far Seq) (point far Seq)

-- ---- an arrival without a slot, under a guard

abbrev pub is_filled : List ℕ → Bool
is_filled [] = false
is_filled (t ∷ ts) = true

-- whether the arrival goes on in the same function, so that its block chooses behind it among all that can come
abbrev pub is_selected : Plan → Slot → Bool
is_selected plan (Dyn a) = is_filled (plan.flow.table a)
is_selected plan (CallTo t back) = true
is_selected plan (CallDyn back) = true
is_selected plan slot = false

-- the number that chooses, 3 where the arrival is done; a machine without delay does it as if each instruction annulled
abbrev pub selector_c : Bool → CExpr
selector_c true = flags_c
selector_c false = Bin Add jumped_c (Num 2)

-- behind a call, 4 and what `uq_e` tells
abbrev pub selected_behind : List Stmt
selected_behind = Set (Temp 1) (Bin Add (Num 4) (Of ServeE)) ∷ []

-- what is done there, and the number behind it
abbrev pub selected_c : Plan → Slot → List Stmt
selected_c plan (CallTo t back) = call_c plan back t selected_behind
selected_c plan (CallDyn back) = choose_c (leaf_c (call_c plan back)) plan.tree selected_behind
selected_c plan slot = Set (Temp 1) (Bin Add (Num 4) (Of Pt)) ∷ []

-- the cases of the numbers behind it
abbrev pub selected_cases : Plan → Slot → List Case
selected_cases plan (Dyn a) = table_cases 4 (plan.flow.table a)
selected_cases plan (CallTo t back) = back_cases 4 back (second plan.flow.setting back)
selected_cases plan (CallDyn back) = back_cases 4 back (second plan.flow.setting back)
selected_cases plan slot = []

-- the cases of the other ways that can come
abbrev pub other_cases : Mode → Mode → (stays jumps annuls : Point) → List Case → List Case
other_cases Maybe Never stays jumps annuls rest = case 0 stays ∷ rest
other_cases Maybe Maybe stays jumps annuls rest = case 0 stays ∷ case 1 jumps ∷ case 2 annuls ∷ rest
other_cases Maybe Always stays jumps annuls rest = case 2 annuls ∷ rest
other_cases Always Maybe stays jumps annuls rest = case 1 jumps ∷ rest
other_cases jump annul stays jumps annuls rest = rest

-- the whole of it
abbrev pub selected_code : Plan → Bool → Mode → Mode → (stays jumps annuls : Point) → Slot → Code
selected_code plan delayed jump annul stays jumps annuls slot =
    code (Set (Temp 1) (selector_c delayed) ∷ If (Bin Eq jumped_c (Num 3)) (selected_c plan slot) ∷ [])
    (Switch jumped_c (other_cases jump annul stays jumps annuls (selected_cases plan slot)) undiscovered_stop (Of Pt))

-- ---- control behind an instruction

-- whether a step can make the arrival at once, and whether each step does
abbrev pub can_arrive : Mode → Mode → Bool
can_arrive Never annul = false
can_arrive jump Never = false
can_arrive jump annul = true

abbrev pub always_arrives : Mode → Mode → Bool
always_arrives Always Always = true
always_arrives jump annul = false

-- the point of an arrival that is done at once: that of its target where it is constant, else the further block
abbrev pub arrival_point : (pc : ℕ) → Slot → Point
arrival_point pc (To t) = point t Seq
arrival_point pc slot = further_label pc

-- the target of a jump is kept where its arrival asks for it
abbrev pub keep_target : JumpKind → Code → Code
keep_target JumpKind.Dyn c = code (Set Pt jump_target_c ∷ c.stmts) c.end
keep_target (JumpKind.CallDyn back) c = code (Set Pt jump_target_c ∷ c.stmts) c.end
keep_target JumpKind.Ret c = code (Set Pt jump_target_c ∷ c.stmts) c.end
keep_target kind c = c

-- a jump with this slot, where an annul makes it arrive at once
abbrev pub jump_ways : Plan → (p pc : ℕ) → Bool → Mode → Mode → (stays jumps annuls : Point) → Slot → Code
jump_ways plan p pc delayed jump annul stays jumps annuls slot =
    if always_arrives jump annul then arrival_code plan p slot
    else if can_arrive jump annul && is_selected plan slot then selected_code plan delayed jump annul stays jumps annuls slot
    else ends (ways jump annul stays jumps annuls (arrival_point pc slot))

-- with nothing to come and a jump: on a machine without delay it arrives at once wherever it is done
abbrev pub code_from_seq : Plan → (p pc next : ℕ) → Option ℕ → Mode → Mode → Slot → Code
code_from_seq plan p pc next None jump annul slot = jump_ways plan p pc false jump Always (point next Seq) (point next Seq) (point next Seq) slot
code_from_seq plan p pc next (Some delay) jump annul slot = jump_ways plan p pc true jump annul (point next Seq) (point next slot) (point (further next delay) Seq) slot

-- with nothing to come and no jump
abbrev pub code_without_jump : (next : ℕ) → Option ℕ → Mode → Code
code_without_jump next None annul = ends (go_on_at next)
code_without_jump next (Some delay) annul = ends (annul_ways annul next (further next delay))

-- the run stops where a jump stands in the slot of a jump that it may not stand in; behind one that each step makes nothing comes
abbrev pub couple_jump : (pc : ℕ) → Mode → Code → Code
couple_jump pc Never c = c
couple_jump pc Maybe c = code (stop_if jumped_c couple_stop (Num pc) c.stmts) c.end
couple_jump pc Always c = ends (Finish couple_stop (Num pc))

-- the same of a jump or an annul
abbrev pub couple_any : (pc : ℕ) → Mode → Mode → Code → Code
couple_any pc Never Never c = c
couple_any pc Always annul c = ends (Finish couple_stop (Num pc))
couple_any pc jump Always c = ends (Finish couple_stop (Num pc))
couple_any pc jump annul c = code (stop_if flags_c couple_stop (Num pc) c.stmts) c.end

-- in the slot of a plain jump to t
abbrev pub code_from_jump : Option ℕ → (pc t : ℕ) → JumpKind → Mode → Mode → Code
code_from_jump delay pc t (JumpKind.To u) jump annul = ends (ways jump annul (point t Seq) (point t (To u)) (point (past_slot delay t) Seq) (point u Seq))
code_from_jump delay pc t kind jump annul = couple_jump pc jump (ends (annul_ways annul t (past_slot delay t)))

-- control behind an instruction, by what is to come and how the instruction jumps
abbrev pub control_by : Plan → (p pc next : ℕ) → Slot → JumpKind → Mode → Mode → Code
control_by plan p pc next Seq JumpKind.Never jump annul = code_without_jump next plan.flow.setting.machine.delay annul
control_by plan p pc next Seq kind jump annul = keep_target kind (code_from_seq plan p pc next plan.flow.setting.machine.delay jump annul (pending pc kind))
control_by plan p pc next (To t) kind jump annul = code_from_jump plan.flow.setting.machine.delay pc t kind jump annul
control_by plan p pc next slot kind jump annul = couple_any pc jump annul (arrival_code plan p slot)

abbrev pub control_code : Plan → (p : ℕ) → Point → GroundInst → JumpKind → Code
control_code plan p b inst kind = control_by plan p b.pc inst.next b.slot kind (jump_mode inst.transfers) (annul_mode inst.transfers)

-- ---- blocks

-- the service of an instruction, and control; nothing comes behind a trap without a guard
abbrev pub code_behind : Plan → (p : ℕ) → Point → GroundInst → JumpKind → Code
code_behind plan p b inst kind =
    if halts inst.transfers then ends never
    else let c = control_code plan p b inst kind in code (served_c plan.flow.setting.machine plan.flow.setting.conv inst.transfers c.stmts) c.end

-- the code of a point, by what stands at its address
abbrev pub code_of_block : Plan → (p : ℕ) → Point → Block → Code
code_of_block plan p b Block.Outside = ends (Finish undiscovered_stop (Num b.pc))
code_of_block plan p b Block.Illegal = ends (Finish illegal_stop (Num b.pc))
code_of_block plan p b (Block.Inst inst kind) =
    let c = code_behind plan p b inst kind in code (lowered plan.flow.setting.machine b.pc inst.transfers [] ++ c.stmts) c.end

abbrev pub code_at : Plan → (p : ℕ) → Point → Code
code_at plan p b = code_of_block plan p b (block_at plan.flow.setting b.pc)

-- some code under a label
abbrev pub labelled : Point → Code → CBlock
labelled label c = record { label = label; stmts = c.stmts; end = c.end }

-- the block of a point of the procedure p
abbrev pub block_c : Plan → (p : ℕ) → Point → CBlock
block_c plan p b = labelled b (code_at plan p b)

-- ---- further blocks

-- whether an arrival without a slot has a block of its own, since it leaves the function under a guard
abbrev pub leaves_apart : Plan → Mode → Mode → Slot → Bool
leaves_apart plan jump annul Seq = false
leaves_apart plan jump annul (To t) = false
leaves_apart plan jump annul slot = can_arrive jump annul && (not (always_arrives jump annul) && not (is_selected plan slot))

-- on a machine without delay an arrival asks for no annul
abbrev pub annul_for : Option ℕ → Mode → Mode
annul_for None annul = Always
annul_for (Some delay) annul = annul

-- the further block of the instruction at an address, where it has one
abbrev pub further_of_block : Plan → (p pc : ℕ) → Block → Option CBlock
further_of_block plan p pc (Block.Inst inst kind) =
    if not (halts inst.transfers) && leaves_apart plan (jump_mode inst.transfers) (annul_for plan.flow.setting.machine.delay (annul_mode inst.transfers)) (pending pc kind)
    then Some (labelled (further_label pc) (arrival_code plan p (pending pc kind)))
    else None
further_of_block plan p pc block = None

-- only where nothing is to come
abbrev pub further_at : Plan → (p pc : ℕ) → Slot → Option CBlock
further_at plan p pc Seq = further_of_block plan p pc (block_at plan.flow.setting pc)
further_at plan p pc slot = None

-- the further block of a point, where it has one
abbrev pub further_c : Plan → (p : ℕ) → Point → Option CBlock
further_c plan p b = further_at plan p b.pc b.slot
