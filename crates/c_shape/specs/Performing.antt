-- What the code of a point may be: how it enters procedures and comes back from them, how it leaves its own, and that it reads no
-- temporary which it has not assigned.
use Rattle.std.specs.Prelude.{◌≡◌, ℕ, Bool, true, false, List, [], ◌∷◌, ◌++◌}
use Rattle.std.specs.List.{Contains}
use Rattle.rtl_core.specs.declared.point.Point.{Point}
use Rattle.points.specs.declared.block.Mode.{Mode}
use Rattle.points.specs.declared.block.Next.TheVariants.{Table, Calls, CallsAny, Returns}
use Rattle.points.specs.Bodies.{nexts, Body, Procedure}
use Rattle.points.specs.Kinds.{second}
use Rattle.c_lang.specs.declared.tree.CBlock.{CBlock}
use Rattle.c_lang.specs.declared.tree.COp.{COp}
use Rattle.c_lang.specs.declared.tree.COp.TheVariants.{Eq}
use Rattle.c_lang.specs.declared.tree.CExpr.{CExpr}
use Rattle.c_lang.specs.declared.tree.CExpr.TheVariants.{Num, Of, Bin, Choose}
use Rattle.c_lang.specs.declared.tree.End.{End}
use Rattle.c_lang.specs.declared.tree.End.TheVariants.{Goto, Branch, Switch, Return, Finish}
use Rattle.c_lang.specs.declared.tree.Stmt.{Stmt}
use Rattle.c_lang.specs.declared.tree.Stmt.TheVariants.{Set, Load, Store, TakeW, PutW, Serve, Call, If, Stop}
use Rattle.c_lang.specs.declared.tree.Var.{Var}
use Rattle.c_lang.specs.declared.tree.Var.TheVariants.{Ra, Pt, Cell, Temp, Result, Wn, Depth}
use Rattle.c_lower.specs.Tidy.{with_temp}
use Rattle.c_control.specs.Blocks.{Code, code, back_cases, behind_call, other_cases, selected_behind}
use Rattle.c_control.specs.Choice.{choose_c}
use Rattle.c_control.specs.Pieces.{jumped_c, arguments_c, shallower_c, take_c, give_c, without, call_c, tail_c, leaf_c, return_c}
use Rattle.c_control.specs.Plans.{Plan, further_label, ra_of}
use Rattle.c_control.specs.Shape.{AllLead, GoesOn}
use Rattle.c_shape.specs.Functions.{code_for}

-- ---- what a step can make

-- a step at a point can call the procedure t, with this return address
pub data CanCall (plan : Plan) (roots : List ℕ) (b : Point) (t back : ℕ) : Type 0 where
  given : Contains (nexts (code_for plan) b) (Calls t back) → CanCall plan roots b t back
  any : Contains (nexts (code_for plan) b) (CallsAny back) → Procedure (code_for plan) roots t → CanCall plan roots b t back

-- a step there can make a computed plain jump without a table, which may enter any procedure
pub record CanJump (plan : Plan) (roots : List ℕ) (b : Point) (t : ℕ) : Type 0 where
  pub address : ℕ
  pub comes : Contains (nexts (code_for plan) b) (Table address)
  pub empty : plan.flow.table address ≡ []
  pub procedure : Procedure (code_for plan) roots t

-- a step there can return
pub record CanReturn (plan : Plan) (b : Point) : Type 0 where
  pub comes : Contains (nexts (code_for plan) b) Returns

-- ---- how code ends

-- statements that enter no procedure
pub data Quiet : List Stmt → Type 0 where
  empty : Quiet []
  sets : (v : Var) (e : CExpr) {rest : List Stmt} → Quiet rest → Quiet (Set v e ∷ rest)
  loads : (v : Var) (size : ℕ) (e : CExpr) {rest : List Stmt} → Quiet rest → Quiet (Load v size e ∷ rest)
  stores : (size : ℕ) (a e : CExpr) {rest : List Stmt} → Quiet rest → Quiet (Store size a e ∷ rest)
  takes : (v : Var) (e : CExpr) {rest : List Stmt} → Quiet rest → Quiet (TakeW v e ∷ rest)
  puts : (i e : CExpr) {rest : List Stmt} → Quiet rest → Quiet (PutW i e ∷ rest)
  serves : (n x y z : CExpr) {rest : List Stmt} → Quiet rest → Quiet (Serve n x y z ∷ rest)
  stops : (k : ℕ) (e : CExpr) {rest : List Stmt} → Quiet rest → Quiet (Stop k e ∷ rest)
  tests : (e : CExpr) {body rest : List Stmt} → Quiet body → Quiet rest → Quiet (If e body ∷ rest)

-- statements end with these, and enter no procedure in front of them
pub record Last (tail whole : List Stmt) : Type 0 where
  pub front : List Stmt
  pub quiet : Quiet front
  pub is : front ++ tail ≡ whole

-- a call that comes back to a return address, of one procedure or of that which is chosen by the target, and then some more
pub data IsEntering (plan : Plan) (back : ℕ) (rest : List Stmt) : List Stmt → Type 0 where
  one : (t : ℕ) → IsEntering plan back rest (call_c plan back t rest)
  any : IsEntering plan back rest (choose_c (leaf_c (call_c plan back)) plan.tree rest)

-- the code ends with such a call, behind which it goes on at the return address, and where `uq_e` is not 0 at the second return
-- point: by `uq_e` itself, or by 4 and `uq_e` in `t1`, which chooses among all that can come
pub data GoesBack (plan : Plan) (back : ℕ) (whole : Code) : Type 0 where
  at_once : {enters : List Stmt} → IsEntering plan back [] enters → Last enters whole.stmts → whole.end ≡ behind_call plan back → GoesBack plan back whole
  chosen : {enters : List Stmt} (j a : Mode) (stays jumps annuls : Point) (k : ℕ) (e : CExpr) → IsEntering plan back selected_behind enters → Last (If (Bin Eq jumped_c (Num 3)) enters ∷ []) whole.stmts
      → whole.end ≡ Switch jumped_c (other_cases j a stays jumps annuls (back_cases 4 back (second plan.flow.setting back))) k e → GoesBack plan back whole

-- what stands in front of the end of the procedure p: a return with exactly what p hands back, or the choice of the procedure that is
-- jumped to
pub data Hands (plan : Plan) (p : ℕ) (stmts : List Stmt) : Type 0 where
  returns : Last (return_c (plan.mods p) []) stmts → Hands plan p stmts
  jumps : Last (choose_c (leaf_c (tail_c plan p)) plan.tree []) stmts → Hands plan p stmts

-- ---- what code reads and does

-- variables that are read everywhere: no temporary, and no cell that a procedure handed back
abbrev pub is_open : Var → Bool
is_open (Temp k) = false
is_open (Result c) = false
is_open v = true

-- an expression reads only those, and temporaries that are assigned
pub data Knows (assigned : ℕ → Bool) : CExpr → Type 0 where
  number : (n : ℕ) → Knows assigned (Num n)
  variable : (v : Var) → is_open v ≡ true → Knows assigned (Of v)
  a_temp : (k : ℕ) → assigned k ≡ true → Knows assigned (Of (Temp k))
  two : (op : COp) (a b : CExpr) → Knows assigned a → Knows assigned b → Knows assigned (Bin op a b)
  three : (c a b : CExpr) → Knows assigned c → Knows assigned a → Knows assigned b → Knows assigned (Choose c a b)

-- so does an end
abbrev pub EndKnows : (ℕ → Bool) → End → Type 0
EndKnows assigned (Goto to) = Unit {0}
EndKnows assigned (Branch e first other) = Knows assigned e
EndKnows assigned (Switch e cases k other) = Knows assigned e × Knows assigned other
EndKnows assigned Return = Unit {0}
EndKnows assigned (Finish k e) = Knows assigned e

-- variables that are assigned everywhere: neither `ra` nor `uq_e` nor a cell that is handed back
abbrev pub is_set : Var → Bool
is_set Pt = true
is_set (Cell c) = true
is_set Wn = true
is_set Depth = true
is_set v = false

-- what stands behind a call and the cells that it takes back: nothing, or the number that chooses where to go on
pub data IsBehind : List Stmt → Type 0 where
  nothing : IsBehind []
  chooses : IsBehind selected_behind

-- statements in the code of the point b of the procedure p, begun with some temporaries assigned and ended with others, whichever way
-- each `if` goes. A call passes the return address with the bytes to its second return point, and the cells that the procedure gets;
-- right behind it the cells that this hands back are taken. Behind a jump into a procedure the cells of p that this does not hand
-- back are handed back, and nothing stands behind that. A return hands back the cells of p, and sets `uq_e`. Nothing else enters a
-- procedure, reads what one handed back, hands back, or sets `uq_e`.
pub data Performs (plan : Plan) (roots : List ℕ) (p : ℕ) (b : Point) (whole : Code) : (ℕ → Bool) → List Stmt → (ℕ → Bool) → Type 0 where
  ends : {D E : ℕ → Bool} → ((i : ℕ) → E i ≡ true → D i ≡ true) → Performs plan roots p b whole D [] E
  sets_temp : {D E : ℕ → Bool} (k : ℕ) (e : CExpr) {rest : List Stmt} → Knows D e → Performs plan roots p b whole (with_temp D k) rest E → Performs plan roots p b whole D (Set (Temp k) e ∷ rest) E
  sets : {D E : ℕ → Bool} (v : Var) (e : CExpr) {rest : List Stmt} → is_set v ≡ true → Knows D e → Performs plan roots p b whole D rest E → Performs plan roots p b whole D (Set v e ∷ rest) E
  loads : {D E : ℕ → Bool} (k size : ℕ) (e : CExpr) {rest : List Stmt} → Knows D e → Performs plan roots p b whole (with_temp D k) rest E → Performs plan roots p b whole D (Load (Temp k) size e ∷ rest) E
  stores : {D E : ℕ → Bool} (size : ℕ) (a e : CExpr) {rest : List Stmt} → Knows D a → Knows D e → Performs plan roots p b whole D rest E → Performs plan roots p b whole D (Store size a e ∷ rest) E
  takes : {D E : ℕ → Bool} (c : ℕ) (e : CExpr) {rest : List Stmt} → Knows D e → Performs plan roots p b whole D rest E → Performs plan roots p b whole D (TakeW (Cell c) e ∷ rest) E
  puts : {D E : ℕ → Bool} (i e : CExpr) {rest : List Stmt} → Knows D i → Knows D e → Performs plan roots p b whole D rest E → Performs plan roots p b whole D (PutW i e ∷ rest) E
  serves : {D E : ℕ → Bool} (n x y z : CExpr) {rest : List Stmt} → Knows D n → Knows D x → Knows D y → Knows D z → Performs plan roots p b whole D rest E → Performs plan roots p b whole D (Serve n x y z ∷ rest) E
  tests : {D E F : ℕ → Bool} (e : CExpr) {body rest : List Stmt} → Knows D e → Performs plan roots p b whole D body F → Performs plan roots p b whole D rest E → Performs plan roots p b whole D (If e body ∷ rest) E
  stops : {D E : ℕ → Bool} (k : ℕ) (e : CExpr) {rest : List Stmt} → Knows D e → Performs plan roots p b whole D rest E → Performs plan roots p b whole D (Stop k e ∷ rest) E
  calls : {D E : ℕ → Bool} (t back : ℕ) {rest : List Stmt} → CanCall plan roots b t back → GoesBack plan back whole → IsBehind rest → Performs plan roots p b whole D rest E
      → Performs plan roots p b whole D (Call t (Num (ra_of plan.flow.setting back) ∷ arguments_c (plan.refs t)) ∷ shallower_c (take_c (plan.mods t) rest)) E
  jumps : {D E : ℕ → Bool} (t : ℕ) → CanJump plan roots b t → whole.end ≡ Return → ((i : ℕ) → E i ≡ true → D i ≡ true)
      → Performs plan roots p b whole D (Call t (Of Ra ∷ arguments_c (plan.refs t)) ∷ shallower_c (give_c (without (plan.mods p) (plan.mods t)) [])) E
  returns : {D E : ℕ → Bool} → CanReturn plan b → whole.end ≡ Return → ((i : ℕ) → E i ≡ true → D i ≡ true) → Performs plan roots p b whole D (return_c (plan.mods p) []) E

-- ---- blocks

-- the code of a point: its statements begin with no temporary assigned, its end reads none that they have not assigned and leads only
-- where the point can go on, and where the procedure ends it has handed back its cells
pub record IsCodeOf (plan : Plan) (roots : List ℕ) (p : ℕ) (b : Point) (whole : Code) : Type 0 where
  pub assigned : ℕ → Bool
  pub stmts : Performs plan roots p b whole (λ i. false) whole.stmts assigned
  pub end : EndKnows assigned whole.end
  pub leads : AllLead (GoesOn plan p b) whole.end
  pub hands : whole.end ≡ Return → Hands plan p whole.stmts

-- the block of a point of p, or its further block
pub data IsPerforming (plan : Plan) (roots : List ℕ) (p : ℕ) (block : CBlock) : Type 0 where
  at : (b : Point) → Body (code_for plan) p b → block.label ≡ b → IsCodeOf plan roots p b (code block.stmts block.end) → IsPerforming plan roots p block
  further : (b : Point) → Body (code_for plan) p b → block.label ≡ further_label b.pc → IsCodeOf plan roots p b (code block.stmts block.end) → IsPerforming plan roots p block
