-- The statements of calls, returns and jumps. Each piece takes the statements that stand behind it.
use Rattle.std.specs.Prelude.{ℕ, ◌^◌, not, List, [], ◌∷◌, map, filter}
use Rattle.c_lang.specs.declared.tree.COp.TheVariants.{Add, Sub, Mul, Div, Rem, Eq, Ne}
use Rattle.c_lang.specs.declared.tree.CExpr.{CExpr}
use Rattle.c_lang.specs.declared.tree.CExpr.TheVariants.{Num, Of, Bin}
use Rattle.c_lang.specs.declared.tree.Stmt.{Stmt}
use Rattle.c_lang.specs.declared.tree.Stmt.TheVariants.{Set, Call, If, Stop}
use Rattle.c_lang.specs.declared.tree.Var.TheVariants.{Ra, Pt, Cell, Temp, Result, Depth, ServeE}
use Rattle.c_lang.specs.State.{has}
use Rattle.points.specs.Control.{most_calls}
use Rattle.c_control.specs.Plans.{Plan, ra_of}

-- the numbers of the stops that control makes
abbrev pub illegal_stop : ℕ
illegal_stop = 1

abbrev pub undiscovered_stop : ℕ
undiscovered_stop = 8

abbrev pub mismatch_stop : ℕ
mismatch_stop = 9

abbrev pub depth_stop : ℕ
depth_stop = 10

abbrev pub couple_stop : ℕ
couple_stop = 11

-- what the statements of an instruction leave: the target of its jump, whether it jumped, and whether it annuls
abbrev pub jump_target_c : CExpr
jump_target_c = Of (Temp 0)

abbrev pub jumped_c : CExpr
jumped_c = Of (Temp 1)

abbrev pub annuls_c : CExpr
annuls_c = Of (Temp 2)

-- both as one number: 1 for a jump, 2 for an annul
abbrev pub flags_c : CExpr
flags_c = Bin Add jumped_c (Bin Mul (Num 2) annuls_c)

-- the run stops where a condition holds
abbrev pub stop_if : CExpr → ℕ → CExpr → List Stmt → List Stmt
stop_if condition number value rest = If condition (Stop number value ∷ []) ∷ rest

-- ---- calls

-- one more call is open, where there is room for it
abbrev pub deeper_c : List Stmt → List Stmt
deeper_c rest = stop_if (Bin Eq (Of Depth) (Num most_calls)) depth_stop (Num 0) (Set Depth (Bin Add (Of Depth) (Num 1)) ∷ rest)

-- one call less is open
abbrev pub shallower_c : List Stmt → List Stmt
shallower_c rest = Set Depth (Bin Sub (Of Depth) (Num 1)) ∷ rest

-- the cells that a procedure handed back are taken
abbrev pub take_c : List ℕ → List Stmt → List Stmt
take_c [] rest = rest
take_c (c ∷ cells) rest = Set (Cell c) (Of (Result c)) ∷ take_c cells rest

-- cells are handed back
abbrev pub give_c : List ℕ → List Stmt → List Stmt
give_c [] rest = rest
give_c (c ∷ cells) rest = Set (Result c) (Of (Cell c)) ∷ give_c cells rest

-- the cells that a procedure gets, as arguments
abbrev pub arguments_c : List ℕ → List CExpr
arguments_c cells = map (λ c. Of (Cell c)) cells

-- the members of the one list that are not in the other
abbrev pub without : List ℕ → List ℕ → List ℕ
without xs ys = filter (λ x. not (has ys x)) xs

-- a call of t that comes back to a return address
abbrev pub call_c : Plan → (back t : ℕ) → List Stmt → List Stmt
call_c plan back t rest =
    deeper_c (Call t (Num (ra_of plan.flow.setting back) ∷ arguments_c (plan.refs t)) ∷ shallower_c (take_c (plan.mods t) rest))

-- a jump from p into t, which returns in the place of p: what t handed back stays, and p hands back the rest
abbrev pub tail_c : Plan → (p t : ℕ) → List Stmt → List Stmt
tail_c plan p t rest =
    deeper_c (Call t (Of Ra ∷ arguments_c (plan.refs t)) ∷ shallower_c (give_c (without (plan.mods p) (plan.mods t)) rest))

-- the code for a target that may be the procedure t: where it is not, no procedure begins there
abbrev pub leaf_c : (ℕ → List Stmt → List Stmt) → ℕ → List Stmt → List Stmt
leaf_c code t rest = stop_if (Bin Ne (Of Pt) (Num t)) undiscovered_stop (Of Pt) (code t rest)

-- ---- returns

-- the return address in `ra`, and the bytes to its second return point
abbrev pub near_c : CExpr
near_c = Bin Rem (Of Ra) (Num (2 ^ 33))

abbrev pub pad_c : CExpr
pad_c = Bin Div (Of Ra) (Num (2 ^ 33))

-- the second return point
abbrev pub far_c : CExpr
far_c = Bin Rem (Bin Add near_c pad_c) (Num (2 ^ 32))

-- where the target is not the return address it has to be a second return point
abbrev pub second_c : List Stmt
second_c = stop_if (Bin Eq pad_c (Num 0)) mismatch_stop (Of Pt) (stop_if (Bin Ne (Of Pt) far_c) mismatch_stop (Of Pt) [])

-- a return that hands these cells back: `uq_e` tells which of the two return points it goes to
abbrev pub return_c : List ℕ → List Stmt → List Stmt
return_c mods rest = Set ServeE (Bin Ne (Of Pt) near_c) ∷ If (Of ServeE) second_c ∷ give_c mods rest
