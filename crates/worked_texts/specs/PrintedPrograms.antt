-- Two programs whose texts are tested: one without functions, and one with each form of statement and end.
use Rattle.std.specs.Prelude.{ℕ, true, List, [], ◌∷◌, ◌++◌}
use Rattle.rtl_core.specs.declared.expr.Order.TheVariants.{Big}
use Rattle.rtl_core.specs.declared.point.Point.{Point}
use Rattle.rtl_core.specs.declared.point.Slot.{Slot}
use Rattle.rtl_core.specs.declared.point.Slot.TheVariants.{Seq, To, CallTo, Ret}
use Rattle.c_lang.specs.declared.tree.CBlock.{CBlock}
use Rattle.c_lang.specs.declared.tree.CExpr.TheVariants.{Num, Of, Bin, Choose}
use Rattle.c_lang.specs.declared.tree.COp.TheVariants.{Add}
use Rattle.c_lang.specs.declared.tree.End.{End}
use Rattle.c_lang.specs.declared.tree.End.TheVariants.{Goto, Branch, Switch, Return, Finish}
use Rattle.c_lang.specs.declared.tree.Function.{Function}
use Rattle.c_lang.specs.declared.tree.Header.{Header}
use Rattle.c_lang.specs.declared.tree.Program.{Program}
use Rattle.c_lang.specs.declared.tree.Stmt.{Stmt}
use Rattle.c_lang.specs.declared.tree.Stmt.TheVariants.{Set, Load, Store, TakeW, PutW, Serve, Call, If, Stop}
use Rattle.c_lang.specs.declared.tree.Var.TheVariants.{Ra, Pt, Cell, Temp, Result, Wn, Depth, ServeR, ServeE}

-- `uq_machine` of both
abbrev pub header : Header
header = record {
  order = Big;
  align = true;
  heap_base = 536870912;
  heap_size = 16777216;
  stack_base = 4009754624;
  stack_size = 8388608;
  exit = 1;
  read = 3;
  write = 4;
  brk = 17;
  fault = 14;
  descriptor = 9;
  unknown = 90;
  carry = true;
}

-- a program that only calls
abbrev pub small_program : Program
small_program = record { header = header; segments = []; functions = []; entry = 65536; first = 0 ∷ 7 ∷ [] }

-- if (uq_e) { uq_stop(5, uq_r); }
abbrev pub inner_if : Stmt
inner_if = If (Of ServeE) (Stop 5 (Of ServeR) ∷ [])

-- if (t0) { .. t1 = ra; }
abbrev pub outer_if : Stmt
outer_if = If (Of (Temp 0)) (inner_if ∷ Set (Temp 1) (Of Ra) ∷ [])

-- f_00002000(0ull, 5ull, t1);
abbrev pub layout_call : Stmt
layout_call = Call 8192 (Num 0 ∷ Num 5 ∷ Of (Temp 1) ∷ [])

-- a sum, a load and a store, and words of windows
abbrev pub moves : List Stmt
moves =
    Set (Temp 0) (Bin Add (Of (Cell 8)) (Num 1)) ∷ Load (Temp 1) 4 (Of (Temp 0)) ∷ Store 4 (Of (Temp 0)) (Of (Temp 1))
    ∷ TakeW (Cell 10) (Of Wn) ∷ PutW (Num 3) (Of (Cell 10)) ∷ []

-- a statement of each form
abbrev pub layout_stmts : List Stmt
layout_stmts = moves ++ Serve (Of (Cell 8)) (Of (Cell 9)) (Of (Cell 10)) (Num 0) ∷ layout_call ∷ outer_if ∷ []

abbrev pub at : ℕ → Slot → Point
at pc slot = record { pc = pc; slot = slot }

-- switch ((t0 ? pt : q8)) { .. }
abbrev pub layout_switch : End
layout_switch =
    Switch (Choose (Of (Temp 0)) (Of Pt) (Of (Result 8))) (record { value = 5; to = at 8200 (To 12288) } ∷ record { value = 6; to = at 8204 Ret } ∷ []) 8 (Of (Temp 0))

abbrev pub without_stmts : Point → End → CBlock
without_stmts label end = record { label = label; stmts = []; end = end }

-- blocks with an end of each form
abbrev pub layout_blocks : List CBlock
layout_blocks =
    record { label = at 8192 Seq; stmts = layout_stmts; end = Branch (Of (Temp 1)) (at 8196 Seq) (at 8200 (To 12288)) }
    ∷ without_stmts (at 8196 Seq) layout_switch ∷ without_stmts (at 8200 (To 12288)) (Goto (at 8204 Ret)) ∷ without_stmts (at 8204 Ret) Return
    ∷ without_stmts (at 8208 (CallTo 12288 8216)) (Finish 0 (Of Depth)) ∷ []

abbrev pub layout_function : Function
layout_function = record { entry = 8192; params = 8 ∷ 9 ∷ []; cells = 10 ∷ []; temps = 2; blocks = layout_blocks }

-- a program with each form of statement and end
abbrev pub layout_program : Program
layout_program = record { header = header; segments = []; functions = layout_function ∷ []; entry = 8192; first = [] }
