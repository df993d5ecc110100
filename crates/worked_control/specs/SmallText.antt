-- A C text written by hand for the small program that exits with 3.
use Rattle.std.specs.Prelude.{◌≡◌, ℕ, zero, suc, ◌+◌, List, [], ◌∷◌, replicate, true, false, length}
use Rattle.lockstep.specs.Runs.{Running, Stopped}
use Rattle.rtl_core.specs.declared.expr.Order.TheVariants.{Big}
use Rattle.rtl_core.specs.declared.point.Point.{Point}
use Rattle.rtl_core.specs.declared.point.Slot.TheVariants.{Seq}
use Rattle.rtl_core.specs.declared.stop.Stop.TheVariants.{Exit}
use Rattle.rtl_core.specs.FirstMemory.{Block}
use Rattle.points.specs.SmallMachine.{exit_code, small_entry, small_machine}
use Rattle.c_lang.specs.declared.tree.CBlock.{CBlock}
use Rattle.c_lang.specs.declared.tree.CExpr.TheVariants.{Num, Of}
use Rattle.c_lang.specs.declared.tree.End.TheVariants.{Goto, Finish}
use Rattle.c_lang.specs.declared.tree.Header.{Header}
use Rattle.c_lang.specs.declared.tree.Program.{Program}
use Rattle.c_lang.specs.declared.tree.Stmt.TheVariants.{Set, Serve}
use Rattle.c_lang.specs.declared.tree.Var.TheVariants.{Cell, ServeR, ServeE}
use Rattle.c_lang.specs.Run.{c_run}
use Rattle.c_control.specs.Programs.{bound}

abbrev pub at : ℕ → Point
at pc = record { pc = pc; slot = Seq }

-- n cells from the first on
abbrev pub cells_up : ℕ → ℕ → List ℕ
cells_up first zero = []
cells_up first (suc n) = first ∷ cells_up (first + 1) n

abbrev header : Header
header = record {
  order = Big;
  align = true;
  heap_base = 0x20000000;
  heap_size = 0x01000000;
  stack_base = 0xEF000000;
  stack_size = 0x00800000;
  exit = 1;
  read = 3;
  write = 4;
  brk = 17;
  fault = 14;
  descriptor = 9;
  unknown = 90;
  carry = true;
}

-- one block for each instruction, and one for the end of the code
abbrev blocks : List CBlock
blocks =
    record { label = at 0x10000; stmts = Set (Cell 1) (Num 1) ∷ []; end = Goto (at 0x10004) }
    ∷ record { label = at 0x10004; stmts = Set (Cell 8) (Num 3) ∷ []; end = Goto (at 0x10008) }
    ∷ record {
      label = at 0x10008;
      stmts = Serve (Of (Cell 1)) (Of (Cell 8)) (Of (Cell 9)) (Of (Cell 10)) ∷ Set (Cell 8) (Of ServeR) ∷ Set (Cell 32) (Of ServeE) ∷ [];
      end = Goto (at 0x1000C);
    }
    ∷ record { label = at 0x1000C; stmts = []; end = Finish 8 (Num 0x1000C) }
    ∷ []

abbrev pub small_text : Program
small_text = record {
  header = header;
  segments = record { base = small_entry; write = false; len = 12; bytes = exit_code } ∷ [];
  functions = record { entry = small_entry; params = cells_up 1 32; cells = []; temps = 0; blocks = blocks } ∷ [];
  entry = small_entry;
  first = replicate 32 0;
}

-- by the definitions, the text has no stop and no output after four steps, and exits with 3 at the
-- fifth, on every input and whatever block stands in its memory
abbrev pub TextExitsWithThree : Type 0
TextExitsWithThree = (block : Block) (input : List ℕ) → (c_run small_text block input 4 ≡ Running []) × (c_run small_text block input 5 ≡ Stopped [] (Exit 3))

-- the small machine's bound: 5 nodes, 33 cells
abbrev pub SmallBound : Type 0
SmallBound = (small_machine.most_nodes ≡ 5) × (length small_machine.widths ≡ 33) × (bound small_machine ≡ 362)
