-- The program of a plan.
use Rattle.std.specs.Prelude.{ℕ, List, map, slice_index}
use Rattle.rtl_core.specs.declared.conv.Conv.{Conv}
use Rattle.rtl_core.specs.declared.machine.Machine.{Machine}
use Rattle.rtl_core.specs.FirstMemory.{first_cells}
use Rattle.points.specs.declared.graph.Node.{Node}
use Rattle.points.specs.declared.graph.Proc.{Proc}
use Rattle.c_lang.specs.declared.tree.CSeg.{CSeg}
use Rattle.c_lang.specs.declared.tree.Program.{Program}
use Rattle.c_control.specs.Plans.{Plan}
use Rattle.c_control.specs.Programs.{header_of}
use Rattle.c_program.specs.Functions.{functions_of}

-- the first values of some cells
abbrev pub first_of : Machine → Conv → List ℕ → List ℕ
first_of m conv cells = map (λ c. slice_index (first_cells m conv) c) cells

-- the program with these segments and this entry
abbrev pub program_of : Plan → Machine → Conv → List Node → List Proc → List CSeg → ℕ → Program
program_of plan m conv nodes procs segments entry = record {
  header = header_of m conv;
  segments = segments;
  functions = functions_of plan nodes procs;
  entry = entry;
  first = first_of m conv (plan.refs entry);
}
