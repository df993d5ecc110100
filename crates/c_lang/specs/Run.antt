-- A run of the C text from its first state.
use Rattle.std.specs.Prelude.{ℕ, ◌+◌, ◌^◌, ◌*◌, List, [], ◌∷◌, ◌++◌, length, map, Option, Some, None, Bool, true, false}
use Rattle.lockstep.specs.Runs.{Goes, Ends, Sticks, after, View, target_view}
use Rattle.rtl_core.specs.declared.stop.Stop.{Stop}
use Rattle.rtl_core.specs.Contents.{Contents}
use Rattle.rtl_core.specs.FirstMemory.{Part, Block, area, parts_memory, with_block}
use Rattle.c_lang.specs.declared.tree.CSeg.{CSeg}
use Rattle.c_lang.specs.declared.tree.Header.{Header}
use Rattle.c_lang.specs.declared.tree.Program.{Program}
use Rattle.c_lang.specs.Value.{Vars}
use Rattle.c_lang.specs.State.{Outer, CNext, is_global}
use Rattle.c_lang.specs.Step.{Found, function_from, parameters, frame_of, step}

-- a segment as a part of the first memory
abbrev pub part_of : CSeg → Part
part_of s = record { base = s.base; len = s.len; writes = s.write; bytes = s.bytes }

-- the heap and the stack of a header
abbrev pub header_areas : Header → List Part
header_areas h = area h.heap_base h.heap_size ∷ area h.stack_base h.stack_size ∷ []

-- the first memory of a C text, with a block put in
abbrev pub memory_of : Program → Block → Contents
memory_of p block = with_block block (parts_memory (map part_of p.segments ++ header_areas p.header))

-- the global variables are 0
abbrev pub zero_globals : Vars
zero_globals v = global (is_global v)
  where
    global : Bool → Option ℕ
    global true = Some 0
    global false = None

-- what all calls share before the first step
abbrev pub first_outer : Program → Block → List ℕ → Outer
first_outer p block input = record {
  globals = zero_globals;
  words = λ i. 0;
  output = [];
  world = record { memory = memory_of p block; input = input; heap_end = p.header.heap_base };
}

-- the value of `ra` in the first function: no return address of the machine
abbrev pub no_return : ℕ
no_return = 2 ^ 32

-- nothing to call: `uq_main` is the item behind the functions
abbrev pub lost : Program → CNext
lost p = Ends [] (Sticks (3 + length p.segments + 2 * length p.functions))

-- a function entered with its parameters set, where they are
abbrev pub entered : Program → Block → List ℕ → Found → Option Vars → CNext
entered p block input f None = lost p
entered p block input f (Some vars) = Goes (record { top = frame_of f vars; below = []; outer = first_outer p block input })

-- the first function called, where it is there
abbrev pub started : Program → Block → List ℕ → Option Found → CNext
started p block input None = lost p
started p block input (Some f) = entered p block input f (parameters f.function (no_return ∷ p.first))

-- the first function, called by `uq_main`
abbrev pub first_state : Program → Block → List ℕ → CNext
first_state p block input = started p block input (function_from 0 p.functions p.entry)

-- what is seen of the run after k steps
abbrev pub c_run : Program → Block → List ℕ → ℕ → View Stop
c_run p block input k = target_view (λ s. s.outer.output) (after (step p) k (first_state p block input))
