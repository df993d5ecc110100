-- The state of a run of the C text.
use Rattle.std.specs.Prelude.{ℕ, ◌+◌, ◌==◌, ◌||◌, nat_lt, Bool, true, false, if◌then◌else◌, Option, Some, None, List, length}
use Rattle.std.specs.List.{list_any}
use Rattle.lockstep.specs.Runs.{Next, Ends, Fate, Stops, Sticks}
use Rattle.rtl_core.specs.declared.stop.Stop.{Stop}
use Rattle.rtl_core.specs.Services.{World}
use Rattle.c_lang.specs.declared.tree.Var.{Var}
use Rattle.c_lang.specs.declared.tree.Var.TheVariants.{Ra, Pt, Cell, Temp, Result, Wn, Depth, ServeR, ServeE}
use Rattle.c_lang.specs.declared.tree.Stmt.{Stmt}
use Rattle.c_lang.specs.declared.tree.End.{End}
use Rattle.c_lang.specs.declared.tree.Function.{Function}
use Rattle.c_lang.specs.declared.tree.Program.{Program}
use Rattle.c_lang.specs.Value.{Vars}

-- where a frame stands: its statements that are left, and the end behind them; nowhere in a function
-- that has no block
pub data Place : Type 0 where
  Nowhere : Place
  At : (rest : List Stmt) (end : End) → Place

-- a call that is open: the place of its function among all, where it stands, and its variables
pub record Frame : Type 0 where
  pub function : ℕ
  pub place : Place
  pub vars : Vars

-- what all calls share: the global variables, the array `uq_w`, the world, and the output so far
pub record Outer : Type 0 where
  pub globals : Vars
  pub words : ℕ → ℕ
  pub world : World
  pub output : List ℕ

-- the call on top, those below it, and what they share
pub record State : Type 0 where
  pub top : Frame
  pub below : List Frame
  pub outer : Outer

-- what a step leads to
abbrev pub CNext : Type 0
CNext = Next State (Fate Stop)

-- ---- variables

-- whether two variables are one
abbrev pub same_var : Var → Var → Bool
same_var Ra Ra = true
same_var Pt Pt = true
same_var (Cell i) (Cell j) = i == j
same_var (Temp i) (Temp j) = i == j
same_var (Result i) (Result j) = i == j
same_var Wn Wn = true
same_var Depth Depth = true
same_var ServeR ServeR = true
same_var ServeE ServeE = true
same_var _ _ = false

-- the variables with one of them set
abbrev pub with_var : Vars → Var → ℕ → Vars
with_var vars v n w = if same_var v w then Some n else vars w

-- whether a variable is shared by all calls
abbrev pub is_global : Var → Bool
is_global (Result i) = true
is_global Wn = true
is_global Depth = true
is_global ServeR = true
is_global ServeE = true
is_global _ = false

-- the variables that the call on top sees
abbrev pub seen_vars : State → Vars
seen_vars s v = if is_global v then s.outer.globals v else s.top.vars v

-- whether a number is in a list
abbrev pub has : List ℕ → ℕ → Bool
has xs n = list_any (λ x. x == n) xs

-- whether a function has a variable to assign
abbrev pub declares : Function → Var → Bool
declares f (Cell i) = has f.params i || has f.cells i
declares f (Temp i) = nat_lt i f.temps
declares f _ = true

-- the same of a function that may not be there
abbrev pub declared_in : Option Function → Var → Bool
declared_in None v = false
declared_in (Some f) v = declares f v

-- ---- ends

-- the number of the item of a function in the text: the include line, the header, the segments, their
-- table and the prototypes stand before the functions
abbrev pub item_of : Program → ℕ → ℕ
item_of p f = 3 + length p.segments + length p.functions + f

-- no step can be made
abbrev pub stuck : Program → State → CNext
stuck p s = Ends s.outer.output (Sticks (item_of p s.top.function))

-- the run stops
abbrev pub stops : State → Stop → CNext
stops s stop = Ends s.outer.output (Stops stop)

-- ---- changes of a state

-- the call on top stands elsewhere
abbrev pub to_place : State → Place → State
to_place s place = record s { top = record s.top { place = place } }

-- a variable set, where it belongs
abbrev pub put : State → Var → ℕ → State
put s v n = record s {
  top = record s.top { vars = if is_global v then s.top.vars else with_var s.top.vars v n };
  outer = record s.outer { globals = if is_global v then with_var s.outer.globals v n else s.outer.globals };
}

-- one word of `uq_w` set
abbrev pub with_word : State → ℕ → ℕ → State
with_word s i n = record s { outer = record s.outer { words = λ j. if i == j then n else s.outer.words j } }

-- another world
abbrev pub with_world : State → World → State
with_world s world = record s { outer = record s.outer { world = world } }
