-- Variables in slots: those of a call, and those that all calls share.
use Rattle.std.specs.Prelude.{ℕ, ◌+◌, ◌*◌, if◌then◌else◌, Option, Some, None, List, slice_index, slice_index_or}
use Rattle.c_lang.specs.declared.tree.Var.{Var}
use Rattle.c_lang.specs.declared.tree.Var.TheVariants.{Ra, Pt, Cell, Temp, Result, Wn, Depth, ServeR, ServeE}
use Rattle.c_lang.specs.Value.{Vars}
use Rattle.c_lang.specs.State.{is_global}

-- where a variable lies; no two of a call and no two shared ones lie together
abbrev pub slot_of : Var → ℕ
slot_of Ra = 0
slot_of Pt = 1
slot_of (Cell c) = 2 * c + 2
slot_of (Temp k) = 2 * k + 3
slot_of Wn = 0
slot_of Depth = 1
slot_of ServeR = 2
slot_of ServeE = 3
slot_of (Result c) = c + 4

-- the variables of a call alone
unfoldable pub local_vars : List (Option ℕ) → Vars
local_vars slots = λ v. if is_global v then None else slice_index_or slots (slot_of v) None

-- the shared variables alone; each has a value
unfoldable pub global_vars : List ℕ → Vars
global_vars slots = λ v. if is_global v then Some (slice_index slots (slot_of v)) else None

-- the variables that a call sees
unfoldable pub seen : List (Option ℕ) → List ℕ → Vars
seen locals globals = λ v. if is_global v then Some (slice_index globals (slot_of v)) else slice_index_or locals (slot_of v) None
