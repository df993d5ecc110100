-- Which variables the functions of a program declare, by number.
use Rattle.std.specs.Prelude.{◌≡◌, ℕ, ◌<◌, ◌||◌, true, false, slice_index_or}
use Rattle.c_lang.specs.declared.tree.Function.{Function}
use Rattle.c_lang.specs.declared.tree.Var.{Var}
use Rattle.c_lang.specs.State.{has, declares, is_global}
use Rattle.c_frames.specs.Slots.{slot_of}
use Rattle.c_declared.specs.declared.sheet.Sheet.{Sheet}

-- a sheet tells which cells its function declares, and how many temporaries
pub record IsSheet (f : Function) (s : Sheet) : Type 0 where
  pub cells : (c : ℕ) → c < 256 → slice_index_or s.cells c false ≡ (has f.params c || has f.cells c)
  pub temps : s.temps ≡ f.temps

-- the slots of all variables of a call that a function declares lie below a number
abbrev pub HasRoom : ℕ → Function → Type 0
HasRoom size f = (v : Var) → declares f v ≡ true → is_global v ≡ false → slot_of v < size
