-- What the statements of one instruction promise: from any frame that shows the machine, they do what its
-- transfers do.
use Rattle.std.specs.Prelude.{◌≡◌, ℕ, ◌+◌, ◌*◌, ◌^◌, ◌<◌, ◌≤◌, Bool, true, false, List, [], ◌∷◌, ◌++◌, length, slice_index, slice_get, Option, Some, None}
use Rattle.lockstep.specs.Runs.{Goes, Ends, Stops}
use Rattle.lockstep.specs.Meets.{Meets}
use Rattle.rtl_core.specs.declared.machine.Machine.{Machine}
use Rattle.rtl_core.specs.declared.machine.WinShape.{WinShape}
use Rattle.rtl_core.specs.declared.transfer.Transfer.{Transfer}
use Rattle.rtl_core.specs.Arithmetic.{flag}
use Rattle.rtl_core.specs.SoundTerms.{Fit}
use Rattle.rtl_core.specs.Transfers.{Doing, Ran, Went, Halted, all_transferred, fresh}
use Rattle.rtl_core.specs.Windows.{most_windows}
use Rattle.c_lang.specs.declared.tree.End.{End}
use Rattle.c_lang.specs.declared.tree.Program.{Program}
use Rattle.c_lang.specs.declared.tree.Stmt.{Stmt}
use Rattle.c_lang.specs.declared.tree.Var.{Var}
use Rattle.c_lang.specs.declared.tree.Var.TheVariants.{Cell, Temp, Wn}
use Rattle.c_lang.specs.State.{State, CNext, At, to_place, seen_vars, declared_in}
use Rattle.c_lang.specs.Step.{step}

-- the variables of the named cells hold the cells' values
pub record Shows (named : ℕ → Bool) (cells : List ℕ) (s : State) : Type 0 where
  pub reads : (c : ℕ) → named c ≡ true → s.top.vars (Cell c) ≡ Some (slice_index cells c)

-- a saved window stands in `uq_w`: the oldest at 0, the next at 16, and so on
abbrev pub AreWords : (ℕ → ℕ) → List (List ℕ) → Type 0
AreWords words [] = Unit {0}
AreWords words (w ∷ older) =
    ((i : ℕ) → i < length w → words (length older * 16 + i) ≡ slice_index w i) × AreWords words older

-- each saved window has the words of a window of the machine, each of 32 bits
abbrev pub AreWindows : Option WinShape → List (List ℕ) → Type 0
AreWindows None saved = saved ≡ []
AreWindows (Some shape) [] = Unit {0}
AreWindows (Some shape) (w ∷ older) =
    (length w ≡ shape.count + shape.count) × ((i : ℕ) → i < length w → slice_index w i < 2 ^ 32) × AreWindows (Some shape) older

-- the saved windows stand in `uq_w`, `uq_wn` counts them, and they are windows of the machine
pub record ShowsWindows (m : Machine) (saved : List (List ℕ)) (s : State) : Type 0 where
  pub count : s.outer.globals Wn ≡ Some (length saved)
  pub few : length saved ≤ most_windows
  pub words : AreWords s.outer.words saved
  pub windows : AreWindows m.windows saved

-- a state that shows a machine in the middle of an instruction
pub record ShowsDoing (m : Machine) (named : ℕ → Bool) (d : Doing) (s : State) : Type 0 where
  pub cells : Shows named d.cells s
  pub fit : Fit m d.cells
  pub saved : ShowsWindows m d.saved s
  pub memory : s.outer.world.memory ≡ d.memory

-- the function on top declares the named cells and so many temporaries
pub record Declares (p : Program) (named : ℕ → Bool) (temps : ℕ) (s : State) : Type 0 where
  pub cells : (c : ℕ) → named c ≡ true → declared_in (slice_get p.functions s.top.function) (Cell c) ≡ true
  pub temporaries : (k : ℕ) → k < temps → declared_in (slice_get p.functions s.top.function) (Temp k) ≡ true

-- the value of the jump that was done, 0 without one
abbrev pub jump_value : Option ℕ → ℕ
jump_value None = 0
jump_value (Some v) = v

-- 1 where a jump was done
abbrev pub jump_flag : Option ℕ → ℕ
jump_flag None = 0
jump_flag (Some v) = 1

-- a variable that the statements leave alone
abbrev pub IsLeft : (ℕ → Bool) → Var → Type 0
IsLeft named (Cell c) = named c ≡ false
IsLeft named (Temp k) = ⊥
IsLeft named Wn = ⊥
IsLeft named _ = Unit {0}

-- a state behind the statements that began at s
pub record IsBehind (m : Machine) (named : ℕ → Bool) (s : State) (rest : List Stmt) (end : End) (d : Doing) (t : State) : Type 0 where
  pub place : t.top.place ≡ At rest end
  pub function : t.top.function ≡ s.top.function
  pub below : t.below ≡ s.below
  pub shows : ShowsDoing m named d t
  pub input : t.outer.world.input ≡ s.outer.world.input
  pub heap_end : t.outer.world.heap_end ≡ s.outer.world.heap_end
  pub output : t.outer.output ≡ s.outer.output
  pub target : t.top.vars (Temp 0) ≡ Some (jump_value d.jump)
  pub target_fits : jump_value d.jump < 2 ^ 32
  pub jumps : t.top.vars (Temp 1) ≡ Some (jump_flag d.jump)
  pub annuls : t.top.vars (Temp 2) ≡ Some (flag d.annul)
  pub serves : t.top.vars (Temp 3) ≡ Some (flag d.service)
  pub left : (v : Var) → IsLeft named v → seen_vars t v ≡ seen_vars s v

-- where the statements lead: behind them, or to the stop of the transfers
abbrev pub LeadsTo : Machine → (ℕ → Bool) → State → List Stmt → End → Ran → CNext → Type 0
LeadsTo m named s rest end (Halted stop d) x = x ≡ Ends s.outer.output (Stops stop)
LeadsTo m named s rest end (Went d) x = (t : State) × (x ≡ Goes t) × IsBehind m named s rest end d t

-- the header says of byte order and alignment what the machine says
pub record IsHeaderOf (m : Machine) (p : Program) : Type 0 where
  pub order : p.header.order ≡ m.order
  pub align : p.header.align ≡ m.align

-- the statements do what the transfers of the instruction at pc do, in at most so many steps, wherever
-- they stand: they are never stuck, and write nothing; `temps` of the temporaries are theirs
pub record DoTransfers (m : Machine) (pc : ℕ) (ts : List Transfer) (named : ℕ → Bool) (temps : ℕ) (stmts : List Stmt) (most : ℕ) : Type 0 where
  pub runs : (p : Program) → IsHeaderOf m p → (s : State) → Declares p named temps s → (cells : List ℕ) (saved : List (List ℕ))
      → ShowsDoing m named (fresh cells s.outer.world.memory saved) s → (rest : List Stmt) (end : End)
      → Meets (step p) (λ t. t.outer.output ≡ s.outer.output) (LeadsTo m named s rest end (all_transferred m pc ts (fresh cells s.outer.world.memory saved))) most
      (Goes (to_place s (At (stmts ++ rest) end)))
