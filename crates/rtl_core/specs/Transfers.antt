-- The transfers of an instruction, one after another, up to the first stop.
use Rattle.std.specs.Prelude.{ℕ, ◌==◌, Bool, true, false, if◌then◌else◌, List, [], ◌∷◌, length, slice_index, slice_set, Option, Some, None, Result, Ok, Err}
use Rattle.rtl_core.specs.declared.stop.Trap.{Trap}
use Rattle.rtl_core.specs.declared.stop.Stop.{Stop}
use Rattle.rtl_core.specs.declared.transfer.Act.{Act}
use Rattle.rtl_core.specs.declared.transfer.Act.TheVariants.{SetCell, SetSlice, Store, Jump, Annul, Trap as TrapWith, Service, WinSave, WinRestore}
use Rattle.rtl_core.specs.declared.transfer.Transfer.{Transfer}
use Rattle.rtl_core.specs.declared.expr.Expr.{Expr}
use Rattle.rtl_core.specs.declared.machine.Machine.{Machine}
use Rattle.rtl_core.specs.declared.machine.WinShape.{WinShape}
use Rattle.rtl_core.specs.Contents.{Contents}
use Rattle.rtl_core.specs.Access.{stored}
use Rattle.rtl_core.specs.Arithmetic.{with_bits}
use Rattle.rtl_core.specs.Terms.{term_of}
use Rattle.rtl_core.specs.Value.{value_of, choice}
use Rattle.rtl_core.specs.Windows.{entered, window_of, left, most_windows}

-- a machine in the middle of an instruction: what it holds, and the jump, annul and service done so far
pub record Doing : Type 0 where
  pub cells : List ℕ
  pub memory : Contents
  pub saved : List (List ℕ)
  pub jump : Option ℕ
  pub annul : Bool
  pub service : Bool

-- what an act or an instruction comes to: it went on, or it stopped with all as it stood
pub data Ran : Type 0 where
  Went : Doing → Ran
  Halted : Stop → Doing → Ran

-- the stop that a trap makes of the instruction at pc
abbrev pub stop_of : ℕ → Trap → Stop
stop_of pc (Trap.Memory a) = Stop.MemoryFault a
stop_of pc (Trap.Misaligned a) = Stop.Misaligned a
stop_of pc Trap.Divide = Stop.Divide pc

-- goes on with what was computed, or stops
abbrev pub with_result : {A : Type 0} → ℕ → Doing → Result A Trap → (A → Ran) → Ran
with_result pc d (Err trap) go = Halted (stop_of pc trap) d
with_result pc d (Ok v) go = go v

-- goes on with the value of an expression, or stops
abbrev pub with_value : Machine → ℕ → Doing → Expr → (ℕ → Ran) → Ran
with_value m pc d e go = with_result pc d (value_of m d.cells d.memory (term_of e)) go

-- a value put into a cell; the zero cell stays
abbrev pub put_cell : Option ℕ → ℕ → ℕ → List ℕ → List ℕ
put_cell None c v cells = slice_set cells c v
put_cell (Some zero_cell) c v cells = if c == zero_cell then cells else slice_set cells c v

-- a save, where a window can still be saved
abbrev pub saving : Option WinShape → Doing → Ran
saving None d = Went d
saving (Some w) d =
    if length d.saved == most_windows then Halted Stop.WindowFull d
    else Went (record d { cells = entered w d.cells; saved = window_of w d.cells ∷ d.saved })

-- a restore, where a window is saved
abbrev pub restoring : Option WinShape → List (List ℕ) → Doing → Ran
restoring None saved d = Went d
restoring (Some w) [] d = Halted Stop.WindowEmpty d
restoring (Some w) (kept ∷ older) d = Went (record d { cells = left w kept d.cells; saved = older })

-- what one act of the instruction at pc does
abbrev pub acted : Machine → ℕ → Act → Doing → Ran
acted m pc (SetCell c e) d = with_value m pc d e (λ v. Went (record d { cells = put_cell m.zero c v d.cells }))
acted m pc (SetSlice c lo hi e) d =
    with_value m pc d e (λ v. Went (record d { cells = put_cell m.zero c (with_bits lo hi (slice_index d.cells c) v) d.cells }))
acted m pc (Store n a e) d =
    with_value m pc d a (λ at. with_value m pc d e (λ v. with_result pc d (stored m.order m.align d.memory n at v) (λ mem. Went (record d { memory = mem }))))
acted m pc (Jump e) d = with_value m pc d e (λ v. Went (record d { jump = Some v }))
acted m pc Annul d = Went (record d { annul = true })
acted m pc (TrapWith e) d = with_value m pc d e (λ v. Halted (Stop.Trap v) d)
acted m pc Service d = Went (record d { service = true })
acted m pc WinSave d = saving m.windows d
acted m pc WinRestore d = restoring m.windows d.saved d

-- what one transfer does; with a guard of 0 nothing, and its parts are not evaluated
abbrev pub transferred : Machine → ℕ → Option Expr → Act → Doing → Ran
transferred m pc None act d = acted m pc act d
transferred m pc (Some guard) act d = with_value m pc d guard (λ n. choice n (acted m pc act d) (Went d))

-- one part behind another, unless the first stopped
abbrev pub then_on : Ran → (Doing → Ran) → Ran
then_on (Halted stop d) go = Halted stop d
then_on (Went d) go = go d

-- what the transfers of the instruction at pc do, in order
abbrev pub all_transferred : Machine → ℕ → List Transfer → Doing → Ran
all_transferred m pc [] d = Went d
all_transferred m pc (t ∷ ts) d = then_on (transferred m pc t.guard t.act d) (all_transferred m pc ts)

-- before the first transfer of an instruction
abbrev pub fresh : List ℕ → Contents → List (List ℕ) → Doing
fresh cells memory saved = record { cells = cells; memory = memory; saved = saved; jump = None; annul = false; service = false }
