-- Partial runs: instructions over cells of which some are unknown and over the bytes that no store changes, to find where a computed jump can lead.
use Rattle.std.specs.Prelude.{ℕ, zero, suc, ◌+◌, ◌^◌, ◌==◌, ◌&&◌, ◌||◌, nat_lt, Bool, true, false, if◌then◌else◌, List, [], ◌∷◌, length, replicate, slice_index, slice_index_or, slice_set, Option, None, Some, option_map, Result, Ok, Err}
use Rattle.rtl_core.specs.declared.conv.ServiceShape.{ServiceShape}
use Rattle.rtl_core.specs.declared.expr.Expr.{Expr}
use Rattle.rtl_core.specs.declared.frozen.Frozen.{Frozen}
use Rattle.rtl_core.specs.declared.inst.GroundInst.{GroundInst}
use Rattle.rtl_core.specs.declared.machine.Machine.{Machine}
use Rattle.rtl_core.specs.declared.machine.WinShape.{WinShape}
use Rattle.rtl_core.specs.declared.stop.Trap.{Trap}
use Rattle.rtl_core.specs.declared.transfer.Act.{Act}
use Rattle.rtl_core.specs.declared.transfer.Act.TheVariants.{SetCell, SetSlice, Store, Jump, Annul, Trap as TrapWith, Service, WinSave, WinRestore}
use Rattle.rtl_core.specs.declared.transfer.Transfer.{Transfer}
use Rattle.rtl_core.specs.Arithmetic.{with_bits}
use Rattle.rtl_core.specs.Code.{frozen_byte}
use Rattle.rtl_core.specs.Contents.{Contents, Held}
use Rattle.rtl_core.specs.Terms.{Term, Const, Cell, Load, Unary, Binary, Slice, Zext, Sext, Choice, term_of}
use Rattle.rtl_core.specs.Transfers.{put_cell}
use Rattle.rtl_core.specs.Value.{value_of}
use Rattle.points.specs.Machine.{Setting}

-- ---- values

-- a byte that may not be written
abbrev pub fixed : ℕ → Held
fixed byte = record { byte = byte; writes = false }

-- the bytes that no store changes, as a memory; no other byte is mapped
abbrev pub frozen_contents : Frozen → Contents
frozen_contents f = λ a. option_map fixed (frozen_byte f a)

-- whether each cell that a term mentions is known
abbrev pub is_known : List Bool → Term → Bool
is_known known (Const w n) = true
is_known known (Cell c) = slice_index_or known c false
is_known known (Load b a) = is_known known a
is_known known (Unary op a) = is_known known a
is_known known (Binary op a b) = is_known known a && is_known known b
is_known known (Slice a lo hi) = is_known known a
is_known known (Zext w a) = is_known known a
is_known known (Sext w a) = is_known known a
is_known known (Choice c a b) = is_known known c && (is_known known a && is_known known b)

-- a value, where it does not trap
abbrev pub value_or_none : Result ℕ Trap → Option ℕ
value_or_none (Ok v) = Some v
value_or_none (Err trap) = None

-- the value of a term over these cells and the frozen bytes: unknown where a cell that it mentions is, and where it traps
abbrev pub known_value : Machine → Frozen → List ℕ → List Bool → Term → Option ℕ
known_value m f values known t = if is_known known t then value_or_none (value_of m values (frozen_contents f) t) else None

-- ---- acts

-- what is known in the middle of a partial run: the cells' values and which of them are known, whether a jump before was
-- taken, whether some jump was not, whether the next instruction is passed over, and the target of the last jump
pub record PartialState : Type 0 where
  pub values : List ℕ
  pub known : List Bool
  pub taken : Bool
  pub untaken : Bool
  pub passes : Bool
  pub target : Option ℕ

-- the value of an expression, where it is known
abbrev pub value_in : Setting → PartialState → Expr → Option ℕ
value_in s k e = known_value s.machine s.frozen k.values k.known (term_of e)

-- what is known of a guard: it holds, it does not, or neither
pub data Guarded : Type 0 where
  Holds : Guarded
  Fails : Guarded
  Unsure : Guarded

abbrev pub guarded_by : Option ℕ → Guarded
guarded_by None = Unsure
guarded_by (Some zero) = Fails
guarded_by (Some (suc n)) = Holds

abbrev pub guard_in : Setting → PartialState → Option Expr → Guarded
guard_in s k None = Holds
guard_in s k (Some e) = guarded_by (value_in s k e)

-- a flag for a cell; that of the zero cell stays
abbrev pub put_flag : Option ℕ → ℕ → Bool → List Bool → List Bool
put_flag None c b known = slice_set known c b
put_flag (Some zero_cell) c b known = if c == zero_cell then known else slice_set known c b

-- a cell becomes unknown; the zero cell stays
abbrev pub forgets : Setting → ℕ → PartialState → PartialState
forgets s c k = record k { known = put_flag s.machine.zero c false k.known }

-- a cell gets a value, or becomes unknown; the zero cell stays
abbrev pub puts : Setting → ℕ → Option ℕ → PartialState → PartialState
puts s c None k = forgets s c k
puts s c (Some v) k = record k { values = put_cell s.machine.zero c v k.values; known = put_flag s.machine.zero c true k.known }

-- a cell's value with some bits put in: nothing is known of it where the cell was unknown
abbrev pub value_with_bits : Bool → (lo hi old : ℕ) → Option ℕ → Option ℕ
value_with_bits true lo hi old (Some v) = Some (with_bits lo hi old v)
value_with_bits _ lo hi old _ = None

abbrev pub puts_bits : Setting → (c lo hi : ℕ) → Option ℕ → PartialState → PartialState
puts_bits s c lo hi v k = puts s c (value_with_bits (slice_index_or k.known c false) lo hi (slice_index k.values c) v) k

-- so many cells from the first on become unknown
abbrev pub forgets_from : Setting → (first count : ℕ) → PartialState → PartialState
forgets_from s first zero k = k
forgets_from s first (suc n) k = forgets_from s (first + 1) n (forgets s first k)

-- the cells that a move of the window assigns become unknown
abbrev pub forgets_windows : Setting → Option WinShape → PartialState → PartialState
forgets_windows s None k = k
forgets_windows s (Some w) k = forgets_from s w.in_first w.count (forgets_from s w.local_first w.count (forgets_from s w.out_first w.count k))

abbrev pub forgets_flag : Setting → Option ℕ → PartialState → PartialState
forgets_flag s None k = k
forgets_flag s (Some c) k = forgets s c k

-- the cells that a service assigns become unknown
abbrev pub forgets_answer : Setting → Option ServiceShape → PartialState → PartialState
forgets_answer s None k = k
forgets_answer s (Some shape) k = forgets_flag s shape.error (forgets s shape.result k)

-- an act that is done; a store does nothing, and a trap ends no partial run
abbrev pub act_done : Setting → Act → PartialState → PartialState
act_done s (SetCell c e) k = puts s c (value_in s k e) k
act_done s (SetSlice c lo hi e) k = puts_bits s c lo hi (value_in s k e) k
act_done s (Store n a e) k = k
act_done s (Jump e) k = record k { taken = true; target = value_in s k e }
act_done s Annul k = record k { passes = true }
act_done s (TrapWith e) k = k
act_done s Service k = forgets_answer s s.conv.service k
act_done s WinSave k = forgets_windows s s.machine.windows k
act_done s WinRestore k = forgets_windows s s.machine.windows k

-- an act of which it is not known whether it is done: its cells become unknown, an annul passes nothing over, and a jump neither
-- leaves nor counts as untaken, but its target is kept
abbrev pub act_unsure : Setting → Act → PartialState → PartialState
act_unsure s (SetCell c e) k = forgets s c k
act_unsure s (SetSlice c lo hi e) k = forgets s c k
act_unsure s (Store n a e) k = k
act_unsure s (Jump e) k = record k { target = value_in s k e }
act_unsure s Annul k = k
act_unsure s (TrapWith e) k = k
act_unsure s Service k = forgets_answer s s.conv.service k
act_unsure s WinSave k = forgets_windows s s.machine.windows k
act_unsure s WinRestore k = forgets_windows s s.machine.windows k

-- an act that is not done: of a jump that is remembered
abbrev pub act_not_done : Setting → Act → PartialState → PartialState
act_not_done s (Jump e) k = record k { untaken = true; target = value_in s k e }
act_not_done s _ k = k

abbrev pub act_by : Setting → Guarded → Act → PartialState → PartialState
act_by s Holds act k = act_done s act k
act_by s Fails act k = act_not_done s act k
act_by s Unsure act k = act_unsure s act k

-- the transfers of an instruction, in order
abbrev pub partly_transferred : Setting → List Transfer → PartialState → PartialState
partly_transferred s [] k = k
partly_transferred s (t ∷ ts) k = partly_transferred s ts (act_by s (guard_in s k t.guard) t.act k)

-- ---- runs

-- an instruction before the jump: it is passed over, or done
abbrev pub partly_done : Setting → GroundInst → PartialState → PartialState
partly_done s i k = if k.passes then record k { passes = false } else partly_transferred s i.transfers k

abbrev pub all_partly_done : Setting → List GroundInst → PartialState → PartialState
all_partly_done s [] k = k
all_partly_done s (i ∷ is) k = all_partly_done s is (partly_done s i k)

-- what a partial run comes to: whether a jump before the last instruction was taken, whether some jump was not, and the
-- target of the last instruction where it is known
pub record PartialEnd : Type 0 where
  pub leaves : Bool
  pub untaken : Bool
  pub target : Option ℕ

-- the last instruction: it has no target where the run left before it or passes it over; its own jump does not leave
abbrev pub ended_at : Setting → GroundInst → PartialState → PartialEnd
ended_at s jump k =
    if k.taken || k.passes then record { leaves = k.taken; untaken = k.untaken; target = None }
    else let last = partly_transferred s jump.transfers (record k { target = None }) in record { leaves = false; untaken = last.untaken; target = last.target }

abbrev pub with_zero_known : Option ℕ → List Bool → List Bool
with_zero_known None known = known
with_zero_known (Some zero_cell) known = slice_set known zero_cell true

-- at the start one cell is x and the zero cell is 0; no other is known
abbrev pub knowing_only : Setting → (c x : ℕ) → PartialState
knowing_only s c x = record {
  values = slice_set (replicate (length s.machine.widths) 0) c x;
  known = slice_set (with_zero_known s.machine.zero (replicate (length s.machine.widths) false)) c true;
  taken = false;
  untaken = false;
  passes = false;
  target = None;
}

-- an x that does not fit its cell neither leaves nor has a target
abbrev pub nowhere : PartialEnd
nowhere = record { leaves = false; untaken = false; target = None }

-- the partial run of some instructions and the jump behind them, with x in the cell
unfoldable pub partial_end : Setting → List GroundInst → GroundInst → (c x : ℕ) → PartialEnd
partial_end s before jump c x =
    if nat_lt x (2 ^ slice_index s.machine.widths c) then ended_at s jump (all_partly_done s before (knowing_only s c x)) else nowhere
