-- How instructions jump: plain jumps, calls and returns, to constant and to computed targets.
-- The SPARC Architecture Manual, Version 8, "Call and Link Instruction", "Jump and Link Instruction", "Delayed Control Transfers".
use Rattle.std.specs.Prelude.{ℕ, ◌+◌, ◌%◌, ◌^◌, ◌==◌, ◌&&◌, Bool, true, false, not, is_some, if◌then◌else◌, List, [], ◌∷◌, Option, Some, None, Result, Ok, Err}
use Rattle.std.specs.List.{list_any}
use Rattle.std.specs.Option.{option_or}
use Rattle.rtl_core.specs.declared.conv.Conv.{Conv}
use Rattle.rtl_core.specs.declared.expr.Expr.{Expr}
use Rattle.rtl_core.specs.declared.inst.GroundInst.{GroundInst}
use Rattle.rtl_core.specs.declared.machine.Machine.{Machine}
use Rattle.rtl_core.specs.declared.stop.Trap.{Trap}
use Rattle.rtl_core.specs.declared.transfer.Act.{Act}
use Rattle.rtl_core.specs.declared.transfer.Act.TheVariants.{SetCell, SetSlice, Jump, WinRestore}
use Rattle.rtl_core.specs.declared.transfer.Transfer.{Transfer}
use Rattle.rtl_core.specs.Arithmetic.{is_division}
use Rattle.rtl_core.specs.Terms.{Term, Const, Cell, Load, Unary, Binary, Slice, Zext, Sext, Choice, term_of}
use Rattle.rtl_core.specs.Value.{value_of}
use Rattle.points.specs.declared.block.Block.{Block}
use Rattle.points.specs.declared.block.JumpKind.{JumpKind}
use Rattle.points.specs.declared.jumps.Manner.{Manner}
use Rattle.points.specs.declared.jumps.Manner.TheVariants.{Plain, Calling, Returning}
use Rattle.points.specs.declared.block.Standing.{Standing}
use Rattle.points.specs.declared.block.Standing.TheVariants.{Outside, Illegal, Stands}
use Rattle.points.specs.Machine.{Setting, standing}

-- ---- addresses

-- the address some bytes behind another; addresses wrap at 2^32
abbrev pub further : ℕ → ℕ → ℕ
further a bytes = (a + bytes) % 2 ^ 32

-- the address behind the delay slot that begins at an address; without delay slots, the address itself
abbrev pub past_slot : Option ℕ → ℕ → ℕ
past_slot None a = a
past_slot (Some delay) a = further a delay

-- ---- targets

-- a term without cell, load, division and remainder has the same value at each moment
abbrev pub is_constant : Term → Bool
is_constant (Const w n) = true
is_constant (Cell c) = false
is_constant (Load b a) = false
is_constant (Unary op a) = is_constant a
is_constant (Binary op a b) = not (is_division op) && (is_constant a && is_constant b)
is_constant (Slice a lo hi) = is_constant a
is_constant (Zext w a) = is_constant a
is_constant (Sext w a) = is_constant a
is_constant (Choice c a b) = is_constant c && (is_constant a && is_constant b)

-- a value, or 0 in place of a trap
abbrev pub value_or_zero : Result ℕ Trap → ℕ
value_or_zero (Ok v) = v
value_or_zero (Err trap) = 0

-- the value of a constant term, which needs no cells and no memory
abbrev pub constant_value : Machine → Term → ℕ
constant_value m t = value_or_zero (value_of m [] (λ a. None) t)

-- the target of a jump, where it is constant
abbrev pub constant_target : Machine → Expr → Option ℕ
constant_target m e = if is_constant (term_of e) then Some (constant_value m (term_of e)) else None

-- where an act jumps, if it is a jump
abbrev pub act_target : Act → Option Expr
act_target (Jump e) = Some e
act_target _ = None

-- the target of an instruction's jump, where it has one
abbrev pub jump_target : List Transfer → Option Expr
jump_target [] = None
jump_target (t ∷ ts) = option_or (act_target t.act) (jump_target ts)

-- ---- plain jumps, calls and returns

-- the conventions name a constructor
abbrev pub is_named : List ℕ → ℕ → Bool
is_named constructors c = list_any (λ d. d == c) constructors

-- this is the link cell
abbrev pub is_link : Option ℕ → ℕ → Bool
is_link None c = false
is_link (Some link) c = c == link

-- an act that replaces the return address of the procedure: it assigns the link cell, or restores the caller's window
abbrev pub replaces_return : Option ℕ → Act → Bool
replaces_return link (SetCell c e) = is_link link c
replaces_return link (SetSlice c lo hi e) = is_link link c
replaces_return link WinRestore = true
replaces_return link _ = false

-- an instruction by which it does so, whatever the guards
abbrev pub standing_replaces_return : Option ℕ → Standing → Bool
standing_replaces_return link Outside = false
standing_replaces_return link Illegal = false
standing_replaces_return link (Stands inst) = list_any (λ t. replaces_return link t.act) inst.transfers

-- on a machine with delay, a call whose slot begins at `next` hands the caller's return address on to the procedure
-- that it enters: a sibling call, which is a plain jump
abbrev pub is_sibling : Setting → ℕ → Bool
is_sibling setting next = is_some setting.machine.delay && standing_replaces_return setting.conv.link (standing setting next)

-- what an instruction's jump is for: a constructor that is named for both makes calls
abbrev pub manner_of : Setting → GroundInst → Manner
manner_of setting inst =
    if is_named setting.conv.calls inst.constructor then (if is_sibling setting inst.next then Plain else Calling)
    else if is_named setting.conv.returns inst.constructor then Returning
    else Plain

-- the return address of a call: behind the instruction, and behind its slot where there is one
abbrev pub return_address : Machine → GroundInst → ℕ
return_address m inst = past_slot m.delay inst.next

-- how an instruction jumps, by what for, its target where that is constant, and its return address
abbrev pub kind_by : Manner → Option ℕ → ℕ → JumpKind
kind_by Plain None back = JumpKind.Dyn
kind_by Plain (Some t) back = JumpKind.To t
kind_by Calling None back = JumpKind.CallDyn back
kind_by Calling (Some t) back = JumpKind.CallTo t back
kind_by Returning target back = JumpKind.Ret

-- how an instruction with this target jumps
abbrev pub kind_to : Setting → GroundInst → Option Expr → JumpKind
kind_to setting inst None = JumpKind.Never
kind_to setting inst (Some e) = kind_by (manner_of setting inst) (constant_target setting.machine e) (return_address setting.machine inst)

-- how an instruction jumps
abbrev pub kind_of : Setting → GroundInst → JumpKind
kind_of setting inst = kind_to setting inst (jump_target inst.transfers)

-- what stands there, with how it jumps
abbrev pub block_of : Setting → Standing → Block
block_of setting Outside = Block.Outside
block_of setting Illegal = Block.Illegal
block_of setting (Stands inst) = Block.Inst inst (kind_of setting inst)

-- what stands at an address, with how it jumps
unfoldable pub block_at : Setting → ℕ → Block
block_at setting pc = block_of setting (standing setting pc)

-- ---- second return points

-- the address behind a pad
abbrev pub behind_pad : Conv → Standing → Option ℕ
behind_pad conv Outside = None
behind_pad conv Illegal = None
behind_pad conv (Stands inst) = if is_named conv.pads inst.constructor then Some inst.next else None

-- where a procedure may return to besides a return address: behind the pad that stands there, if one does
unfoldable pub second : Setting → ℕ → Option ℕ
second setting r = behind_pad setting.conv (standing setting r)
